use Rattle.live_work.proofs.PortMinds.{answers_so, mind_on}
use Rattle.live_work.proofs.mind.Mind.answer.Goals as goal

pub returns-clause-asks : goal.returns-clause-asks
returns-clause-asks c =
    answers_so c.args.script.now c.args.self.now c.args.letter.now c.in_ok-asks.asks
    c.in_ok-asks.ensures.asks

pub returns-clause-counted : goal.returns-clause-counted
returns-clause-counted c =
    mind_on c.args.script.now c.args.self.now _ c.args.letter.now c.in_ok-asks.ensures.counted
    c.saturating_add-self.ensures
