use Rattle.place_turns.proofs.LongerViews.{sent_open}
use Rattle.place_turns.proofs.messages.carry_out.Goals as goal

pub returns-in-Nothing-clause-timely : goal.returns-in-Nothing-clause-timely
returns-in-Nothing-clause-timely g c dids heard words answer is =
    sent_open c.args.passes.now.clock c.args.port c.args.call words answer
    c.args.passes.now.timed dids heard is

pub returns-in-Refused-clause-timely : goal.returns-in-Refused-clause-timely
returns-in-Refused-clause-timely g c dids heard words answer is =
    sent_open c.args.passes.now.clock c.args.port c.args.call words answer
    c.args.passes.now.timed dids heard is
