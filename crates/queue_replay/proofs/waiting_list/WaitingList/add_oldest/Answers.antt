use Rattle.std.proofs.Common.{◌≡◌, ◌-◌, [], rules}
use Rattle.queue_replay.proofs.Departures.{leaving_next, leaving_ends, leaving_done}
use Rattle.queue_replay.proofs.OnwardPackets.{one_less}
use Rattle.queue_replay.proofs.waiting_list.WaitingList.add_oldest.Goals as goal

pub returns-then-more-eq0 : goal.returns-then-more-eq0
returns-then-more-eq0 c =
    leaving_ends c.loop-card.visits.items [] _ c.loop-card.more 0 c.loop-card.card-iterator
    c.if-more-eq0.true c.loop-card.invariant.2

pub loop-card-preserved : goal.loop-card-preserved
loop-card-preserved c = (
  search rules,
  search rules,
  leaving_next c.loop-card.visits.items c.push.new.self.items _ c.loop-card.more
      (c.loop-card.more - 1) c.loop-card.card-iterator c.next.new.self _
      (one_less c.loop-card.more c.if-more-eq0.false) c.in-Some.ensures.steps
      (search rules) c.loop-card.invariant.2,
)

pub returns : goal.returns
returns c =
    let none : c.loop-card.card-iterator ≡ [] = search rules in
    leaving_done c.loop-card.visits.items [] _ c.loop-card.more 0 c.loop-card.card-iterator none
    c.loop-card.invariant.2
