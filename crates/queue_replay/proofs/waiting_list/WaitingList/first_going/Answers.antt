use Rattle.std.proofs.Common.{◌≡◌, ◌++◌, ◌-◌, [], None, ap, ◌∙◌, rules}
use Rattle.packet_entry.specs.Card.{edited}
use Rattle.queue_replay.specs.Telling.{going_by}
use Rattle.queue_replay.proofs.OnwardPackets.{going_next, going_ends, going_done, one_less}
use Rattle.queue_replay.proofs.waiting_list.WaitingList.first_going.Goals as goal

pub returns-then-more-eq0 : goal.returns-then-more-eq0
returns-then-more-eq0 c =
    going_ends c.args.verdict c.args.mark c.args.priority c.loop-card.leavers.items _
    c.loop-card.more c.loop-card.card-iterator
    c.if-more-eq0.true c.loop-card.invariant.2

pub loop-card-preserved : goal.loop-card-preserved
loop-card-preserved c = (
  search rules,
  search rules,
  going_next c.args.verdict c.args.mark c.args.priority c.loop-card.leavers.items
      c.push_decided.new.leavers.items _ c.loop-card.more (c.loop-card.more - 1)
      c.loop-card.card-iterator c.next.new.self _
      (one_less c.loop-card.more c.if-more-eq0.false) c.in-Some.ensures.steps
      (c.in_ok-push_decided.ensures
      ∙ ap (λ card. c.loop-card.leavers.items ++ going_by c.args.verdict card)
      (c.changed-card.ensures ∙ ap (λ card. edited card c.args.mark None c.args.priority)
      c.in_ok-share.ensures)) c.loop-card.invariant.2,
)

pub returns : goal.returns
returns c =
    let none : c.loop-card.card-iterator ≡ [] = search rules in
    going_done c.args.verdict c.args.mark c.args.priority c.loop-card.leavers.items _
    c.loop-card.more c.loop-card.card-iterator none c.loop-card.invariant.2
