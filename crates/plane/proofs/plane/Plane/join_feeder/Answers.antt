use Rattle.std.proofs.Common.{◌≤◌, ◌∙◌, sym, ap, subst, length}
use Rattle.packet_entry.specs.ListWithRoom.{ListWithRoom}
use Rattle.packet_entry.specs.declared.packet.Card.{Card}
use Rattle.plane.specs.Feeders.{count_of}
use Rattle.plane.specs.Numbers.{most_fed}
use Rattle.plane.specs.Past.{fed_by}
use Rattle.plane.specs.Planes.{setting_of}
use Rattle.plane.proofs.FeederPasses.{both_so, joined_so}
use Rattle.plane.proofs.JoinedFeeders.{both_put, counted_both}
use Rattle.plane.proofs.plane.Plane.join_feeder.Goals as goal

pub join-lost-requires-clause-of : goal.join-lost-requires-clause-of
join-lost-requires-clause-of c = (rw (← c.into.view_is) at c.requires.into).of

pub join-lost-requires-clause-from_of : goal.join-lost-requires-clause-from_of
join-lost-requires-clause-from_of c = (rw (← c.from.view_is) at c.requires.from).of

pub invariant_of-into : goal.invariant_of-into
invariant_of-into c = (
  record {
    counted = c.up_to_most-before.ensures
        ∙ counted_both (fed_by c.into.inside.past) c.into.inside.fed.items
        (fed_by c.from.inside.past) c.into.inside.fed_before c.len.result
        c.from.inside.fed_before c.into.invariant.0.counted c.len.ensures
        c.from.invariant.0.counted
        ∙ ap count_of (sym c.put_behind.ensures.fed);
    few = subst (λ (s : ListWithRoom Card). length s.items ≤ most_fed)
        (sym c.put_behind.ensures.own) c.from.invariant.0.few;
  },
  c.join-lost.ensures.timely c.into.invariant.1 c.from.invariant.1,
)

pub returns-clause-into : goal.returns-clause-into
returns-clause-into c =
    let one = rw (← c.into.view_is) at c.requires.into in
    let two = rw (← c.from.view_is) at c.requires.from in
    let put =
    both_put c.into.inside.past c.from.inside.past c.put_behind.new.past c.into.inside.fed
    c.from.inside.fed c.put_behind.new.own c.join-lost.result.items _ _ _ c.put_behind.ensures.fed
    c.put_behind.ensures.lost c.put_behind.ensures.own c.join-lost.ensures.lost in
    record {
      of = c.join-lost.ensures.of;
      balanced = both_so c.rows_are_balanced_together.ensures (setting_of c.args.self.now) _ _ _
          _ _ _ _ _ _ one.balanced two.balanced c.join-lost.ensures.joined put.0 put.1;
    }

pub returns-clause-joined : goal.returns-clause-joined
returns-clause-joined c =
    let one = rw (← c.into.view_is) at c.requires.into in
    let two = rw (← c.from.view_is) at c.requires.from in
    let law = c.joined_rows_have_what_both_had.ensures in
    let put =
    both_put c.into.inside.past c.from.inside.past c.put_behind.new.past c.into.inside.fed
    c.from.inside.fed c.put_behind.new.own c.join-lost.result.items _ _ _ c.put_behind.ensures.fed
    c.put_behind.ensures.lost c.put_behind.ensures.own c.join-lost.ensures.lost in
    rw (← c.into.view_is, ← c.from.view_is)
    (joined_so law.sent law.parts (setting_of c.args.self.now) _ _ _ one.balanced two.balanced
    c.join-lost.ensures.joined c.join-lost.ensures.locks put.0 put.1)
