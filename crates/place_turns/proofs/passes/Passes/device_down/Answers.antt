use Rattle.std.proofs.Common.{arith}
use Rattle.place_turns.proofs.AtPlace.{AtPlace, at_place, enters}
use Rattle.place_turns.proofs.PassCalls.{look_turn, look_open, look_kept, down_turn, down_so}
use Rattle.place_turns.proofs.PassCalls.{down_kept}
use Rattle.place_turns.proofs.Results.{ok_mapped, err_mapped, either_way}
use Rattle.place_turns.proofs.passes.Passes.device_down.Goals as goal

pub device_down-requires : goal.device_down-requires
device_down-requires g c = record {
  pass = enters (at_place c.rows_know_the_same_without_times.ensures.known
      c.rows_know_the_same_without_times.ensures.timed _ _ _ _ _
      (rw (← c.self.view_is) at c.requires.of)
      (omega (arith, c.requires.there, c.args.places.now.sized)) c.index.ensures
      c.index_mut.ensures.value);
}

at : (g : _) (c : goal.After-self-1 g) →
    AtPlace c.args.places.now c.self.inside.row.items c.args.place c.index.result.now
    c.index_mut.result.now
at g c =
    at_place c.rows_know_the_same_without_times.ensures.known
    c.rows_know_the_same_without_times.ensures.timed _ _ _ _ _
    (rw (← c.self.view_is) at c.requires.of)
    (omega (arith, c.requires.there, c.args.places.now.sized)) c.index.ensures
    c.index_mut.ensures.value

pub invariant_of-self : goal.invariant_of-self
invariant_of-self g c =
    let grows = c.own_entries_grow_by_each_turn.ensures.sent in
    let counts = c.self.inside.sent.items in
    either_way c.device_down.result _ _ _ c.device_down.ensures.turn c.device_down.ensures.err
    (λ count turn. down_kept (at g c) c.device_down.new.pass _ _ c.args.device count turn grows
    c.device_down.ensures.short counts c.self.invariant)
    (λ turn. look_kept (at g c) c.device_down.new.pass _ _ turn grows counts c.self.invariant)

pub returns-clause-of : goal.returns-clause-of
returns-clause-of g c =
    (at g c).after c.device_down.new.pass c.device_down.ensures.part c.device_down.ensures.pass

pub returns-clause-turn : goal.returns-clause-turn
returns-clause-turn g c =
    rw (← c.self.view_is)
    (ok_mapped c.device_down.result _ _ (λ count turn.
    down_turn (at g c) c.device_down.new.pass _ _ c.args.device count turn)
    c.device_down.ensures.turn)

pub returns-clause-err : goal.returns-clause-err
returns-clause-err g c =
    rw (← c.self.view_is)
    (err_mapped c.device_down.result _ _
    (λ turn. look_turn (at g c) c.device_down.new.pass _ _ turn) c.device_down.ensures.err)

pub returns-clause-timely : goal.returns-clause-timely
returns-clause-timely g c h is =
    let was = rw (← c.self.view_is) at is in
    either_way c.device_down.result _ _ _ c.device_down.ensures.turn c.device_down.ensures.err
    (λ count turn. down_so (at g c) c.device_down.new.pass _ _ c.args.device count turn h was)
    (λ turn. look_open (at g c) c.device_down.new.pass _ _ turn h was)
