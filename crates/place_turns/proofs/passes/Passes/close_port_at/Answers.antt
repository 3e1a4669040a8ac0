use Rattle.std.proofs.Common.{arith}
use Rattle.place_turns.proofs.AtPlace.{AtPlace, at_place, enters}
use Rattle.place_turns.proofs.PassCalls.{closing_turn, closing_so, closing_kept}
use Rattle.place_turns.proofs.passes.Passes.close_port_at.Goals as goal

pub close_port-requires : goal.close_port-requires
close_port-requires g c = record {
  pass = enters (at_place c.rows_know_the_same_without_times.ensures.known
      c.rows_know_the_same_without_times.ensures.timed _ _ _ _ _
      (rw (← c.self.view_is) at c.requires.of)
      (omega (arith, c.requires.there, c.args.places.now.sized)) c.index.ensures
      c.index_mut.ensures.value);
}

at : (g : _) (c : goal.After-self-1 g) →
    AtPlace c.args.places.now c.self.inside.row.items c.args.place c.index.result.now
    c.index_mut.result.now
at g c =
    at_place c.rows_know_the_same_without_times.ensures.known
    c.rows_know_the_same_without_times.ensures.timed _ _ _ _ _
    (rw (← c.self.view_is) at c.requires.of)
    (omega (arith, c.requires.there, c.args.places.now.sized)) c.index.ensures
    c.index_mut.ensures.value

pub invariant_of-self : goal.invariant_of-self
invariant_of-self g c =
    closing_kept (at g c) c.close_port.new.pass _ _ c.args.port c.close_port.result
    c.close_port.ensures.turn c.own_entries_grow_by_each_turn.ensures.sent
    c.close_port.ensures.short c.self.inside.sent.items c.self.invariant

pub returns-clause-of : goal.returns-clause-of
returns-clause-of g c =
    (at g c).after c.close_port.new.pass c.close_port.ensures.part c.close_port.ensures.pass

pub returns-clause-turn : goal.returns-clause-turn
returns-clause-turn g c =
    rw (← c.self.view_is)
    (closing_turn (at g c) c.close_port.new.pass _ _ c.args.port c.close_port.result
    c.close_port.ensures.turn)

pub returns-clause-timely : goal.returns-clause-timely
returns-clause-timely g c h of is =
    closing_so (at g c) c.close_port.new.pass _ _ c.args.port c.close_port.result
    c.close_port.ensures.turn h of (rw (← c.self.view_is) at is)
