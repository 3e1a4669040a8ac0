use Rattle.std.proofs.Common.{◌≡◌, refl, sym, subst, List}
use Rattle.std.specs.Prelude.{OnOk}
use Rattle.total_order.specs.Orders.{untimed}
use Rattle.histories.specs.declared.entry.Entry.{Entry}
use Rattle.place_history.specs.Lines.{AreLined}
use Rattle.place_history.specs.PlaceState.{AreHere}
use Rattle.locked_place.specs.Views.{PlaceLabel, label_of}
use Rattle.locked_place.proofs.Labels.{label_begun}
use Rattle.turn_lock.specs.Passes.{view_of, state_of}
use Rattle.locked_place.proofs.TurnTimes.{Taken, taken, looks, stamps_none}
use Rattle.locked_place.proofs.turns.put_lines.Goals as goal

turn : (g : _) (c : goal.After-leave g) →
    Taken c.args.clock.now c.begin_turn.result (view_of c.args.pass.now)
    (view_of c.leave.new.pass) c.begin_turn.new.self.entries c.begin_turn.new.self.entries
turn g c =
    taken (view_of c.args.pass.now) (view_of c.enter-held.new.pass) (view_of c.leave.new.pass)
    (state_of c.enter-held.result) c.state-place.result.now c.begin_turn.new.self
    c.begin_turn.new.self c.args.clock.now c.begin_turn.result
    c.state-place.ensures.value c.begin_turn.ensures.in_time c.begin_turn.ensures.later
    c.begin_turn.ensures.now (stamps_none c.begin_turn.new.self) c.enter-held.ensures.begins
    c.enter-held.ensures.inside c.leave.ensures.left

pub returns-clause-turn : goal.returns-clause-turn
returns-clause-turn g c =
    looks (turn g c) c.entries-entries.ensures.legal refl

pub returns-clause-lines : goal.returns-clause-lines
returns-clause-lines g c =
    subst (λ (l : List Entry). OnOk c.put_lines-put.result (AreLined l c.args.lines.now
    c.put_lines-put.new.lines)) (sym (turn g c).seen) c.put_lines-put.ensures

pub returns-clause-here : goal.returns-clause-here
returns-clause-here g c named of =
    let same : label_of c.begin_turn.new.self ≡ named =
    label_begun (state_of c.enter-held.result) c.state-place.result.now c.begin_turn.new.self
    c.begin_turn.result named _ c.state-place.ensures.value c.begin_turn.ensures.now
    c.enter-held.ensures.label of.named_so in
    subst (λ (p : PlaceLabel). AreHere p.places p.number (untimed (view_of c.leave.new.pass).seen))
    same
    (subst (λ (l : List Entry). AreHere c.begin_turn.new.self.places c.begin_turn.new.self.number
    l) (sym (turn g c).seen) c.entries-entries.ensures.here)
