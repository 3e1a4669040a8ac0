use Rattle.std.proofs.Common.{Some, sym, ◌∙◌}
use mathlib.Core.Option.{some-injective}
use Rattle.turn_lock.proofs.Steps.{closes, closes_at}
use Rattle.turn_lock.proofs.lock.TurnLock.close.Goals as goal

pub unreachable-requires : goal.unreachable-requires
unreachable-requires g c =
    let h = closes g.S.Storied.entries g.S.Storied.label _ _ _ _ _ c.requires.whole
    c.requires.outside c.close_with-closed.ensures.values.2 in
    let e = some-injective (Some h.0) c.take-slot.result (sym h.1 ∙ c.take-slot.ensures.value) in
    c.in_default.not-Some h.0 (sym e)

pub returns-clause-begins : goal.returns-clause-begins
returns-clause-begins g c =
    (closes_at g.S.Storied.entries g.S.Storied.label _ _ _ _ _ _ _ c.requires.whole
    c.requires.outside c.close_with-closed.ensures.values.2 c.take-slot.ensures.value
    c.in-Some.is).begins

pub returns-clause-own : goal.returns-clause-own
returns-clause-own g c =
    (closes_at g.S.Storied.entries g.S.Storied.label _ _ _ _ _ _ _ c.requires.whole
    c.requires.outside c.close_with-closed.ensures.values.2 c.take-slot.ensures.value
    c.in-Some.is).own

pub returns-clause-label : goal.returns-clause-label
returns-clause-label g c =
    (closes_at g.S.Storied.entries g.S.Storied.label _ _ _ _ _ _ _ c.requires.whole
    c.requires.outside c.close_with-closed.ensures.values.2 c.take-slot.ensures.value
    c.in-Some.is).named
