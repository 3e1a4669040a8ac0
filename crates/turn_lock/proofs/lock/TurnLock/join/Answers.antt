use Rattle.std.proofs.Common.{◌≡◌, true, false, sym, ap, ◌∙◌, subst, rules}
use Rattle.turn_lock.specs.Parts.{void, is_normal}
use Rattle.turn_lock.specs.Places.{IsPlaced}
use Rattle.turn_lock.specs.Turns.{Met}
use Rattle.turn_lock.specs.Slots.{carried}
use Rattle.turn_lock.proofs.Trees.{normal_union, live_union}
use Rattle.turn_lock.proofs.Ends.{placed_joined}
use Rattle.turn_lock.proofs.Steps.{joins, tells}
use Rattle.turn_lock.proofs.lock.TurnLock.join.Goals as goal

pub join_seat-requires : goal.join_seat-requires
join_seat-requires g c =
    let p = c.args.into.now in
    let q = c.args.from in (
      search rules,
      search rules,
      q.carries ∙ ap carried c.requires.outside.1,
      search rules,
      joins g.S.Storied.entries g.S.Storied.label _ _ _ _ _ p.live q.live c.requires.outside.0
          c.requires.outside.1,
    )

pub load-requires : goal.load-requires
load-requires g c =
    let p = c.args.into.now in
    let q = c.args.from in
    let e = c.join_seat.ensures.2 in (
      search rules,
      search rules,
      tells g.S.Storied.entries g.S.Storied.label _ _ _ _ _ _ _ _
          (ap (λ m. void m.0.part) e ∙ live_union p.seat.me.0.part q.seat.me.0.part p.live)
          (ap (λ m. m.0.turn) e),
    )

pub invariant_of-into : goal.invariant_of-into
invariant_of-into g c =
    let p = c.args.into.now in
    let q = c.args.from in
    let e = c.join_seat.ensures.2 in
    let f = c.load.ensures.2.0 in
    let met = subst (λ m. Met m.0.seen m.0.turn) e c.load.ensures.2.1 in record {
      placed = subst (λ m. IsPlaced m.0.seen m.0.own) (sym f)
          (subst (λ m. IsPlaced m.0.seen m.0.own) (sym e)
          (placed_joined p.seat.me.0.seen q.seat.me.0.seen p.seat.me.0.own q.seat.me.0.own met
          p.placed q.placed));
      normal = subst (λ m. is_normal m.0.part ≡ true) (sym f)
          (subst (λ m. is_normal m.0.part ≡ true) (sym e)
          (normal_union p.seat.me.0.part q.seat.me.0.part p.normal q.normal));
      live = subst (λ m. void m.0.part ≡ false) (sym f)
          (subst (λ m. void m.0.part ≡ false) (sym e)
          (live_union p.seat.me.0.part q.seat.me.0.part p.live));
      carries = subst (λ m. m.1 ≡ carried m.0.turn) (sym f)
          (ap (λ m. m.1) e ∙ (p.carries ∙ ap carried c.requires.outside.0));
    }
