use Rattle.std.proofs.Common.{◌≡◌, true, false, refl, sym, subst, rules}
use Rattle.turn_lock.specs.Parts.{void, is_normal}
use Rattle.turn_lock.specs.Places.{IsPlaced}
use Rattle.turn_lock.specs.Slots.{carried}
use Rattle.turn_lock.proofs.Trees.{normal_kept, normal_cut, live_kept, live_cut}
use Rattle.turn_lock.proofs.Steps.{splits}
use Rattle.turn_lock.proofs.lock.TurnLock.split.Goals as goal

pub split_seat-requires : goal.split_seat-requires
split_seat-requires g c = (
  c.requires.lock,
  search rules,
  splits g.S.Storied.entries
      g.S.Storied.label _ _ _ c.args.pass.now.live,
)

pub invariant_of-pass : goal.invariant_of-pass
invariant_of-pass g c =
    let p = c.args.pass.now in
    let e = c.split_seat.ensures.2 in record {
      placed = subst (λ m. IsPlaced m.0.seen m.0.own) (sym e) p.placed;
      normal = subst (λ m. is_normal m.0.part ≡ true) (sym e)
          (normal_kept p.seat.me.0.part p.normal p.live);
      live = subst (λ m. void m.0.part ≡ false) (sym e) (live_kept p.seat.me.0.part p.live);
      carries = subst (λ m. m.1 ≡ carried m.0.turn) (sym e) p.carries;
    }

pub invariant_of-result : goal.invariant_of-result
invariant_of-result g c =
    let p = c.args.pass.now in
    let e = c.split_seat.ensures.4 in record {
      placed = subst (λ m. IsPlaced m.0.seen m.0.own) (sym e) tt;
      normal = subst (λ m. is_normal m.0.part ≡ true) (sym e)
          (normal_cut p.seat.me.0.part p.normal p.live);
      live = subst (λ m. void m.0.part ≡ false) (sym e) (live_cut p.seat.me.0.part p.live);
      carries = subst (λ m. m.1 ≡ carried m.0.turn) (sym e) refl;
    }
