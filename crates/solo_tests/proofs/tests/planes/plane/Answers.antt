use Rattle.std.proofs.Common.{◌≡◌, ◌≤◌, [], ◌∷◌, nat_eq, arith, refl, sym, subst, length, false}
use Rattle.std.specs.Prelude.{IsSomeAnd}
use Rattle.std.proofs.lemmas.Map.Keys.{IsDistinct-from_apart}
use Rattle.packet_moves.specs.World.{World}
use Rattle.solo_tests.proofs.tests.planes.plane.Goals as goal

pub new-requires-2-clause-apart : goal.new-requires-2-clause-apart
new-requires-2-clause-apart c =
    IsDistinct-from_apart nat_eq (7 ∷ []) (λ i j d before within. absurd (omega arith))

pub returns : goal.returns
returns c =
    let Open : World → Type 0 = λ w. IsSomeAnd (w.ports 7) (λ port. port.is_closed ≡ false) in
    let Few : World → Type 0 = λ w. length w.fed ≤ 0 in
    record {
      port = subst Open (sym c.in_ok-new.ensures.world) refl;
      few = subst Few (sym c.in_ok-new.ensures.world) (omega arith);
    }
