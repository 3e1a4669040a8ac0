use Rattle.std.proofs.Common.{◌≡◌, [], ◌∷◌, nat_eq, arith, refl, sym, subst, false}
use Rattle.std.specs.Prelude.{IsSomeAnd}
use Rattle.std.proofs.lemmas.Map.Keys.{IsDistinct-from_apart}
use Rattle.packet_moves.specs.World.{World}
use Rattle.readme_snippets.proofs.solo.feed_one.Goals as goal

pub new-requires-clause-apart : goal.new-requires-clause-apart
new-requires-clause-apart c =
    IsDistinct-from_apart nat_eq (7 ∷ []) (λ i j d before within. absurd (omega arith))

pub message-requires-clause-port : goal.message-requires-clause-port
message-requires-clause-port c =
    let Open : World → Type 0 = λ w. IsSomeAnd (w.ports 7) (λ port. port.is_closed ≡ false) in
    subst Open (sym c.in-Ok.ensures.world) refl
