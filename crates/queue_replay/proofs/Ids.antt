-- Looks for a free id.
use Rattle.std.proofs.Common.{◌≡◌, ◌<◌, ℕ, zero, suc, ◌+◌, ◌-◌, List, true, false, cond, refl, ap}
use Rattle.std.proofs.Common.{◌∙◌, arith}
use Rattle.queue_core.specs.Ids.{is_among, id_after, free_from}

-- a look that finds the id free ends the walk
pub look_ends : (looks id : ℕ) (ids : List ℕ) → is_among ids id ≡ false →
    free_from looks id ids ≡ id
look_ends zero id ids free = refl
look_ends (suc looks) id ids free = ap (λ b. cond b (free_from looks (id_after id) ids) id) free

-- and one that doesn't goes on with the next
pub look_on : (n look id : ℕ) (ids : List ℕ) → look < n → is_among ids id ≡ true →
    free_from (n - look) id ids ≡ free_from (n - (look + 1)) (id_after id) ids
look_on n look id ids less taken =
    let more : n - look ≡ suc (n - (look + 1)) = omega (arith, less) in
    ap (λ k. free_from k id ids) more
    ∙ ap (λ b. cond b (free_from (n - (look + 1)) (id_after id) ids) id) taken
