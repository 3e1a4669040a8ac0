-- Whether there is one order, as it is found out: again and again the first thing is taken that may
-- come next. No choice is ever undone, since taking one thing loses no other.
use Rattle.std.specs.Prelude.{ℕ, zero, suc, Bool, true, false, List, [], ◌∷◌, ◌++◌, not, ◌&&◌}
use Rattle.std.specs.Prelude.{◌==◌, if◌then◌else◌, length, Option, Some, None}
use Rattle.std.specs.List.{list_all, list_any}

module _ {E : Type 0} where
  abbrev pub is_none : List E → Bool
  is_none [] = true
  is_none (x ∷ xs) = false

module _ {E : Type 0} (place : E → ℕ) (can : List E → E → Bool) (may : E → E → Bool) where
  -- After these, of which all were taken, the thing between `us` and `vs` is ready: it is the first
  -- of its place, it is caused by what was taken, and it may come before each of the others.
  abbrev pub is_ready : List E → List E → E → List E → Bool
  is_ready before us s vs =
      not (list_any (λ u. place u == place s) us)
      && (can before s && list_all (λ r. may s r) (us ++ vs))

  -- the first of `vs` that is ready, and all others
  abbrev pub first_ready : List E → List E → List E → Option (E × List E)
  first_ready before us [] = None
  first_ready before us (s ∷ vs) =
      if is_ready before us s vs then Some (s, us ++ vs)
      else first_ready before (us ++ s ∷ []) vs

  -- one is taken, and then as many as can be
  abbrev pub takes : (List E → List E → Bool) → List E → List E → Option (E × List E) → Bool
  takes on before rest None = is_none rest
  takes on before rest (Some (s, others)) = on (before ++ s ∷ []) others

  -- whether all are taken, in so many steps
  abbrev pub takes_in : ℕ → List E → List E → Bool
  takes_in zero before rest = is_none rest
  takes_in (suc n) before rest = takes (takes_in n) before rest (first_ready before [] rest)

  abbrev pub takes_all : List E → Bool
  takes_all es = takes_in (length es) [] es
