-- The times of the lines that take effect ascend.
use Rattle.std.proofs.Common.{◌≡◌, ◌≤◌, ℕ, zero, suc, ◌+◌, List, [], ◌∷◌, ◌++◌, inl, inr, arith}
use Rattle.std.specs.Prelude.{filter}
use Rattle.std.proofs.lemmas.Bool.{cases_Bool, eqb-true}
use Rattle.script_lines.specs.declared.line.Down.{Down}
use Rattle.inspector_script.specs.Scripts.{ScriptValue}
use Rattle.run_parts.specs.Feeder.{falling_time, is_after, downs_from, downs_in_effect}
use Rattle.feeder_audit.specs.Fitting.{Rises}

-- those of one frame, and then those of later ones
one_frame : (number : ℕ) (xs ys : List Down) (t : ℕ) → t ≤ falling_time number →
    ((u : ℕ) → u ≤ falling_time number → Rises u ys) → Rises t (filter (is_after number) xs ++ ys)
one_frame number [] ys t less later = later t less
one_frame number (x ∷ xs) ys t less later = elim (cases_Bool (is_after number x)) [
  | inl own ↦ (let at : x.after ≡ number = eqb-true x.after number own in
      rw own (
        omega (arith, less, at),
        one_frame number xs ys (falling_time x.after) (omega (arith, at)) later,
      ))
  | inr other ↦ rw other (one_frame number xs ys t less later)
]

rises_from : (script : ScriptValue) (frames number t : ℕ) → t ≤ falling_time number →
    Rises t (downs_from script number frames)
rises_from script zero number t less = tt
rises_from script (suc frames) number t less =
    one_frame number script.downs (downs_from script (number + 1) frames) t less
    (λ u before. rises_from script frames (number + 1) u (omega (arith, before)))

pub all_rise : (script : ScriptValue) (frames : ℕ) → Rises 0 (downs_in_effect script frames)
all_rise script frames = rises_from script (suc frames) 0 0 (omega arith)
