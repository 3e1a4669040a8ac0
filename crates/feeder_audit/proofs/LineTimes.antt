-- The time behind some lines.
use Rattle.std.proofs.Common.{◌≡◌, ◌≤◌, ◌<◌, ℕ, zero, suc, ◌-◌, List, [], ◌∷◌, length, get_or}
use Rattle.std.proofs.Common.{refl, ap, ◌∙◌, arith}
use Rattle.script_lines.specs.declared.line.Down.{Down}
use Rattle.run_parts.specs.Feeder.{falling_time}
use Rattle.feeder_audit.specs.Fitting.{time_at}

-- it is that of the last of them
last_line : (k t : ℕ) (ds : List Down) (d : Down) → k < length ds →
    falling_time (get_or ds k d).after ≡ time_at t ds (suc k)
last_line k t [] d within = absurd (omega (arith, within))
last_line zero t (x ∷ ds) d within = refl
last_line (suc k) t (x ∷ ds) d within =
    last_line k (falling_time x.after) ds d (omega (arith, within))

pub time_is : (lines last t : ℕ) (ds : List Down) (d : Down) → 1 ≤ lines → last ≡ lines - 1 →
    lines ≤ length ds → falling_time (get_or ds last d).after ≡ time_at t ds lines
time_is zero last t ds d some is within = absurd (omega (arith, some))
time_is (suc k) last t ds d some is within =
    ap (λ n. falling_time (get_or ds n d).after) (let same : last ≡ k = omega (arith, is) in same)
    ∙ last_line k t ds d (omega (arith, within))
