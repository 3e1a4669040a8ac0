-- The `down` lines of a script by the frame after which they take effect.
use Rattle.std.specs.Prelude.{◌≡◌, ℕ, List, [], unwrap_or}
use Rattle.std.specs.BTreeMap.{BTreeMap, get}
use Rattle.std.specs.Ordering.{nat_cmp}
use Rattle.script_lines.specs.declared.line.Down.{Down}
use Rattle.inspector_script.specs.Scripts.{ScriptValue}
use Rattle.run_parts.specs.Feeder.{downs_after}

-- the lines that stand by this frame's number
abbrev pub lines_after : BTreeMap ℕ (List Down) → ℕ → List Down
lines_after by_frame number = unwrap_or (get nat_cmp by_frame number) []

-- by each frame's number stand the script's lines for it, in their order
abbrev pub AreDownsOf : ScriptValue → BTreeMap ℕ (List Down) → Type 0
AreDownsOf script by_frame = (number : ℕ) → lines_after by_frame number ≡ downs_after script number
