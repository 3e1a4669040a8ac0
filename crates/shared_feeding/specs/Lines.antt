-- The lines of a feeder's share.
use Rattle.std.specs.Prelude.{ℕ, List, filter}
use Rattle.script_lines.specs.declared.line.Down.{Down}
use Rattle.inspector_script.specs.Scripts.{ScriptValue}
use Rattle.run_parts.specs.Feeder.{downs_from, is_line_of}

-- Those after the frames of the share, among the first frames: frame by frame, those of one frame
-- in the script's order. Those before the first frame aren't among them.
abbrev pub share_downs : ScriptValue → ℕ → ℕ → ℕ → List Down
share_downs script feeders feeder frames =
    filter (is_line_of feeders feeder) (downs_from script 1 frames)
