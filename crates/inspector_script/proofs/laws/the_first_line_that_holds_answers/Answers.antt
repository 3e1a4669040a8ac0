use Rattle.std.proofs.Common.{[], ap}
use Rattle.std.specs.Option.{option_map_or}
use Rattle.script_lines.specs.Answering.{asks_of, holds_all}
use Rattle.inspector_script.proofs.FirstMatch.{found}
use Rattle.inspector_script.proofs.laws.the_first_line_that_holds_answers.Goals as goal

pub returns : goal.returns
returns c =
    λ received n before line after none holds.
    ap (λ found. option_map_or (asks_of n) found [])
    (found (holds_all received n) before line after none holds)
