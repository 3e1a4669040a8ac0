use Rattle.std.proofs.Common.{[], ap}
use Rattle.std.specs.Option.{option_map_or}
use Rattle.script_lines.specs.Answering.{asks_of, holds_all}
use Rattle.inspector_script.proofs.FirstMatch.{not_found}
use Rattle.inspector_script.proofs.laws.nobody_answers_where_no_line_holds.Goals as goal

pub returns : goal.returns
returns c =
    λ received n lines none.
    ap (λ found. option_map_or (asks_of n) found [])
    (not_found (holds_all received n) lines none)
