use Rattle.std.proofs.Common.{arith, map}
use Rattle.std.proofs.lemmas.List.{length-map}
use Rattle.std.specs.String.{string_bytes}
use Rattle.command_line.proofs.Words.{too_few}
use Rattle.command_line.proofs.arguments.live_files_in.Goals as goal

pub returns-in_default-clause-call : goal.returns-in_default-clause-call
returns-in_default-clause-call c =
    too_few (map string_bytes c.args.words.now)
    (omega (arith, length-map c.args.words.now string_bytes, c.in_default.len_below))
