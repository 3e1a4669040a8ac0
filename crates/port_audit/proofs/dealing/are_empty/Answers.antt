use Rattle.std.proofs.Common.{ap, length}
use Rattle.std.proofs.lemmas.List.{nil_from_length}
use Rattle.port_audit.proofs.Rows.{no_rows, rows_none}
use Rattle.port_audit.proofs.dealing.are_empty.Goals as goal

pub returns : goal.returns
returns g c kept = (
  λ empty. no_rows c.args.rows.now (nil_from_length _ (c.is_empty.ensures.0 empty)),
  λ none. c.is_empty.ensures.1 (ap length (rows_none c.args.rows.now kept none)),
)
