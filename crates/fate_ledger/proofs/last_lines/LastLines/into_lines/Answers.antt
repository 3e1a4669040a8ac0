use Rattle.std.proofs.Common.{map, ap, sym, ◌∙◌, List, refl}
use Rattle.histories.specs.declared.histories.Lost.{Lost}
use Rattle.fate_ledger.specs.Fates.{is_lost}
use Rattle.fate_ledger.specs.Following.{Kept, lost_line, with_payloads}
use Rattle.fate_ledger.proofs.LastEventTable.{none_lost}
use Rattle.fate_ledger.proofs.last_lines.LastLines.into_lines.Goals as goal

pub returns-then-is_empty : goal.returns-then-is_empty
returns-then-is_empty c =
    let lines = with_payloads c.args.self.payloads c.args.self.lines in
    c.from_vec.ensures ∙ c.in_ok-put_payloads.ensures
    ∙ ap (λ (k : Kept). with_payloads k.payloads k.lines) c.self.view_is ∙ none_lost lines
    ∙ ap (λ (ls : List Lost). map (lost_line (is_lost ls)) lines)
    (sym (c.if-is_empty.ensures.0 refl))
