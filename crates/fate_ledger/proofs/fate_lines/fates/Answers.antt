use Rattle.std.proofs.Common.{List, length, map, ap, ◌∙◌}
use Rattle.std.proofs.lemmas.Result.{IfOk-weaker}
use Rattle.fate_ledger.specs.declared.fate.FateLine.{FateLine}
use Rattle.fate_ledger.specs.Fates.{happenings, is_lost}
use Rattle.fate_ledger.specs.Following.{Kept, lost_line, with_payloads}
use Rattle.fate_ledger.proofs.LastEventTable.{fates_for_each, lines_are}
use Rattle.fate_ledger.proofs.fate_lines.fates.Goals as goal

pub returns-clause-lines : goal.returns-clause-lines
returns-clause-lines c =
    let lost = c.args.histories.now.lost in
    IfOk-weaker c.into_lines.result _ _
    (λ lines is. is
    ∙ ap (λ (k : Kept). map (lost_line (is_lost lost)) (with_payloads k.payloads k.lines))
    c.in_ok-kept.ensures
    ∙ lines_are (happenings c.args.histories.now.entries) lost 1 c.args.capture.now.frames)
    c.into_lines.ensures

pub returns-clause-one_each : goal.returns-clause-one_each
returns-clause-one_each c =
    let lost = c.args.histories.now.lost in
    IfOk-weaker c.into_lines.result _ _
    (λ (lines : List FateLine) is. ap (λ (ls : List FateLine). length ls) (is
    ∙ ap (λ (k : Kept). map (lost_line (is_lost lost)) (with_payloads k.payloads k.lines))
    c.in_ok-kept.ensures
    ∙ lines_are (happenings c.args.histories.now.entries) lost 1 c.args.capture.now.frames)
    ∙ fates_for_each (happenings c.args.histories.now.entries) lost 1 c.args.capture.now.frames)
    c.into_lines.ensures
