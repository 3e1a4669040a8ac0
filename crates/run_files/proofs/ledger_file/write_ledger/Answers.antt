use Rattle.std.proofs.Common.{Some, ap, ◌∙◌, ◌++◌}
use Rattle.std.proofs.lemmas.Result.{on_ok_weaker}
use Rattle.fate_ledger.specs.Ledger as text
use Rattle.run_files.proofs.LineTexts.{ledger_by_line}
use Rattle.run_files.proofs.TextParts.{grown_as, text_begins}
use Rattle.run_files.proofs.ledger_file.write_ledger.Goals as goal

pub returns-clause-bytes : goal.returns-clause-bytes
returns-clause-bytes g c =
    let lines = text.lines c.args.lines.now in
    let all =
    grown_as _ _ _ _ _ _ _ _ _ (ledger_by_line c.args.lines.now)
    c.in_ok-write_list.ensures.grows in
    on_ok_weaker c.write.result
    (λ bytes told.
    bytes (rw c.write_list.ensures.later.tells_same told)
    ∙ ap Some (all.text told
    ∙ ap (λ t. t ++ lines)
    (text_begins (g.H.Host.content c.args.host.now c.args.name.now) _ _ _ text.heading
    c.requires.begins.first c.requires.begins.empty c.in-Ok.ensures.ok)))
    c.write.ensures.bytes
