use Rattle.std.proofs.Common.{Some, ap, sym, ◌∙◌, ◌++◌, append_assoc}
use Rattle.std.proofs.lemmas.Result.{on_ok_weaker}
use Rattle.journals.specs.Journal as text
use Rattle.run_files.proofs.LineTexts.{entries_by_line}
use Rattle.run_files.proofs.TextParts.{grown_as, grown_twice, put_into, text_begins}
use Rattle.run_files.proofs.journal_lines.write_journal.Goals as goal

pub returns-clause-bytes : goal.returns-clause-bytes
returns-clause-bytes g c =
    let entries = text.entries c.args.histories.now.entries in
    let logs = text.logs c.args.histories.now.logs in
    let lines =
    grown_twice _ _ _ _ _ _ _ _ _ _ _ entries logs
    (λ told. rw c.write_list.ensures.later.tells_same told)
    (grown_as _ _ _ _ _ _ _ _ _ (entries_by_line c.args.histories.now.entries)
    c.in_ok-write_list.ensures.grows) c.in_ok-write_logs.ensures.grows in
    let all =
    grown_twice _ _ _ _ _ _ _ _ _ _ _ (entries ++ logs) text.ending
    (λ told. rw (c.write_logs.ensures.later.tells_same, c.write_list.ensures.later.tells_same)
    told) lines
    (put_into _ _ _ _ _ _ _ _ _ c.in_ok-make_room.ensures.grows
    c.in-Ok-append_ending.ensures.ok) in
    on_ok_weaker c.write.result
    (λ bytes told.
    bytes (rw (
      c.make_room.ensures.later.tells_same,
      c.write_logs.ensures.later.tells_same,
      c.write_list.ensures.later.tells_same,
    ) told)
    ∙ ap Some (all.text told
    ∙ ap (λ t. t ++ (entries ++ logs ++ text.ending))
    (text_begins (g.H.Host.content c.args.host.now c.args.name.now) _ _ _ text.heading c.requires.begins.first c.requires.begins.empty c.in-Ok.ensures.ok)
    ∙ sym (append_assoc text.heading (entries ++ logs) text.ending)))
    c.write.ensures.bytes
