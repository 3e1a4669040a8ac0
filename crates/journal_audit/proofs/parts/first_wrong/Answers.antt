use Rattle.std.proofs.Common.{length, arith}
use Rattle.std.proofs.lemmas.Option.{slice_get-get_or}
use Rattle.journal_audit.specs.declared.part.Part.TheVariants.{Logs}
use Rattle.journal_audit.specs.Parts.{every_part}
use Rattle.journal_audit.proofs.FirstWrong.{all_hold, first_here}
use Rattle.journal_audit.proofs.parts.first_wrong.Goals as goal

pub returns-then-not-branch : goal.returns-then-not-branch
returns-then-not-branch c notes given =
    first_here c.args.script.now (length c.args.capture.now.frames) c.args.histories.now notes
    c.loop-part.part-index _ c.in_ok-holds.field-0 c.if-not-branch.true
    (slice_get-get_or every_part c.loop-part.part-index Logs (omega arith))
    (c.loop-part.invariant notes given) (c.in_ok-holds.ensures notes given)

pub returns : goal.returns
returns c notes given =
    all_hold c.args.script.now (length c.args.capture.now.frames) c.args.histories.now notes
    c.loop-part.part-index (omega arith) (c.loop-part.invariant notes given)
