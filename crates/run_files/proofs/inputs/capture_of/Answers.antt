use Rattle.std.proofs.Common.{rules}
use Rattle.run_files.proofs.ReaderAnswers.{capture_refused, capture_taken, many_frames}
use Rattle.run_files.proofs.inputs.capture_of.Goals as goal

pub returns-in-Err-clause-only : goal.returns-in-Err-clause-only
returns-in-Err-clause-only c = λ said says.
    rw c.of_capture.ensures
    (capture_refused c.args.file.now c.in-Err.fault c.requires c.in-Err.ensures.only
    c.in-Err.ensures.exact said says)

pub returns-then-len-le-MAX_FRAMES-clause-only : goal.returns-then-len-le-MAX_FRAMES-clause-only
returns-then-len-le-MAX_FRAMES-clause-only c = λ said says.
    capture_taken c.args.file.now c.in-Ok.capture c.requires (search rules)
    c.in-Ok.ensures.only c.in-Ok.ensures.exact said says

pub returns-else-len-le-MAX_FRAMES-clause-only : goal.returns-else-len-le-MAX_FRAMES-clause-only
returns-else-len-le-MAX_FRAMES-clause-only c = λ said says.
    rw c.too_large.ensures
    (many_frames c.args.file.now c.in-Ok.capture c.requires (search rules)
    c.in-Ok.ensures.only c.in-Ok.ensures.exact said says)
