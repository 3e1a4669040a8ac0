use Rattle.inspector_script.specs.ScriptFile.{place_of}
use Rattle.inspector_script.proofs.ReaderState.{is_fault, is_read_first, is_read_next}
use Rattle.inspector_script.proofs.reading.read_lines.Goals as goal

pub loop-line-init : goal.loop-line-init
loop-line-init c =
    is_read_first c.args.bytes.now (place_of c.new-reader.result) c.new-reader.ensures

pub returns-in-Err : goal.returns-in-Err
returns-in-Err c =
    rw c.at.ensures
    (is_fault c.in-Err.stop c.args.bytes.now c.loop-line.line_number (place_of c.loop-line.reader)
    (place_of c.read.new.self) c.loop-line.rest.now c.in-Some.line.now c.in-Some.later.now
    c.loop-line.invariant c.in-Some.ensures.line c.in-Err.ensures.after)

pub loop-line-preserved : goal.loop-line-preserved
loop-line-preserved c =
    is_read_next c.args.bytes.now c.loop-line.line_number (place_of c.loop-line.reader)
    (place_of c.read.new.self) c.loop-line.rest.now c.in-Some.line.now c.in-Some.later.now
    c.loop-line.invariant c.in-Some.ensures.line c.in-Some.ensures.shorter
    c.in_default-read.ensures.after c.in_default-read.ensures.sound
