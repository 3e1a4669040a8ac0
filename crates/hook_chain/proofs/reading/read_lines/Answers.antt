use Rattle.text_lines.specs.declared.fault.LineFault.TheVariants.{NoMemory}
use Rattle.text_lines.specs.Refusals.{fault_of}
use Rattle.hook_chain.specs.Reading.{place_of}
use Rattle.hook_chain.proofs.Bounds.{is_fault, is_taken, same_fault, is_read_first, is_read_next}
use Rattle.hook_chain.proofs.reading.read_lines.Goals as goal

pub loop-line-init : goal.loop-line-init
loop-line-init c =
    is_read_first c.args.bytes.now (place_of c.new-reader.result) c.new-reader.ensures

pub returns-in-Err-clause-exact : goal.returns-in-Err-clause-exact
returns-in-Err-clause-exact c =
    rw c.at.ensures
    (is_fault c.in-Err.stop c.args.bytes.now c.loop-line.line_number (place_of c.loop-line.reader)
    (place_of c.read.new.self) c.loop-line.rest.now c.in-Some.line.now c.in-Some.later.now
    c.loop-line.invariant c.in-Some.ensures.line c.in-Err.ensures)

pub loop-line-preserved : goal.loop-line-preserved
loop-line-preserved c =
    is_read_next c.args.bytes.now c.loop-line.line_number (place_of c.loop-line.reader)
    (place_of c.read.new.self) c.loop-line.rest.now c.in-Some.line.now c.in-Some.later.now
    c.loop-line.invariant c.in-Some.ensures.line c.in-Some.ensures.shorter
    c.in_default-read.ensures

pub returns-in-Err-clause-memory : goal.returns-in-Err-clause-memory
returns-in-Err-clause-memory c =
    rw c.at.ensures
    (λ e. is_taken c.in-Err.stop c.args.bytes.now c.loop-line.line_number
    (place_of c.loop-line.reader)
    (place_of c.read.new.self) c.loop-line.rest.now c.in-Some.line.now c.in-Some.later.now
    c.loop-line.invariant c.in-Some.ensures.line
    c.in-Err.ensures (same_fault (fault_of c.in-Err.stop c.loop-line.line_number) NoMemory e))
