use Rattle.std.proofs.Common.{Bool, Ok, sym, subst, refl}
use Rattle.journal_reading.specs.JournalFile.{Closes, FollowsText, HasRead, Place, place_of}
use Rattle.journal_reading.proofs.FirstRefusal.{closed_by, stopped, stopped_early}
use Rattle.journal_reading.proofs.ReadSoFar.{at_end, begins, goes_on, shorter}
use Rattle.journal_reading.proofs.WordCuts.{Laws}
use Rattle.journal_reading.proofs.reading.read_lines.Goals as goal

pub loop-line-smaller : goal.loop-line-smaller
loop-line-smaller c =
    shorter c.loop-line.rest.now c.in-Some.line.now c.in-Some.later.now (sym c.in-Some.ensures)

pub loop-line-init : goal.loop-line-init
loop-line-init c = (
  begins c.args.version c.args.bytes.now c.args.first.now (place_of c.new-reader.result)
      c.new-reader.ensures.place c.requires.heading,
  c.new-reader.ensures.ports,
)

pub loop-line-preserved : goal.loop-line-preserved
loop-line-preserved c =
    let laws : Laws = record {
      numerals = c.numbers_are_spelled.ensures;
      bytes = c.bytes_are_spelled.ensures;
    } in (
      goes_on c.args.version laws c.args.bytes.now c.loop-line.rest.now c.in-Some.line.now
          c.in-Some.later.now
          (place_of c.loop-line.reader) (place_of c.read.new.self) c.loop-line.line_number
          c.loop-line.invariant.0 (sym c.in-Some.ensures) c.in-Ok-false.ensures.sound
          (subst (λ (b : Bool). HasRead c.args.version b (place_of c.loop-line.reader)
          (place_of c.read.new.self)
          c.in-Some.line.now) c.in-Ok-false.field-0-test c.in-Ok-false.ensures.more)
          (subst (λ (b : Bool). FollowsText c.args.version (Ok b) (place_of c.loop-line.reader)
          (place_of c.read.new.self) c.in-Some.line.now) c.in-Ok-false.field-0-test
          c.in-Ok-false.ensures.follows),
      c.in-Ok-false.ensures.ports,
    )

pub returns-in-Err : goal.returns-in-Err
returns-in-Err c =
    let laws : Laws = record {
      numerals = c.numbers_are_spelled.ensures;
      bytes = c.bytes_are_spelled.ensures;
    } in
    let on = c.loop-line.invariant.0 in
    rw c.at.ensures (stopped c.args.version laws c.in-Err.stop (place_of c.loop-line.reader)
    (place_of c.read.new.self) c.args.bytes.now c.loop-line.rest.now c.in-Some.line.now
    c.in-Some.later.now c.loop-line.line_number on.sound on.front on.text_is on.ends
    (sym c.in-Some.ensures) c.in-Err.ensures.follows)

pub returns-in-Ok-true : goal.returns-in-Ok-true
returns-in-Ok-true c =
    let laws : Laws = record {
      numerals = c.numbers_are_spelled.ensures;
      bytes = c.bytes_are_spelled.ensures;
    } in
    let on = c.loop-line.invariant.0 in
    let p = place_of c.loop-line.reader in
    let read = subst
    (λ (b : Bool). HasRead c.args.version b p (place_of c.read.new.self) c.in-Some.line.now)
    c.in-Ok-true.field-0-test c.in-Ok-true.ensures.more in
    closed_by c.args.version laws c.finish.result p c.args.bytes.now c.in-Some.later.now
    c.loop-line.line_number
    on.sound on.front
    (at_end c.args.version c.args.bytes.now c.loop-line.rest.now c.in-Some.line.now
    c.in-Some.later.now p p
    c.loop-line.line_number on (sym c.in-Some.ensures) read.0 refl) on.ends
    (subst (λ (q : Place). Closes c.finish.result q c.in-Some.later.now c.loop-line.line_number)
    read.1 c.finish.ensures)

pub returns : goal.returns
returns c =
    let on = c.loop-line.invariant.0 in
    stopped_early c.args.version (place_of c.loop-line.reader) c.args.bytes.now c.loop-line.rest.now
    c.loop-line.line_number on.sound on.front on.text_is on.ends (sym c.in_default.ensures)
