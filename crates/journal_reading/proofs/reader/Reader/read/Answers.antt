use Rattle.std.proofs.Common.{◌≡◌, ◌∙◌, sym, Some}
use Rattle.std.proofs.lemmas.Option.{none-some, same_Some}
use Rattle.journal_reading.specs.JournalFile.{place_of}
use Rattle.journal_reading.specs.Reading.{line_in}
use Rattle.journal_reading.proofs.ReaderAnswers.{more_by, sound_by, text_by}
use Rattle.journal_reading.proofs.reader.Reader.read.Goals as goal

pub returns-in-Some : goal.returns-in-Some
returns-in-Some c =
    let old = place_of c.args.self.now in
    let new = place_of c.go_on.new.self in
    let said : line_in c.args.version c.args.line.now ≡ Some c.in-Some.said =
    sym c.in_ok-said.ensures ∙ c.in-Some.is in
    let is =
    (c.lines_say_what_is_written.ensures c.args.version c.args.line.now c.in-Some.said).0 said in
    record {
      ports = c.go_on.ensures.ports;
      sound = sound_by c.args.version c.go_on.result old new c.in-Some.said c.requires.sound is.0
          c.go_on.ensures.follows;
      more = more_by c.args.version c.go_on.result old new c.in-Some.said c.args.line.now
          c.requires.sound is.1
          c.go_on.ensures.follows;
      follows = text_by c.args.version c.go_on.result old new c.in-Some.said c.args.line.now
          (λ other there. same_Some other c.in-Some.said
          (sym ((c.lines_say_what_is_written.ensures c.args.version c.args.line.now other).1 there)
          ∙ said))
          c.go_on.ensures.follows;
    }

pub returns-in-None-clause-follows : goal.returns-in-None-clause-follows
returns-in-None-clause-follows c said is =
    absurd (none-some said (sym (sym c.in_ok-said.ensures ∙ c.in-None.is)
    ∙ (c.lines_say_what_is_written.ensures c.args.version c.args.line.now said).1 is))
