use Rattle.std.proofs.Common.{refl, sym}
use Rattle.journal_reading.specs.JournalFile.{place_of}
use Rattle.journal_reading.proofs.ReaderAnswers.{end_is, followed}
use Rattle.journal_reading.proofs.reader.Reader.go_on.Goals as goal

pub returns-then-is_end-clause-follows : goal.returns-then-is_end-clause-follows
returns-then-is_end-clause-follows c = (end_is c.args.said (sym c.if-is_end.ensures), refl)

pub returns-in-Err-clause-follows : goal.returns-in-Err-clause-follows
returns-in-Err-clause-follows c =
    followed c.in-Err.stop (place_of c.args.self.now) (place_of c.take.new.self) c.args.said
    (sym c.if-is_end.ensures) c.in-Err.ensures.after
