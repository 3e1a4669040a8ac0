use Rattle.std.proofs.Common.{◌≤◌, IsTrue}
use Rattle.std.specs.Prelude.{vec_capacity}
use Rattle.host_io.specs.Host.{ChangesOnly, IsLater}
use Rattle.journals.specs.Journal as text
use Rattle.run_files.specs.Parts.{AreLogsWithin}
use Rattle.run_files.proofs.TextParts.{IsUnderway}
use Rattle.run_files.proofs.journal_lines.write_logs.Given as goal

abbrev pub invariant-loop-log : goal.invariant-loop-log
invariant-loop-log g l = record {
  underway : IsUnderway (IsTrue (g.H.Host.tells l.fn.host))
      (g.H.Host.content l.fn.host l.name) l.fn.part.at l.fn.part.bytes.items
      (g.H.Host.content l.host l.name) l.part.at l.part.bytes.items
      (text.logs l.logs) (text.logs l.log-iterator);
  lines : AreLogsWithin l.longest l.log-iterator;
  capacity : vec_capacity l.fn.part.bytes ≤ vec_capacity l.part.bytes;
  files : ChangesOnly l.name (g.H.Host.content l.fn.host) (g.H.Host.content l.host);
  later : IsLater g.H.Host.tells g.H.Host.read_faults g.H.Host.write_faults l.fn.host l.host;
}
