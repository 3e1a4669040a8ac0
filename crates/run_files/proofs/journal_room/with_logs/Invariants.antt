use Rattle.std.proofs.Common.{ℕ, ◌+◌, ◌≤◌, length}
use Rattle.journals.specs.Journal as text
use Rattle.run_files.specs.Parts.{AreLogsWithin}
use Rattle.run_files.proofs.journal_room.with_logs.Given as goal

-- what holds of the lines still to come, within any bound from here on, holds of all
abbrev pub invariant-loop-log : goal.invariant-loop-log
invariant-loop-log l = record {
  longest_stays : l.fn.room.longest ≤ l.more.longest;
  lines : (most : ℕ) → l.more.longest ≤ most → AreLogsWithin most l.log-iterator →
      AreLogsWithin most l.logs;
  bytes_fit : l.fn.room.all + length (text.logs l.logs) ≤ l.more.all + length (text.logs l.log-iterator);
}
