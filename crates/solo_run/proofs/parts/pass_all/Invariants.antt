use Rattle.std.proofs.Common.{◌≡◌, ◌≤◌, ◌+◌, ◌++◌, length}
use Rattle.std.specs.Prelude.{All}
use Rattle.packet_entry.specs.Numbers.{longest_packet}
use Rattle.run_parts.specs.Entering.{cards, cards_from}
use Rattle.solo_schedule.specs.Schedule.{frames_passed, rounds_for}
use Rattle.solo_run.specs.RunState.{Goes, IsWith, SameOpen, setting_of, world_of}
use Rattle.solo_run.proofs.parts.pass_all.Given as goal

abbrev pub invariant-loop-frame : goal.invariant-loop-frame
invariant-loop-frame l = record {
  going : Goes l.script l.run;
  made_with : IsWith l.fn.run l.run;
  open_ports : SameOpen (world_of l.fn.run) (world_of l.run);
  counted : 1 ≤ l.number;
  total : l.number + length l.frame-iterator ≡ length l.capture.frames + 1;
  few : length (world_of l.run).fed + 1 ≤ l.number;
  bytes : All (λ f. length f.bytes ≤ longest_packet) l.frame-iterator;
  fed : (world_of l.run).fed ++ cards_from l.capture l.number l.frame-iterator
      ≡ cards l.capture;
  on : frames_passed (rounds_for l.capture) (setting_of l.fn.run) l.script l.capture l.number
      l.frame-iterator (world_of l.run)
      ≡ frames_passed (rounds_for l.capture) (setting_of l.fn.run) l.script l.capture 1
      l.capture.frames (world_of l.fn.run);
}
