use Rattle.std.proofs.Common.{◌≡◌, ◌-◌, ◌≤◌, length, true}
use Rattle.solo_schedule.specs.Sending.{all_sent}
use Rattle.run_parts.specs.Datagrams.{cut_in, messages_in}
use Rattle.solo_run.specs.RunState.{Goes, IsWith, Keeps, is_open_at, port_at, setting_of, world_of}
use Rattle.solo_run.proofs.sending.send_all.Given as goal

abbrev pub invariant-loop-look : goal.invariant-loop-look
invariant-loop-look g l = record {
  going : Goes l.script l.run;
  made_with : IsWith l.fn.run l.run;
  keeps : Keeps (world_of l.fn.run) (world_of l.run);
  shorter : length l.rest ≤ length l.datagram;
  opened : is_open_at l.script (world_of l.run) l.place ≡ true;
  sent : all_sent (g.B.Between.then l.between (setting_of l.fn.run) l.script)
      (setting_of l.fn.run) (port_at l.script l.place) (cut_in (l._look-end - l._look) l.rest)
      (world_of l.run)
      ≡ all_sent (g.B.Between.then l.between (setting_of l.fn.run) l.script)
      (setting_of l.fn.run) (port_at l.script l.place) (messages_in l.datagram)
      (world_of l.fn.run);
}
