use Rattle.std.proofs.Common.{◌≡◌, ◌+◌, ◌-◌, ◌<◌, ◌≤◌, length, IsTrue}
use Rattle.std.specs.Io.{StartsWith}
use Rattle.host_io.specs.Host.{IsLater, SameFiles, bytes_of}
use Rattle.host_io.proofs.whole.read_whole.Given as goal

abbrev pub invariant-loop-host : goal.invariant-loop-host
invariant-loop-host g l = record {
  room : 0 < length l.piece.items;
  prefix : IsTrue (g.H.Host.tells l.fn.host) →
      StartsWith (bytes_of (g.H.Host.content l.fn.host l.name)) l.bytes.items;
  files : SameFiles (g.H.Host.content l.fn.host) (g.H.Host.content l.host);
  later : IsLater g.H.Host.tells g.H.Host.read_faults g.H.Host.write_faults l.fn.host l.host;
  reads : g.H.Host.reads l.host ≤ g.H.Host.reads l.fn.host + length l.bytes.items;
  writes : g.H.Host.writes l.host ≡ g.H.Host.writes l.fn.host;
  limited : g.H.Host.reads l.host ≤ g.H.Host.reads l.fn.host + l.limit + 1;
}

abbrev pub decreases-loop-host : goal.decreases-loop-host
decreases-loop-host g l = l.limit + 1 - length l.bytes.items
