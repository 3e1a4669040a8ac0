use Rattle.std.proofs.Common.{◌≡◌, ◌+◌, ◌<◌, ◌≤◌, ◌-◌, length, take, IsTrue}
use Rattle.std.specs.Prelude.{Some}
use Rattle.host_io.specs.Host.{IsLater, ChangesOnly, written}
use Rattle.host_io.proofs.whole.write_on.Given as goal

abbrev pub invariant-loop-n : goal.invariant-loop-n
invariant-loop-n g l = record {
  within : l.done ≤ length l.bytes;
  open_end : 0 < l.done → l.done < length l.bytes;
  same : l.done ≡ 0 → g.H.Host.content l.host l.name ≡ g.H.Host.content l.fn.host l.name;
  stored : 0 < l.done → IsTrue (g.H.Host.tells l.fn.host) → g.H.Host.content l.host l.name
      ≡ Some (written (g.H.Host.content l.fn.host l.name) l.at (take l.done l.bytes));
  files : ChangesOnly l.name (g.H.Host.content l.fn.host) (g.H.Host.content l.host);
  later : IsLater g.H.Host.tells g.H.Host.read_faults g.H.Host.write_faults l.fn.host l.host;
  reads : g.H.Host.reads l.host ≡ g.H.Host.reads l.fn.host;
  writes : g.H.Host.writes l.host ≤ g.H.Host.writes l.fn.host + l.done;
}

abbrev pub decreases-loop-n : goal.decreases-loop-n
decreases-loop-n g l = length l.bytes - l.done
