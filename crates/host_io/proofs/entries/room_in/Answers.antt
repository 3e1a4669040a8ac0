use Rattle.std.proofs.Common.{sym, refl}
use Rattle.host_io.proofs.FirstEntries.{find-here, find-nowhere}
use Rattle.host_io.proofs.entries.room_in.Goals as goal

pub returns-in-Some : goal.returns-in-Some
returns-in-Some c = rw (find-here _ _ _ _ c.in-Some.ensures c.index-entries-i.is) c.room.ensures

pub returns-in-None : goal.returns-in-None
returns-in-None c = rw (find-nowhere _ _ (sym c.in-None.ensures)) refl
