use Rattle.std.proofs.Common.{sym, ◌∙◌}
use Rattle.host_io.proofs.FirstEntries.{find-at, changed-here, changed-nowhere}
use Rattle.host_io.proofs.entries.store_in.Goals as goal

pub store-requires-clause-at : goal.store-requires-clause-at
store-requires-clause-at c =
    rw (find-at _ _ _ c.index-entries-i.result (sym c.in-Some.ensures)) at c.requires.at

pub store-requires-clause-room : goal.store-requires-clause-room
store-requires-clause-room c =
    rw (find-at _ _ _ c.index-entries-i.result (sym c.in-Some.ensures)) at c.requires.room

pub returns-in-Some : goal.returns-in-Some
returns-in-Some c = changed-here _ _ _ _ c.in-Some.ensures c.index-entries-i.is _ _ c.store.ensures

pub returns-in_default : goal.returns-in_default
returns-in_default c = sym (changed-nowhere _ _ _ (sym c.place_of.ensures ∙ c.in_default.is))
