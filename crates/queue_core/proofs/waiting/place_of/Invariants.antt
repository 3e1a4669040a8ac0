use Rattle.std.proofs.Common.{◌≡◌, ◌++◌, take, drop}
use Rattle.std.specs.Map.{lookup, remove_entry}
use Rattle.queue_core.specs.Ids.{is_id}
use Rattle.queue_core.proofs.waiting.place_of.Given as goal

-- what has been passed has another id
abbrev pub invariant-loop-place : goal.invariant-loop-place
invariant-loop-place l =
    (lookup (is_id l.id) l.few.items ≡ lookup (is_id l.id) (drop l.place l.few.items))
    × (remove_entry (is_id l.id) l.few.items ≡ take l.place l.few.items
    ++ remove_entry (is_id l.id) (drop l.place l.few.items))
