-- The list of a pass of a turn lock, each entry marked as its own or not.
use Rattle.std.specs.Prelude.{ℕ, ◌+◌, Bool, List, [], ◌∷◌, nat_eq, if◌then◌else◌}
use Rattle.std.specs.List.{list_any}
use Rattle.histories.specs.declared.entry.Entry.{Entry}
use Rattle.live_runs.specs.Seen.{Seen, Ours, Theirs}

-- from this place of the list on
abbrev pub marked_from : (ℕ → Bool) → ℕ → List Entry → List Seen
marked_from own at [] = []
marked_from own at (e ∷ es) =
    (if own at then Ours e else Theirs e) ∷ marked_from own (at + 1) es

abbrev pub is_in : List ℕ → ℕ → Bool
is_in own at = list_any (nat_eq at) own

-- what a pass has seen, of which these places are its own
abbrev pub marked : List ℕ → List Entry → List Seen
marked own seen = marked_from (is_in own) 0 seen
