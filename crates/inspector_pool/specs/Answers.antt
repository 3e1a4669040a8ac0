-- What a pool answers, and how often a job stands among those that were done.
use Rattle.std.specs.Prelude.{◌≡◌, ◌<◌, ◌≤◌, ℕ, ◌+◌, Bool, List, [], ◌∷◌, nat_eq}
use Rattle.std.specs.Prelude.{if◌then◌else◌}
use Rattle.std.specs.List.{concat}
use Rattle.nfqa_msgs.specs.declared.notice.Notice.{Notice}
use Rattle.script_lines.specs.declared.ask.Ask.{Ask}
use Rattle.inspector_script.specs.Scripts.{ScriptValue, Machine, answer, next_count}

-- the answers of the port at this place to these notices, before which it counted so many
abbrev pub answers : ScriptValue → ℕ → ℕ → List Notice → List (List Ask)
answers s place counted [] = []
answers s place counted (n ∷ ns) =
    answer s place (next_count counted) n ∷ answers s place (counted + 1) ns

-- the port's inspector, with one notice more counted
abbrev pub having_counted : Machine → Machine
having_counted m = record m { received = next_count m.received }

-- the answers of an inspector that takes one notice after the other and counts each
abbrev pub in_turn : ScriptValue → Machine → List Notice → List (List Ask)
in_turn s m [] = []
in_turn s m (n ∷ ns) =
    answer s m.place (next_count m.received) n ∷ in_turn s (having_counted m) ns

-- 1 where it is so, else 0
abbrev pub one_where : Bool → ℕ
one_where b = if b then 1 else 0

-- how often the number stands in the list
abbrev pub times : ℕ → List ℕ → ℕ
times x [] = 0
times x (y ∷ ys) = one_where (nat_eq y x) + times x ys

-- each of so many jobs, which count from 1, stands in these lists once
abbrev pub HasEachJobOnce : ℕ → List (List ℕ) → Type 0
HasEachJobOnce n shares =
    (job : ℕ) → 1 ≤ job → job ≤ n → times job (concat shares) ≡ 1

-- and nothing else does
abbrev pub HasNoOther : ℕ → List (List ℕ) → Type 0
HasNoOther n shares = (job : ℕ) → 0 < times job (concat shares) → (1 ≤ job) × (job ≤ n)
