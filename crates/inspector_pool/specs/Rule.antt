-- The rule of the deque of jobs, what each pass knows of it, and what each kind of step tells.
use Rattle.std.specs.Prelude.{◌≡◌, ℕ, ◌+◌, ◌-◌, ◌<◌, ◌≤◌, List, [], ◌++◌, All, sum_by}
use Rattle.std.specs.List.{range_with_len}
use Rattle.table_seats.specs.Seats.{Each}
use Rattle.inspector_pool.specs.declared.deque.Tally.{Tally}
use Rattle.inspector_pool.specs.Numbers.{most_workers}
use Rattle.inspector_pool.specs.Answers.{times}

-- the numbers of so many jobs, which count from 1
abbrev pub jobs : ℕ → List ℕ
jobs n = range_with_len 1 n

-- it is the number of one of so many jobs
pub record IsJob (n job : ℕ) : Type 0 where
  pub low : 1 ≤ job
  pub high : job ≤ n

-- ---- what a pass knows
abbrev pub tally : ℕ → ℕ → List ℕ → Tally
tally parts put taken = record { parts = parts; put = put; taken = taken }

-- a part for each worker, and one for the caller
abbrev pub all_parts : ℕ
all_parts = most_workers + 1

-- the caller's, before a job is put
abbrev pub first_tally : Tally
first_tally = tally all_parts 0 []

-- that of a pass without a part
abbrev pub guest_tally : Tally
guest_tally = tally 0 0 []

-- the pass from which one was cut, and the new one
abbrev pub cut_tally : Tally → Tally
cut_tally v = tally (v.parts - 1) v.put v.taken

abbrev pub new_tally : Tally → Tally
new_tally v = tally 1 v.put []

-- a pass into which another was joined
abbrev pub joined_tally : Tally → Tally → Tally
joined_tally v w = tally (v.parts + w.parts) v.put (v.taken ++ w.taken)

-- the next job was put
abbrev pub put_tally : Tally → Tally
put_tally v = tally v.parts (v.put + 1) v.taken

-- jobs were taken
abbrev pub took_tally : Tally → List ℕ → Tally
took_tally v xs = tally v.parts v.put (v.taken ++ xs)

-- ---- the rule
abbrev pub parts_of : Tally → ℕ
parts_of v = v.parts

-- how often the pass took this job
abbrev pub times_taken : ℕ → Tally → ℕ
times_taken job v = times job v.taken

-- a pass with a part knows how many jobs were put; one without has taken none
pub record Knows (put : ℕ) (v : Tally) : Type 0 where
  pub known : 0 < v.parts → v.put ≡ put
  pub idle : v.parts ≡ 0 → v.taken ≡ []

-- The rule of the deque, of the jobs in it and of what all passes know: those that were taken and
-- those inside are together those that were put, each once
pub record EachOnce (items : List ℕ) (views : List Tally) : Type 0 where
  pub put : ℕ
  pub parts : sum_by parts_of views ≡ all_parts
  pub each : Each (λ id v. Knows put v) views
  pub once : (job : ℕ) →
      times job (jobs put) ≡ sum_by (times_taken job) views + times job items

-- ---- what each step tells
-- a job was taken: it is one of those that were put
abbrev pub HasTaken : Tally → List ℕ → Tally → Type 0
HasTaken v xs w = (w ≡ took_tally v xs) × All (IsJob v.put) xs

-- an empty deque tells the pass with all parts that it took all jobs, each once
abbrev pub AreAllTaken : Tally → Type 0
AreAllTaken v = v.parts ≡ all_parts → (job : ℕ) → times job v.taken ≡ times job (jobs v.put)
