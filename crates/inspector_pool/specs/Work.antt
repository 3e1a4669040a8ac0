-- What the parts of a pool are given and what they have done.
use Rattle.std.specs.Prelude.{◌≡◌, ℕ, ◌+◌, ◌-◌, ◌<◌, ◌≤◌, List, [], ◌∷◌, length, map, All, OnOk}
use Rattle.std.specs.Prelude.{get_or, slice_set}
use Rattle.std.specs.declared.alloc.Global.{Global}
use Rattle.atomic_blocks.specs.Lent.{RowsId}
use Rattle.crossbeam_deque.specs.Handles.{view, IsPassOf}
use Rattle.script_lines.specs.declared.ask.Ask.{Ask}
use Rattle.script_lines.specs.Limits.{IsAsk}
use Rattle.inspector_pool.specs.declared.assignment.Assignment.{Assignment}
use Rattle.inspector_pool.specs.declared.assignment.Answered.{Answered}
use Rattle.inspector_pool.specs.declared.pool_worker.PoolWorker.{PoolWorker}
use Rattle.inspector_pool.specs.Numbers.{most_notices}
use Rattle.inspector_pool.specs.Answers.{answers, times}
use Rattle.inspector_pool.specs.Rule.{tally}

-- ---- what a pool is given
pub record IsAssignment (a : Assignment) : Type 0 where
  pub has_port : a.place < length a.script.now.ports
  pub few : length a.notices.now ≤ most_notices

-- how many jobs it is
abbrev pub jobs_in : Assignment → ℕ
jobs_in a = length a.notices.now

-- all that is to be answered
abbrev pub all_answers : Assignment → List (List Ask)
all_answers a = answers a.script.now a.place a.counted a.notices.now

-- ---- jobs that were done
-- the answer stands in the place of the job's number among all these
pub record IsAnswerIn (all : List (List Ask)) (done : Answered) : Type 0 where
  pub low : 1 ≤ done.job
  pub high : done.job ≤ length all
  pub asks : done.asks ≡ get_or all (done.job - 1) []
  pub fit : All IsAsk done.asks

abbrev pub IsAnswered : Assignment → Answered → Type 0
IsAnswered a done = IsAnswerIn (all_answers a) done

abbrev pub jobs_of : List Answered → List ℕ
jobs_of answered = map (λ (done : Answered). done.job) answered

-- ---- workers
-- a worker of this deque that has taken nothing, where so many jobs were put
pub record IsReady (deque : RowsId × Global) (put : ℕ) (w : PoolWorker) : Type 0 where
  pub pass : IsPassOf deque w.pass
  pub idle : view w.pass ≡ tally 1 put []
  pub none : w.answered.items ≡ []

-- one that has ended: unless memory ran out in it, it has answered each job that it took
pub record HasWorked (deque : RowsId × Global) (a : Assignment) (w : PoolWorker) : Type 0 where
  pub pass : IsPassOf deque w.pass
  pub took : OnOk w.outcome (view w.pass ≡ tally 1 (jobs_in a) (jobs_of w.answered.items))
  pub each : OnOk w.outcome (All (IsAnswered a) w.answered.items)

-- ---- answers in the order of the notices
-- each answer was put in the place of its job's number
abbrev pub placed : List (List Ask) → List Answered → List (List Ask)
placed tray [] = tray
placed tray (s ∷ ss) = placed (slice_set tray (s.job - 1) s.asks) ss

-- the places of these jobs have their answers, of all those
pub record IsFilled (all : List (List Ask)) (done : List ℕ) (tray : List (List Ask)) : Type 0
  where
    pub same : length tray ≡ length all
    pub filled : (i : ℕ) → 0 < times (i + 1) done → get_or tray i [] ≡ get_or all i []
    pub fit : All (All IsAsk) tray
