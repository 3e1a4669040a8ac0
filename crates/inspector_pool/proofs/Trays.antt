-- Answers that are put in the order of the notices, and the passes of their workers joined.
use Rattle.std.proofs.Common.{◌≡◌, ℕ, ◌+◌, ◌-◌, ◌<◌, List, [], ◌∷◌, ◌++◌, length, set}
use Rattle.std.proofs.Common.{get_or, sym, ap, ◌∙◌, subst, arith, All, OnOk, Ok}
use Rattle.std.proofs.Common.{append_assoc, append-nil}
use Rattle.std.specs.List.{concat}
use Rattle.std.specs.declared.alloc.Global.{Global}
use Rattle.std.proofs.lemmas.List.{get_or-set_same, get_or-set_other, length-set, ext_get_or}
use Rattle.std.proofs.lemmas.List.{map-append, length-append}
use Rattle.std.proofs.lemmas.List.Elements.{All-head, All-tail, All-push, All-set}
use Rattle.std.proofs.lemmas.List.Folds.{concat-append}
use mathlib.Core.Logic.{dite}
use native.Mathlib.Decide.{ℕ_discrete}
use Rattle.atomic_blocks.specs.Lent.{RowsId}
use Rattle.crossbeam_deque.specs.Handles.{view}
use Rattle.script_lines.specs.declared.ask.Ask.{Ask}
use Rattle.script_lines.specs.Limits.{IsAsk}
use Rattle.inspector_pool.specs.declared.assignment.Assignment.{Assignment}
use Rattle.inspector_pool.specs.declared.assignment.Answered.{Answered}
use Rattle.inspector_pool.specs.declared.deque.Tally.{Tally}
use Rattle.inspector_pool.specs.declared.pool_worker.PoolWorker.{PoolWorker}
use Rattle.inspector_pool.specs.Answers.{times, HasEachJobOnce, HasNoOther}
use Rattle.inspector_pool.specs.Rule.{jobs, tally, took_tally, joined_tally, all_parts, IsJob}
use Rattle.inspector_pool.specs.Work.{all_answers, jobs_in, jobs_of, placed, IsAnswered}
use Rattle.inspector_pool.specs.Work.{IsAnswerIn, IsFilled, HasWorked}
use Rattle.inspector_pool.proofs.NoticeAnswers.{answers_length}
use Rattle.inspector_pool.proofs.Occurrences.{times_append, miss, once, in_range}

-- ---- a tray
-- one answer is put in its place
put_one : (all : List (List Ask)) (done : List ℕ) (tray : List (List Ask)) (s : Answered)
    → IsFilled all done tray → IsAnswerIn all s
    → IsFilled all (done ++ s.job ∷ []) (set tray (s.job - 1) s.asks)
put_one all done tray s h k =
    let len = h.same in
    let lo = k.low in
    let hi = k.high in
    record {
      same = length-set tray (s.job - 1) s.asks ∙ len;
      filled = λ i some. dite (ℕ_discrete i (s.job - 1))
          (λ is. ap (λ (j : ℕ). get_or (set tray (s.job - 1) s.asks) j []) is
          ∙ get_or-set_same tray (s.job - 1) s.asks [] (omega arith)
          ∙ k.asks ∙ ap (λ (j : ℕ). get_or all j []) (sym is))
          (λ ne.
          let m = miss s.job (i + 1) (λ e. ne (omega arith)) in
          let t = times_append (i + 1) done (s.job ∷ []) in
          get_or-set_other tray (s.job - 1) i s.asks [] ne ∙ h.filled i (omega arith));
      fit = All-set (All IsAsk) tray (s.job - 1) s.asks k.fit h.fit;
    }

-- all answers of one worker are
put_all : (all : List (List Ask)) (done : List ℕ) (tray : List (List Ask)) (ss : List Answered)
    → IsFilled all done tray → All (IsAnswerIn all) ss
    → IsFilled all (done ++ jobs_of ss) (placed tray ss)
put_all all done tray [] h k =
    subst (λ (js : List ℕ). IsFilled all js tray) (sym (append-nil done)) h
put_all all done tray (s ∷ ss) h k =
    subst (λ (js : List ℕ). IsFilled all js (placed tray (s ∷ ss)))
    (append_assoc done (s.job ∷ []) (jobs_of ss))
    (put_all all (done ++ s.job ∷ []) (set tray (s.job - 1) s.asks) ss
    (put_one all done tray s h (All-head (IsAnswerIn all) s ss k))
    (All-tail (IsAnswerIn all) s ss k))

-- no job is done
none_put : (all tray : List (List Ask)) → length tray ≡ length all → All (All IsAsk) tray
    → IsFilled all [] tray
none_put all tray same fit =
    record { same = same; filled = λ i some. absurd (omega arith); fit = fit }

-- where all jobs are done, all answers are there
all_put : (all : List (List Ask)) (done : List ℕ) (tray : List (List Ask)) → IsFilled all done tray
    → ((x : ℕ) → times x done ≡ times x (jobs (length all))) → tray ≡ all
all_put all done tray h each =
    let len = h.same in
    ext_get_or [] tray all len
    (λ i low.
    let e = each (i + 1) in
    let s = once (i + 1) 1 (length all) (omega arith) (omega arith) in
    h.filled i (omega arith))

-- the answers that are left are still to be put
abbrev pub Putting : List (List Ask) → List Answered → List ℕ → List (List Ask) → List Answered
    → Type 0
Putting start answered share tray left =
    (length tray ≡ length start)
    × (placed tray left ≡ placed start answered)
    × (share ++ jobs_of left ≡ jobs_of answered)
    × All (λ (s : Answered). IsJob (length tray) s.job) left

-- one answer is put
pub put_goes : (start : List (List Ask)) (answered : List Answered) (share more : List ℕ)
    (tray : List (List Ask)) (s : Answered) (rest left : List Answered) → left ≡ s ∷ rest
    → more ≡ share ++ s.job ∷ [] → Putting start answered share tray left
    → Putting start answered more (set tray (s.job - 1) s.asks) rest
put_goes start answered share more tray s rest left is also h =
    let g : Putting start answered share tray (s ∷ rest) =
    subst (Putting start answered share tray) is h in
    let len = length-set tray (s.job - 1) s.asks in (
      len ∙ g.0,
      g.1,
      ap (λ (l : List ℕ). l ++ jobs_of rest) also
          ∙ append_assoc share (s.job ∷ []) (jobs_of rest) ∙ g.2,
      subst (λ (k : ℕ). All (λ (s : Answered). IsJob k s.job) rest) (sym len)
          (All-tail (λ (s : Answered). IsJob (length tray) s.job) s rest g.3),
    )

-- ---- one job more is taken and done
pub more_goes : (a : Assignment) (v u : Tally) (parts n job : ℕ) (before : List ℕ)
    (old new : List Answered) (s : Answered) → new ≡ old ++ s ∷ []
    → v ≡ tally parts n (before ++ jobs_of old) → u ≡ took_tally v (job ∷ []) → s.job ≡ job
    → IsAnswered a s → All (IsAnswered a) old
    → (u ≡ tally parts n (before ++ jobs_of new)) × All (IsAnswered a) new
more_goes a v u parts n job before old new s pushed is took same answered h =
    let more : jobs_of new ≡ jobs_of old ++ job ∷ [] =
    ap jobs_of pushed ∙ map-append (λ (s : Answered). s.job) old (s ∷ [])
    ∙ ap (λ (j : ℕ). jobs_of old ++ j ∷ []) same in (
      took ∙ ap (λ (x : Tally). took_tally x (job ∷ [])) is
          ∙ ap (λ (l : List ℕ). tally parts n l)
          (append_assoc before (jobs_of old) (job ∷ [])
          ∙ ap (λ (l : List ℕ). before ++ l) (sym more)),
      subst (All (IsAnswered a)) (sym pushed) (All-push (IsAnswered a) old s h answered),
    )

-- ---- workers
-- while the workers' passes are joined: these workers are left
abbrev pub Gathering : RowsId × Global → Assignment → ℕ → Tally → List (List ℕ)
    → List (List Ask) → List PoolWorker → Type 0
Gathering deque a count v shares tray left =
    (v.parts + length left ≡ all_parts)
    × (0 < v.parts)
    × (v.put ≡ jobs_in a)
    × (v.taken ≡ concat shares)
    × (length shares + length left ≡ count)
    × IsFilled (all_answers a) (concat shares) tray
    × All (HasWorked deque a) left

all_length : (a : Assignment) → length (all_answers a) ≡ jobs_in a
all_length a = answers_length a.script.now a.place a.counted a.notices.now

pub gather_starts : (deque : RowsId × Global) (a : Assignment) (v : Tally)
    (shares : List (List ℕ)) (tray : List (List Ask)) (workers left : List PoolWorker)
    → left ≡ workers → shares ≡ [] → v.parts + length workers ≡ all_parts → 0 < v.parts
    → v.put ≡ jobs_in a → v.taken ≡ [] → length tray ≡ jobs_in a → All (All IsAsk) tray
    → All (HasWorked deque a) workers
    → Gathering deque a (length workers) v shares tray left
gather_starts deque a v shares tray workers left is none parts some put taken same fit worked =
    subst
    (λ (y : List PoolWorker × List (List ℕ)). Gathering deque a (length workers) v y.1 tray y.0)
    (λ i. (sym is i, sym none i)) (
      parts,
      some,
      put,
      taken,
      omega arith,
      none_put (all_answers a) tray (same ∙ sym (all_length a)) fit,
      worked,
    )

concat_more : (shares : List (List ℕ)) (share : List ℕ)
    → concat (shares ++ share ∷ []) ≡ concat shares ++ share
concat_more shares share =
    concat-append shares (share ∷ []) ∙ ap (λ (l : List ℕ). concat shares ++ l) (append-nil share)

pub first_worked : (deque : RowsId × Global) (a : Assignment) (one : PoolWorker)
    (rest left : List PoolWorker) → left ≡ one ∷ rest → All (HasWorked deque a) left
    → HasWorked deque a one
first_worked deque a one rest left is h =
    All-head (HasWorked deque a) one rest (subst (All (HasWorked deque a)) is h)

-- a worker in which memory didn't run out
pub took_if : (deque : RowsId × Global) (a : Assignment) (one : PoolWorker) (u : Unit {0})
    → one.outcome ≡ Ok u → HasWorked deque a one
    → (view one.pass ≡ tally 1 (jobs_in a) (jobs_of one.answered.items))
    × All (IsAnswered a) one.answered.items
took_if deque a one u is w = (
  subst (λ o. OnOk o (view one.pass ≡ tally 1 (jobs_in a) (jobs_of one.answered.items))) is w.took,
  subst (λ o. OnOk o (All (IsAnswered a) one.answered.items)) is w.each,
)

-- one worker's pass is joined, and its answers are put
pub gather_goes : (deque : RowsId × Global) (a : Assignment) (count : ℕ) (v u : Tally)
    (shares shares' : List (List ℕ)) (share : List ℕ) (tray tray' : List (List Ask))
    (one : PoolWorker) (rest left : List PoolWorker) → left ≡ one ∷ rest
    → view one.pass ≡ tally 1 (jobs_in a) (jobs_of one.answered.items)
    → All (IsAnswered a) one.answered.items → u ≡ joined_tally v (view one.pass)
    → tray' ≡ placed tray one.answered.items → share ≡ jobs_of one.answered.items
    → shares' ≡ shares ++ share ∷ [] → Gathering deque a count v shares tray left
    → Gathering deque a count u shares' tray' rest
gather_goes deque a count v u shares shares' share tray tray' one rest left is took each joined put
    jobs pushed h =
    let g : Gathering deque a count v shares tray (one ∷ rest) =
    subst (Gathering deque a count v shares tray) is h in
    let w : u ≡ joined_tally v (tally 1 (jobs_in a) share) =
    joined
    ∙ ap (joined_tally v) (took ∙ ap (λ (l : List ℕ). tally 1 (jobs_in a) l) (sym jobs)) in
    let parts : u.parts ≡ v.parts + 1 = ap (λ (x : Tally). x.parts) w in
    let p = g.0 in
    let c = g.4 in
    let len : length shares' ≡ length shares + 1 =
    ap length pushed ∙ length-append shares (share ∷ []) in
    let all_jobs : concat shares' ≡ concat shares ++ share =
    ap concat pushed ∙ concat_more shares share in
    let filled = put_all (all_answers a) (concat shares) tray one.answered.items g.5 each in (
      omega arith,
      omega arith,
      ap (λ (x : Tally). x.put) w ∙ g.2,
      ap (λ (x : Tally). x.taken) w ∙ ap (λ (l : List ℕ). l ++ share) g.3 ∙ sym all_jobs,
      omega arith,
      subst (λ (y : List ℕ × List (List Ask)). IsFilled (all_answers a) y.0 y.1)
          (λ i. (sym (all_jobs ∙ ap (λ (l : List ℕ). concat shares ++ l) jobs) i, sym put i))
          filled,
      All-tail (HasWorked deque a) one rest g.6,
    )

-- all are joined and nothing is left
pub gathered : (a : Assignment) (shares : List (List ℕ)) (share taken : List ℕ)
    (tray tray' : List (List Ask)) (rest : List Answered) → taken ≡ concat shares
    → IsFilled (all_answers a) (concat shares) tray → All (IsAnswered a) rest
    → ((x : ℕ) → times x (taken ++ jobs_of rest) ≡ times x (jobs (jobs_in a)))
    → share ≡ jobs_of rest → tray' ≡ placed tray rest
    → (tray' ≡ all_answers a) × All (All IsAsk) tray'
    × ((x : ℕ) → times x (concat (shares ++ share ∷ [])) ≡ times x (jobs (jobs_in a)))
gathered a shares share taken tray tray' rest is filled each all_taken same put =
    let done = put_all (all_answers a) (concat shares) tray rest filled each in (
      put
          ∙ all_put (all_answers a) (concat shares ++ jobs_of rest) (placed tray rest) done
          (λ x. ap (λ (l : List ℕ). times x (l ++ jobs_of rest)) (sym is) ∙ all_taken x
          ∙ ap (λ (k : ℕ). times x (jobs k)) (sym (all_length a))),
      subst (All (All IsAsk)) (sym put) done.fit,
      λ x. ap (times x)
          (concat_more shares share ∙ ap (λ (l : List ℕ). concat shares ++ l) same
          ∙ ap (λ (l : List ℕ). l ++ jobs_of rest) (sym is))
          ∙ all_taken x,
    )

-- ---- shares that have the jobs as often as they are
pub each_once : (n : ℕ) (shares : List (List ℕ))
    → ((x : ℕ) → times x (concat shares) ≡ times x (jobs n)) → HasEachJobOnce n shares
each_once n shares h = λ job low high. h job ∙ once job 1 n low (omega arith)

pub no_other : (n : ℕ) (shares : List (List ℕ))
    → ((x : ℕ) → times x (concat shares) ≡ times x (jobs n)) → HasNoOther n shares
no_other n shares h =
    λ job some.
    let e = h job in
    let r = in_range job 1 n (omega arith) in
    let low = r.0 in
    let high = r.1 in (low, omega arith)
