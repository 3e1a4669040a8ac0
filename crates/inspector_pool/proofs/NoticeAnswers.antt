-- The answers to notices, by their numbers and one after the other.
use Rattle.std.proofs.Common.{◌≡◌, ℕ, zero, suc, ◌+◌, ◌-◌, ◌≤◌, List, [], ◌∷◌, ◌++◌, length}
use Rattle.std.proofs.Common.{get_or, refl, ap, sym, ◌∙◌, arith, rules, Some, All}
use Rattle.std.specs.Prelude.{take}
use Rattle.std.specs.List.{slice_get}
use Rattle.nfqa_msgs.specs.declared.notice.Notice.{Notice}
use Rattle.script_lines.specs.declared.ask.Ask.{Ask}
use Rattle.script_lines.specs.Limits.{IsAsk}
use Rattle.inspector_script.specs.Scripts.{ScriptValue, answer, count_after, next_count}
use Rattle.inspector_pool.specs.Answers.{answers, in_turn}
use Rattle.inspector_pool.specs.declared.assignment.Assignment.{Assignment}
use Rattle.inspector_pool.specs.Work.{IsAnswered, jobs_in}
use Rattle.inspector_pool.specs.Desks.{IsAnswerTo}

-- ---- by their numbers
pub answers_length : (s : ScriptValue) (place counted : ℕ) (ns : List Notice)
    → length (answers s place counted ns) ≡ length ns
answers_length s place counted [] = refl
answers_length s place counted (n ∷ ns) = ap suc (answers_length s place (counted + 1) ns)

pub answers_at : (s : ScriptValue) (place counted : ℕ) (ns : List Notice) (k : ℕ) (n : Notice)
    → slice_get ns k ≡ Some n
    → slice_get (answers s place counted ns) k
    ≡ Some (answer s place (count_after counted (k + 1)) n)
answers_at s place counted (m ∷ ns) zero n at = search (rules, at)
answers_at s place counted (m ∷ ns) (suc k) n at =
    let e : count_after (counted + 1) (k + 1) ≡ count_after counted (suc k + 1) = omega arith in
    answers_at s place (counted + 1) ns k n at ∙ ap (λ (j : ℕ). Some (answer s place j n)) e
answers_at s place counted [] k n at = search (rules, at)

answers_get : (s : ScriptValue) (place counted : ℕ) (ns : List Notice) (k : ℕ) (n : Notice)
    → slice_get ns k ≡ Some n
    → answer s place (count_after counted (k + 1)) n ≡ get_or (answers s place counted ns) k []
answers_get s place counted (m ∷ ns) zero n at = search (rules, at)
answers_get s place counted (m ∷ ns) (suc k) n at =
    let e : count_after counted (suc k + 1) ≡ count_after (counted + 1) (k + 1) = omega arith in
    ap (λ (j : ℕ). answer s place j n) e ∙ answers_get s place (counted + 1) ns k n at
answers_get s place counted [] k n at = search (rules, at)

-- what a job's answer is
pub job_answered : (a : Assignment) (job : ℕ) (n : Notice) (asks : List Ask) → 1 ≤ job
    → job ≤ jobs_in a → slice_get a.notices.now (job - 1) ≡ Some n
    → asks ≡ answer a.script.now a.place (count_after a.counted job) n → All IsAsk asks
    → IsAnswered a (record { job = job; asks = asks })
job_answered a job n asks lo hi at is fit =
    let len = answers_length a.script.now a.place a.counted a.notices.now in
    let e : job ≡ job - 1 + 1 = omega arith in
    record {
      low = lo;
      high = omega arith;
      asks = is
          ∙ ap (λ (j : ℕ). answer a.script.now a.place (count_after a.counted j) n) e
          ∙ answers_get a.script.now a.place a.counted a.notices.now (job - 1) n at;
      fit = fit;
    }

-- the answers to one notice more
pub answers_further : (s : ScriptValue) (place counted : ℕ) (ns : List Notice) (k before : ℕ)
    (n : Notice) (given : List Ask) → slice_get ns k ≡ Some n → before ≡ count_after counted k
    → IsAnswerTo s place before n given
    → answers s place counted (take k ns) ++ given ∷ []
    ≡ answers s place counted (take (suc k) ns)
answers_further s place counted (m ∷ ns) zero before n given at counts is =
    let same : m ≡ n = search (rules, at) in
    let e : next_count before ≡ next_count counted = omega (arith, counts) in
    ap (λ (a : List Ask). a ∷ [])
    (is.asks ∙ ap (λ (j : ℕ). answer s place j n) e
    ∙ ap (λ (x : Notice). answer s place (next_count counted) x) (sym same))
answers_further s place counted (m ∷ ns) (suc k) before n given at counts is =
    let next : next_count before ≡ next_count (count_after (counted + 1) k) =
    omega (arith, counts) in
    ap (λ (l : List (List Ask)). answer s place (next_count counted) m ∷ l)
    (answers_further s place (counted + 1) ns k (count_after (counted + 1) k) n given at refl
    (record {
      asks = is.asks ∙ ap (λ (j : ℕ). answer s place j n) next;
      fit = is.fit;
    }))
answers_further s place counted [] k before n given at counts is = search (rules, at)

-- ---- one after the other
-- a count that has stopped at its last value goes on as one that hasn't
answers_stopped : (s : ScriptValue) (place a b : ℕ) (ns : List Notice)
    → count_after a 0 ≡ count_after b 0 → answers s place a ns ≡ answers s place b ns
answers_stopped s place a b [] e = refl
answers_stopped s place a b (n ∷ ns) e =
    let next : count_after a 1 ≡ count_after b 1 = omega arith in
    let more : count_after (a + 1) 0 ≡ count_after (b + 1) 0 = omega arith in
    ap (λ (j : ℕ). answer s place j n ∷ answers s place (a + 1) ns) next
    ∙ ap (λ (l : List (List Ask)). answer s place (count_after b 1) n ∷ l)
    (answers_stopped s place (a + 1) (b + 1) ns more)

pub answers_in_turn : (s : ScriptValue) (place counted : ℕ) (ns : List Notice)
    → answers s place counted ns ≡ in_turn s (record { place = place; received = counted }) ns
answers_in_turn s place counted [] = refl
answers_in_turn s place counted (n ∷ ns) =
    ap (λ (l : List (List Ask)). answer s place (count_after counted 1) n ∷ l)
    (answers_stopped s place (counted + 1) (count_after counted 1) ns (omega arith)
    ∙ answers_in_turn s place (count_after counted 1) ns)

pub answers_append : (s : ScriptValue) (place counted : ℕ) (ns ms : List Notice)
    → answers s place counted (ns ++ ms)
    ≡ answers s place counted ns ++ answers s place (count_after counted (length ns)) ms
answers_append s place counted [] ms =
    answers_stopped s place counted (count_after counted 0) ms (omega arith)
answers_append s place counted (n ∷ ns) ms =
    let e : count_after (counted + 1) (length ns) ≡ count_after counted (suc (length ns)) =
    omega arith in
    ap (λ (l : List (List Ask)). answer s place (count_after counted 1) n ∷ l)
    (answers_append s place (counted + 1) ns ms
    ∙ ap (λ (c : ℕ). answers s place (counted + 1) ns ++ answers s place c ms) e)
