-- The orders of histories written out by hand.
use Rattle.std.proofs.Common.{◌≡◌, ◌≢◌, ℕ, zero, suc, ◌+◌, ◌<◌, Bool, true, false, List, []}
use Rattle.std.proofs.Common.{◌∷◌, ◌++◌}
use Rattle.std.proofs.Common.{refl, sym, ap, subst, ◌∙◌, arith, ◌⊎◌, inl, inr, ◌==◌, nat_eq}
use Rattle.std.proofs.Common.{nat_lt, length, slice_get, None}
use Rattle.std.proofs.lemmas.Bool.Decides.{nat_tests}
use mathlib.Core.List.{IsPrefix}
use Rattle.queue_core.specs.declared.event.Event.{Event}
use Rattle.queue_core.specs.declared.event.Event.TheVariants.{Ask}
use Rattle.queue_core.specs.Numbers.{verdict_drop}
use Rattle.histories.specs.declared.entry.Entry.{Entry}
use Rattle.histories.specs.declared.log.AskWords.TheVariants.{Raw}
use Rattle.histories.specs.declared.log.Did.{Did}
use Rattle.histories.specs.declared.log.PortLog.{PortLog}
use Rattle.histories.specs.History.{history}
use Rattle.histories.specs.Stays.{departures}
use Rattle.total_order.specs.Orders.{Pairs}
use Rattle.total_order.specs.Steps.{Step, IsAsked, IsSent, Has, HasLeft, taken, IsCausedAs}
use Rattle.total_order.specs.Steps.{InLogOrderAs, log_of}
use Rattle.total_order.specs.TotalOrder.{HasTotalOrder, InLogOrder, entries}
use Rattle.total_order.specs.OneThread.{Turn, Happens, Asks, Hears, Runs, said, silent}
use Rattle.total_order.specs.Examples.{answered_after, answered_before, answers, after_one, binds}
use Rattle.total_order.specs.Examples.{waits, asks_for_all, decides, to_queue, sent, ends}
use Rattle.total_order.specs.Examples.{crossing, crossing_requests, closed_before, asked_after}
use Rattle.total_order.proofs.Persistence.{left_on}
use Rattle.total_order.proofs.Positions.{IsAt, position_of, fronts, history_prefix, in_order}
use Rattle.total_order.proofs.Positions.{same_position, sooner}
use Rattle.total_order.proofs.OneThread.{one_thread}

-- ---- an answer and its packet

abbrev turn_by : ℕ → Entry → Event → Turn
turn_by queue e (Ask port call request) = Asks queue port call request e.reply (Raw []) None
turn_by queue e other = Happens e

abbrev turn : Entry → Turn
turn e = turn_by e.queue e e.event

-- a packet arrives, and the port is told of it, asks for whole packets and drops it
abbrev answering : ℕ → ℕ → List Turn → List Turn
answering number call ts =
    turn (waits 0 number 1 number) ∷ Hears 7 0 number 1 ∷ turn (asks_for_all 7 call 0)
    ∷ turn (decides 7 (call + 1) 0 number verdict_drop) ∷ ts

-- the turns of one thread that answers each packet after its arrival
abbrev turns : List Turn
turns = turn (binds 7 1 0 4) ∷ answering 1 2 (answering 2 4 (answering 3 6 []))

logged : (port : ℕ) → log_of port answers ≡ said silent turns port
logged port = by (nat_eq port 7) refl
  where
    by : (b : Bool) → nat_eq port 7 ≡ b → log_of port answers ≡ said silent turns port
    by true e = simp e refl
    by false e = simp e refl

-- the port is open at each turn, and the arrival of its notice was before
answered : {Heard Rest : Type 0} → Heard → Rest →
    Unit {0} × ((⊥ → ⊥) × Heard × ((⊥ → ⊥) × ((⊥ → ⊥) × Rest)))
answered heard rest = (tt, ((λ c. c), heard, ((λ c. c), ((λ c. c), rest))))

run : Runs [] silent turns
run = (
  (λ c. c),
  answered (inl (refl, refl)) (answered (inr (inl (refl, refl)))
      (answered (inr (inr (inl (refl, refl)))) tt)),
)

pub after : HasTotalOrder answered_after
after = one_thread turns answered_after run (λ queue. refl) logged

-- the second message of the log answers packet 1
answers_one : (at : ℕ) (before : List Entry) → IsAsked (log_of 7 answers) 2 at before →
    Has 1 1 (taken (history 0 before))
answers_one zero before asked = let s = asked.sent in absurd (omega (arith, s))
answers_one (suc zero) before asked = absurd asked.sent
answers_one (suc (suc n)) before asked = asked.heard.0

pub before : HasTotalOrder answered_before → ⊥
before order =
    let s = position_of answers 0 (asks_for_all 7 2 0) (waits 0 1 1 1 ∷ after_one) order.0
    (binds 7 1 0 4 ∷ []) order.1.caused (order.1.same 0) in
    let asked : IsAsked (log_of 7 answers) 2 s.step.at (entries s.front) =
    subst (λ (e : Entry). IsCausedAs answers (entries s.front) s.step.at e.event) s.is s.caused in
    subst (λ es. Has 1 1 (taken es)) s.before (answers_one s.step.at (entries s.front) asked)

-- ---- two packets

-- what has not left by then has not left before
module _ (one two : ℕ) (first second : List Entry) where
  none_left : (number : ℕ) (fore front : List Step) → IsPrefix fore front →
      history one (entries fore) ≡ first → history two (entries front) ≡ second →
      departures first ≡ [] → departures second ≡ [] →
      ((queue : ℕ) → queue ≢ one → queue ≢ two → history queue (entries front) ≡ []) →
      HasLeft number 1 (entries fore) → ⊥
  none_left number fore front p at_one at_two no_one no_two nowhere left =
      by (nat_eq left.queue one) (nat_eq left.queue two) refl refl
    where
      later : Has number 1 (departures (history left.queue (entries front)))
      later = left_on number 1 (history left.queue (entries fore))
          (history left.queue (entries front)) (history_prefix left.queue fore front p) left.left

      by : (b c : Bool) → nat_eq left.queue one ≡ b → nat_eq left.queue two ≡ c → ⊥
      by true c e f =
          let at : left.queue ≡ one = grind (arith, nat_tests) in
          subst (λ cs. Has number 1 cs) no_one
          (subst (λ es. Has number 1 (departures es)) at_one
          (subst (λ q. Has number 1 (departures (history q (entries fore)))) at left.left))
      by false true e f =
          let at : left.queue ≡ two = grind (arith, nat_tests) in
          subst (λ cs. Has number 1 cs) no_two
          (subst (λ es. Has number 1 (departures es)) at_two
          (subst (λ q. Has number 1 (departures (history q (entries front)))) at later))
      by false false e f =
          let no : left.queue ≢ one = grind (arith, nat_tests) in
          let not : left.queue ≢ two = grind (arith, nat_tests) in
          subst (λ es. Has number 1 (departures es)) (nowhere left.queue no not) later

abbrev first_of_1 : List Entry
first_of_1 = binds 7 1 1 0 ∷ waits 1 1 1 1 ∷ []

abbrev first_of_2 : List Entry
first_of_2 = binds 8 1 2 0 ∷ waits 2 2 1 1 ∷ []

elsewhere : (queue : ℕ) → queue ≢ 1 → queue ≢ 2 → history queue crossing.entries ≡ []
elsewhere queue a b = by (1 == queue) (2 == queue) refl refl
  where
    by : (c d : Bool) → (1 == queue) ≡ c → (2 == queue) ≡ d → history queue crossing.entries ≡ []
    by true d e f = absurd (grind (arith, nat_tests))
    by false true e f = absurd (grind (arith, nat_tests))
    by false false e f = simp (e, f)

front_none : (es fs : List Entry) → es ++ fs ≡ [] → es ≡ []
front_none [] fs e = refl
front_none (x ∷ es) fs e = absurd (cc e)

left_by : (number : ℕ) (logs : List PortLog) (front : List Entry) (step : Step) (queue : ℕ) →
    step.entry ≡ waits queue number 2 2 → IsCausedAs logs front step.at step.entry.event →
    HasLeft number 1 front
left_by number logs front step queue is caused =
    subst (λ (x : Entry). IsCausedAs logs front step.at x.event) is caused

pub packets_cross : HasTotalOrder crossing → ⊥
packets_cross order =
    let s = position_of crossing.logs 1 (waits 1 2 2 2) (decides 7 2 1 1 (to_queue 2) ∷ []) order.0
    first_of_1 order.1.caused (order.1.same 1) in
    let t = position_of crossing.logs 2 (waits 2 1 2 2) (decides 8 2 2 1 (to_queue 1) ∷ []) order.0
    first_of_2 order.1.caused (order.1.same 2) in
    by s t (fronts s.front t.front (s.step ∷ s.back) (t.step ∷ t.back) (sym s.whole ∙ t.whole))
  where
    nowhere : (front back : List Step) → order.0 ≡ front ++ back → (queue : ℕ) → queue ≢ 1 →
        queue ≢ 2 → history queue (entries front) ≡ []
    nowhere front back whole queue a b =
        let p = history_prefix queue front order.0 (back, sym whole) in
        let none = p.1 ∙ order.1.same queue ∙ elsewhere queue a b in
        front_none (history queue (entries front)) p.0 none

    by : (s : IsAt crossing.logs order.0 1 first_of_1 (waits 1 2 2 2))
        (t : IsAt crossing.logs order.0 2 first_of_2 (waits 2 1 2 2)) →
        IsPrefix s.front t.front ⊎ IsPrefix t.front s.front → ⊥
    by s t (inl p) = none_left 1 2 first_of_1 first_of_2 2 s.front t.front p s.before t.before refl
        refl (nowhere t.front (t.step ∷ t.back) t.whole)
        (left_by 2 crossing.logs (entries s.front) s.step 1 s.is s.caused)
    by s t (inr p) = none_left 2 1 first_of_2 first_of_1 1 t.front s.front p t.before s.before refl
        refl (λ queue a b. nowhere s.front (s.step ∷ s.back) s.whole queue b a)
        (left_by 1 crossing.logs (entries t.front) t.step 2 t.is t.caused)

-- ---- two ports

abbrev two_sent : List Did
two_sent = sent 1 ∷ sent 2 ∷ []

first_there : (at : ℕ) → IsSent 1 (slice_get two_sent at) → at ≡ 0
first_there zero s = refl
first_there (suc zero) s = absurd (omega (arith, s))
first_there (suc (suc n)) s = absurd s

second_there : (at : ℕ) → IsSent 2 (slice_get two_sent at) → at ≡ 1
second_there zero s = absurd (omega (arith, s))
second_there (suc zero) s = refl
second_there (suc (suc n)) s = absurd s

-- the position of a port's request in its log
module _ (logs : List PortLog) (step : Step) (front : List Entry) (port call queue : ℕ) where
  sent_at : log_of port logs ≡ two_sent → step.entry ≡ asks_for_all port call queue →
      IsCausedAs logs front step.at step.entry.event → IsSent call (slice_get two_sent step.at)
  sent_at log is caused =
      let asked : IsAsked (log_of port logs) call step.at front =
      subst (λ (x : Entry). IsCausedAs logs front step.at x.event) is caused in
      subst (λ ds. IsSent call (slice_get ds step.at)) log asked.sent

-- the second request never comes before the first
not_before : (x y : Step) (port one two : ℕ) → x.entry ≡ asks_for_all port 1 two →
    y.entry ≡ asks_for_all port 2 one → x.at ≡ 0 → y.at ≡ 1 → InLogOrder y x → ⊥
not_before x y port one two v w at to kept =
    let less : y.at < x.at =
    subst (λ (e : Entry). InLogOrderAs (asks_for_all port 2 one).event y.at e.event x.at) v
    (subst (λ (e : Entry). InLogOrderAs e.event y.at x.entry.event x.at) w kept) refl in
    absurd (omega (arith, less, at, to))

log_kept : (steps f b g c : List Step) (x y : Step) (port one two : ℕ) → Pairs InLogOrder steps →
    steps ≡ f ++ x ∷ b → steps ≡ g ++ y ∷ c → x.entry ≡ asks_for_all port 1 two →
    y.entry ≡ asks_for_all port 2 one → x.at ≡ 0 → y.at ≡ 1 → length f < length g
log_kept steps f b g c x y port one two kept w v is so at to =
    by (nat_lt (length f) (length g)) (nat_eq (length f) (length g)) refl refl
  where
    by : (a d : Bool) → nat_lt (length f) (length g) ≡ a → nat_eq (length f) (length g) ≡ d →
        length f < length g
    by true d e h = grind (arith, nat_tests)
    by false true e h =
        let same = same_position f b g c x y (sym w ∙ v) (grind (arith, nat_tests)) in
        let ats : x.at ≡ y.at = ap (λ (t : Step). t.at) same in
        absurd (omega (arith, at, to, ats))
    by false false e h =
        absurd (not_before x y port one two is so at to
        (in_order InLogOrder steps g c f b y x kept v w (grind (arith, nat_tests))))

pub requests_cross : HasTotalOrder crossing_requests → ⊥
requests_cross order =
    let logs = crossing_requests.logs in
    let a = position_of logs 0 (asks_for_all 8 2 0) (asks_for_all 7 1 0 ∷ []) order.0 []
    order.1.caused (order.1.same 0) in
    let b = position_of logs 0 (asks_for_all 7 1 0) [] order.0 (asks_for_all 8 2 0 ∷ [])
    order.1.caused (order.1.same 0) in
    let c = position_of logs 1 (asks_for_all 7 2 1) (asks_for_all 8 1 1 ∷ []) order.0 []
    order.1.caused (order.1.same 1) in
    let d = position_of logs 1 (asks_for_all 8 1 1) [] order.0 (asks_for_all 7 2 1 ∷ [])
    order.1.caused (order.1.same 1) in
    let ab = sooner 0 (asks_for_all 8 2 0) a.front a.back b.front b.back a.step b.step
    (sym a.whole ∙ b.whole) a.before b.before in
    let cd = sooner 1 (asks_for_all 7 2 1) c.front c.back d.front d.back c.step d.step
    (sym c.whole ∙ d.whole) c.before d.before in
    let da = log_kept order.0 d.front d.back a.front a.back d.step a.step 8 0 1 order.1.kept
    d.whole a.whole d.is a.is
    (first_there d.step.at (sent_at logs d.step (entries d.front) 8 1 1 refl d.is d.caused))
    (second_there a.step.at (sent_at logs a.step (entries a.front) 8 2 0 refl a.is a.caused)) in
    let bc = log_kept order.0 b.front b.back c.front c.back b.step c.step 7 1 0 order.1.kept
    b.whole c.whole b.is c.is
    (first_there b.step.at (sent_at logs b.step (entries b.front) 7 1 0 refl b.is b.caused))
    (second_there c.step.at (sent_at logs c.step (entries c.front) 7 2 1 refl c.is c.caused)) in
    absurd (omega (arith, ab, cd, da, bc))

-- ---- a port that closes

pub closes_late : HasTotalOrder closed_before → ⊥
closes_late order =
    let logs = closed_before.logs in
    let s = position_of logs 0 (ends 7 0) (waits 0 1 1 1 ∷ []) order.0 (binds 7 1 0 0 ∷ [])
    order.1.caused (order.1.same 0) in
    let heard : Has 1 1 (taken (history 0 (entries s.front))) × Unit {0} =
    subst (λ (e : Entry). IsCausedAs logs (entries s.front) s.step.at e.event) s.is s.caused in
    subst (λ es. Has 1 1 (taken es)) s.before heard.0

pub asks_no_more : HasTotalOrder asked_after → ⊥
asks_no_more order =
    let logs = asked_after.logs in
    let s = position_of logs 0 (ends 7 0) (asks_for_all 7 1 0 ∷ []) order.0 []
    order.1.caused (order.1.same 0) in
    let t = position_of logs 0 (asks_for_all 7 1 0) [] order.0 (ends 7 0 ∷ [])
    order.1.caused (order.1.same 0) in
    let kept : InLogOrder s.step t.step =
    in_order InLogOrder order.0 s.front s.back t.front t.back s.step t.step order.1.kept s.whole
    t.whole (sooner 0 (ends 7 0) s.front s.back t.front t.back s.step t.step
    (sym s.whole ∙ t.whole) s.before t.before) in
    let apart : 7 ≢ 7 =
    subst (λ (e : Entry). InLogOrderAs (ends 7 0).event s.step.at e.event t.step.at) t.is
    (subst (λ (e : Entry). InLogOrderAs e.event s.step.at t.step.entry.event t.step.at) s.is
    kept) in
    apart refl
