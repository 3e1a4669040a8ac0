-- For proofs alone: the histories of queues among the entries of all of them.
use Rattle.std.proofs.Common.{◌≡◌, ℕ, List, [], ◌∷◌, ◌++◌, Option, None, true, false, cond, refl}
use Rattle.std.proofs.Common.{sym, ap, ◌∙◌, subst, append-nil, inl, inr}
use Rattle.std.proofs.lemmas.Bool.{eq-eqb, cases_Bool}
use Rattle.std.proofs.lemmas.List.Elements.{filter-append}
use Rattle.queue_core.specs.State.{Bound}
use Rattle.queue_core.specs.Step.{step}
use Rattle.histories.specs.declared.entry.Entry.{Entry}
use Rattle.histories.specs.History.{history, replay, replay_from, is_of, IsStep, IsLegal, AreLegal}
use Rattle.histories.specs.History.{IsLegalFrom}
use Rattle.histories.specs.NumberKeys.{not_of, each_number}

-- the history of a queue's history is itself
pub history_twice : (queue : ℕ) (es : List Entry) →
    history queue (history queue es) ≡ history queue es
history_twice queue [] = refl
history_twice queue (d ∷ es) = elim (cases_Bool (is_of queue d)) [
  | inl h ↦ rw h (rw h (ap (λ (l : List Entry). d ∷ l) (history_twice queue es)))
  | inr h ↦ rw h (history_twice queue es)
]

-- ---- one entry first

pub own_first : (queue : ℕ) (e : Entry) (fs : List Entry) → is_of queue e ≡ true →
    history queue (e ∷ fs) ≡ e ∷ history queue fs
own_first queue e fs own = ap (λ b. cond b (e ∷ history queue fs) (history queue fs)) own

pub other_first : (queue : ℕ) (e : Entry) (fs : List Entry) → is_of queue e ≡ false →
    history queue (e ∷ fs) ≡ history queue fs
other_first queue e fs other = ap (λ b. cond b (e ∷ history queue fs) (history queue fs)) other

-- ---- one entry among others

-- an entry stands in its queue's history
pub own_within : (queue : ℕ) (es fs : List Entry) (e : Entry) → is_of queue e ≡ true →
    history queue (es ++ e ∷ fs) ≡ history queue es ++ e ∷ history queue fs
own_within queue es fs e own =
    filter-append (is_of queue) es (e ∷ fs)
    ∙ ap (λ (gs : List Entry). history queue es ++ gs) (own_first queue e fs own)

-- and in no other
pub others_within : (queue : ℕ) (es fs : List Entry) (e : Entry) → is_of queue e ≡ false →
    history queue (es ++ e ∷ fs) ≡ history queue es ++ history queue fs
others_within queue es fs e other =
    filter-append (is_of queue) es (e ∷ fs)
    ∙ ap (λ (gs : List Entry). history queue es ++ gs) (other_first queue e fs other)

-- ---- one entry more

pub own_last : (es : List Entry) (e : Entry) →
    history e.queue (es ++ e ∷ []) ≡ history e.queue es ++ e ∷ []
own_last es e = own_within e.queue es [] e (eq-eqb e.queue e.queue refl)

pub others_last : (es : List Entry) (e : Entry) (queue : ℕ) → is_of queue e ≡ false →
    history queue (es ++ e ∷ []) ≡ history queue es
others_last es e queue other =
    others_within queue es [] e other ∙ append-nil (history queue es)

-- what holds of each history holds of each with an entry more
pub each_on : (P : ℕ → List Entry → Type 0) (es : List Entry) (e : Entry) →
    ((queue : ℕ) → P queue (history queue es)) →
    (P e.queue (history e.queue es) → P e.queue (history e.queue es ++ e ∷ [])) →
    (queue : ℕ) → P queue (history queue (es ++ e ∷ []))
each_on P es e each own =
    each_number (λ q. P q (history q (es ++ e ∷ []))) e.queue
    (subst (P e.queue) (sym (own_last es e)) (own (each e.queue)))
    (λ q other. subst (P q) (sym (others_last es e q (not_of e.queue q other))) (each q))

-- ---- states

pub replay_on : (q : Option Bound) (es fs : List Entry) →
    replay_from q (es ++ fs) ≡ replay_from (replay_from q es) fs
replay_on q [] fs = refl
replay_on q (e ∷ es) fs = replay_on (step q e.event).state es fs

-- an entry's step is made of its queue's state
pub state_on : (queue : ℕ) (es : List Entry) (e : Entry) → is_of queue e ≡ true →
    replay (history queue (es ++ e ∷ [])) ≡ (step (replay (history queue es)) e.event).state
state_on queue es e own =
    ap replay (own_within queue es [] e own) ∙ replay_on None (history queue es) (e ∷ [])

pub state_last : (es : List Entry) (e : Entry) →
    replay (history e.queue (es ++ e ∷ []))
    ≡ (step (replay (history e.queue es)) e.event).state
state_last es e = state_on e.queue es e (eq-eqb e.queue e.queue refl)

step_in : (q : Option Bound) (es fs : List Entry) (e : Entry) → IsLegalFrom q (es ++ e ∷ fs) →
    IsStep (replay_from q es) e
step_in q [] fs e legal = legal.0
step_in q (d ∷ es) fs e legal = step_in (step q d.event).state es fs e legal.1

-- each entry of legal histories is a step of its queue
pub step_at : (before rest : List Entry) (e : Entry) → AreLegal (before ++ e ∷ rest) →
    IsStep (replay (history e.queue before)) e
step_at before rest e legal =
    step_in None (history e.queue before) (history e.queue rest) e
    (subst IsLegal (own_within e.queue before rest e (eq-eqb e.queue e.queue refl))
    (legal e.queue))
