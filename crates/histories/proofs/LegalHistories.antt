-- Legal histories: their fronts, and how they go on.
use Rattle.std.proofs.Common.{◌≡◌, List, [], ◌∷◌, ◌++◌, Option, None, sym, subst, inl, inr}
use Rattle.std.proofs.lemmas.Bool.{cases_Bool, eqb-true}
use Rattle.queue_core.specs.State.{Bound}
use Rattle.queue_core.specs.Step.{step}
use Rattle.histories.specs.declared.entry.Entry.{Entry}
use Rattle.histories.specs.History.{replay_from, replay, IsStep, IsLegalFrom, IsLegal, is_of}
use Rattle.histories.specs.History.{history, AreLegal}
use Rattle.histories.specs.QueueHistories.{own_within, others_last, replay_on}

front_from : (q : Option Bound) (es fs : List Entry) → IsLegalFrom q (es ++ fs) → IsLegalFrom q es
front_from q [] fs h = tt
front_from q (e ∷ es) fs h = (h.0, front_from (step q e.event).state es fs h.1)

pub front : (es fs : List Entry) → IsLegal (es ++ fs) → IsLegal es
front es fs h = front_from None es fs h

on_from : (q : Option Bound) (es : List Entry) (e : Entry) → IsLegalFrom q es →
    IsStep (replay_from q es) e → IsLegalFrom q (es ++ e ∷ [])
on_from q [] e h one = (one, tt)
on_from q (d ∷ es) e h one = (h.0, on_from (step q d.event).state es e h.1 one)

pub state_on : (es : List Entry) (e : Entry) →
    replay (es ++ e ∷ []) ≡ (step (replay es) e.event).state
state_on es e = replay_on None es (e ∷ [])

pub legal_on : (es : List Entry) (e : Entry) → IsLegal es → IsStep (replay es) e →
    IsLegal (es ++ e ∷ [])
legal_on es e h one = on_from None es e h one

pub all_on : (es : List Entry) (e : Entry) → AreLegal es → IsStep (replay (history e.queue es)) e →
    AreLegal (es ++ e ∷ [])
all_on es e legal one queue = elim (cases_Bool (is_of queue e)) [
  | inl own ↦ (let here : IsStep (replay (history queue es)) e =
      subst (λ n. IsStep (replay (history n es)) e) (eqb-true e.queue queue own) one in
      subst IsLegal (sym (own_within queue es [] e own))
      (legal_on (history queue es) e (legal queue) here))
  | inr other ↦ subst IsLegal (sym (others_last es e queue other)) (legal queue)
]
