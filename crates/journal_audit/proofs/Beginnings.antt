-- The shortest beginning of a history that isn't legal.
use Rattle.std.proofs.Common.{◌≡◌, ◌≤◌, ℕ, ◌+◌, List, [], ◌∷◌, ◌++◌, length, take, drop}
use Rattle.std.proofs.Common.{Option, Some, None, refl, sym, subst, arith}
use Rattle.std.proofs.Common.{take_all, take-append-drop, length-append, inl, inr}
use Rattle.std.proofs.lemmas.Bool.{cases_Bool, eqb-true, ne_eqb, leb-true, leb-false}
use Rattle.std.proofs.lemmas.List.{take-append-le}
use Rattle.std.specs.Prelude.{nat_le, ◌↔◌}
use Rattle.queue_core.specs.State.{Bound}
use Rattle.queue_core.specs.Step.{step}
use Rattle.histories.specs.declared.entry.Entry.{Entry}
use Rattle.histories.specs.History.{replay, replay_from, history, is_of, IsStep, IsLegal}
use Rattle.histories.specs.History.{IsLegalFrom, AreLegal}
use Rattle.histories.proofs.LegalHistories.{front}
use Rattle.histories.specs.QueueHistories.{own_last, others_last}
use Rattle.journal_audit.specs.declared.first_illegal.Place1.{Place1}
use Rattle.journal_audit.specs.Illegal.{IsFirstIllegal, IsFirstOf, sooner}
use Rattle.journal_audit.specs.Watching.{IsFound}

-- ---- one history

last_step : (q : Option Bound) (es : List Entry) (e : Entry) → IsLegalFrom q (es ++ e ∷ []) →
    IsStep (replay_from q es) e
last_step q [] e legal = legal.0
last_step q (d ∷ es) e legal = last_step (step q d.event).state es e legal.1

-- the beginnings of a legal history are legal
beginning : (n : ℕ) (es : List Entry) → IsLegal es → IsLegal (take n es)
beginning n es legal =
    front (take n es) (drop n es) (subst IsLegal (sym (take-append-drop n es)) legal)

module _ (so_far : List Entry) (e : Entry) where
  -- a beginning is one of the longer history too
  same_beginning : (n : ℕ) → n ≤ length so_far → take n (so_far ++ e ∷ []) ≡ take n so_far
  same_beginning n short = take-append-le n so_far (e ∷ []) short

  -- what isn't legal doesn't become so
  pub stays_illegal : (IsLegal so_far → ⊥) → IsLegal (so_far ++ e ∷ []) → ⊥
  stays_illegal bad legal = bad (front so_far (e ∷ []) legal)

  -- an entry that is no step ends it
  pub ends_here : (IsStep (replay so_far) e → ⊥) → IsLegal (so_far ++ e ∷ []) → ⊥
  ends_here no_step legal = no_step (last_step None so_far e legal)

  -- and is the first that does, where the history was legal
  pub first_here : (at : ℕ) → at ≡ length so_far + 1 → IsLegal so_far →
      (IsStep (replay so_far) e → ⊥) → IsFirstIllegal (so_far ++ e ∷ []) at
  first_here at is legal no_step = record {
    within = omega (arith, is, length-append so_far (e ∷ []));
    illegal = λ l. ends_here no_step
        (subst IsLegal (take_all at (so_far ++ e ∷ [])
        (omega (arith, is, length-append so_far (e ∷ [])))) l);
    shortest = λ n less. subst IsLegal (sym (same_beginning n (omega (arith, is, less))))
        (beginning n so_far legal);
  }

  -- the first stays the first
  pub first_stays : (at : ℕ) → IsFirstIllegal so_far at → IsFirstIllegal (so_far ++ e ∷ []) at
  first_stays at first = record {
    within = omega (arith, first.within, length-append so_far (e ∷ []));
    illegal = λ l. first.illegal (subst IsLegal (same_beginning at first.within) l);
    shortest = λ n less. subst IsLegal
        (sym (same_beginning n (omega (arith, less, first.within)))) (first.shortest n less);
  }

-- ---- the histories of all queues

sooner_none : (first : Option Place1) (queue : ℕ) → sooner first queue None ≡ first
sooner_none None queue = refl
sooner_none (Some p) queue = refl

module _ (es : List Entry) (e : Entry) where
  -- what holds of a history and, at the entry's queue, of the history with the entry
  at_queue : (P : List Entry → Type 0) (queue : ℕ) → P (history queue es) →
      (P (history e.queue es) → P (history e.queue es ++ e ∷ [])) → P (history queue (es ++ e ∷ []))
  at_queue P queue was own = elim (cases_Bool (is_of queue e)) [
    | inl here ↦ (let same : e.queue ≡ queue = eqb-true e.queue queue here in
        subst (λ q. P (history q (es ++ e ∷ []))) same
        (subst P (sym (own_last es e))
        (own (subst (λ q. P (history q es)) (sym same) was))))
    | inr other ↦ subst P (sym (others_last es e queue other)) was
  ]

  -- other queues keep their histories
  kept : (P : List Entry → Type 0) (queue : ℕ) → (e.queue ≡ queue → ⊥) → P (history queue es) →
      P (history queue (es ++ e ∷ []))
  kept P queue differ was = subst P (sym (others_last es e queue (ne_eqb e.queue queue differ))) was

  -- no history ceases to be legal
  none_found : (first : Option Place1) → IsFirstOf es first →
      (IsLegal (history e.queue es) → IsLegal (history e.queue es ++ e ∷ [])) →
      IsFirstOf (es ++ e ∷ []) first
  none_found None legal goes_on = λ queue. at_queue IsLegal queue (legal queue) goes_on
  none_found (Some p) first goes_on = record {
    first = at_queue (λ h. IsFirstIllegal h p.at) p.queue first.first
        (first_stays (history e.queue es) e p.at);
    before = λ queue less. at_queue IsLegal queue (first.before queue less) goes_on;
  }

  found_at : (at : ℕ) → IsFirstIllegal (history e.queue es ++ e ∷ []) at →
      IsFirstIllegal (history e.queue (es ++ e ∷ [])) at
  found_at at is =
      subst (λ h. IsFirstIllegal h at) (sym (own_last es e)) is

  -- the history of the entry's queue does, and this is the first place, or comes behind it
  one_found : (first : Option Place1) (at : ℕ) → IsFirstOf es first →
      IsFirstIllegal (history e.queue es ++ e ∷ []) at →
      IsFirstOf (es ++ e ∷ []) (sooner first e.queue (Some at))
  one_found None at legal is = record {
    first = found_at at is;
    before = λ queue less. kept IsLegal queue (λ same. omega (arith, less, same)) (legal queue);
  }
  one_found (Some p) at first is = elim (cases_Bool (nat_le p.queue e.queue)) [
    | inl behind ↦ rw behind (record {
      first = at_queue (λ h. IsFirstIllegal h p.at) p.queue first.first
          (first_stays (history e.queue es) e p.at);
      before = λ queue less. kept IsLegal queue
          (λ same. omega (arith, less, same, leb-true p.queue e.queue behind))
          (first.before queue less);
    })
    | inr ahead ↦ rw ahead (record {
      first = found_at at is;
      before = λ queue less. kept IsLegal queue (λ same. omega (arith, less, same))
          (first.before queue (omega (arith, less, leb-false p.queue e.queue ahead)));
    })
  ]

  -- one entry more
  pub first_on : (first : Option Place1) (found : Option ℕ) → IsFirstOf es first →
      IsFound (history e.queue es) e found →
      IsFirstOf (es ++ e ∷ []) (sooner first e.queue found)
  first_on first None was goes_on =
      subst (IsFirstOf (es ++ e ∷ [])) (sym (sooner_none first e.queue))
      (none_found first was goes_on)
  first_on first (Some at) was is = one_found first at was is

-- there is no first place exactly where all are legal
pub none_if_legal : (es : List Entry) (place : Option Place1) → IsFirstOf es place →
    (place ≡ None) ↔ AreLegal es
none_if_legal es None legal = (λ none. legal, λ all. refl)
none_if_legal es (Some p) is = (
  λ none. absurd (let wrong : Some p ≡ None = none in cc),
  λ all. absurd (is.first.illegal
      (beginning p.at (history p.queue es) (all p.queue))),
)
