-- What one queue's entries say of a port's mailbox: their notices, and whether one found no room.
use Rattle.std.proofs.Common.{◌++◌, ◌<◌, ◌∙◌, ◌∷◌, ◌≡◌, ◌⊎◌, Bool, List, None, [], ap}
use Rattle.std.proofs.Common.{arith, cond}
use Rattle.std.proofs.Common.{false, inl, inr, refl, true, ℕ}
use Rattle.std.proofs.lemmas.Bool.{cases_Bool, eq-eqb, eqb-true}
use Rattle.std.proofs.lemmas.List.Elements.{filter-append}
use Rattle.std.proofs.lemmas.List.Sums.{sum_by-cons}
use Rattle.std.specs.Prelude.{count_by, flat_map, if◌then◌else◌, sum_by}
use Rattle.queue_core.specs.Step.{step}
use Rattle.histories.specs.declared.entry.Entry.{Entry}
use Rattle.histories.specs.History.{history, is_of, replay, replay_from}
use Rattle.histories.specs.Letters.{lacks_under, letters_under}
use Rattle.histories.specs.States.{state_of}
use Rattle.histories.specs.QueueHistories.{replay_on}
use Rattle.locked_place.specs.Notices.{lacking, lacks_at, letters_at, letters_to}
use Rattle.locked_place.specs.Points.{Point, point_after, points_after}
use Rattle.run_parts.specs.Notices.{letters_from}
use Rattle.run_parts.specs.Room.{some_lacks}
use Rattle.live_runs.specs.Seen.{EachIs}

-- one entry of the queue more
state_on : (queue : ℕ) (before : List Entry) (e : Entry) → e.queue ≡ queue →
    state_of (before ++ e ∷ []) queue ≡ (step (state_of before queue) e.event).state
state_on queue before e is =
    ap replay (filter-append (is_of queue) before (e ∷ []))
    ∙ replay_on None (history queue before) (history queue (e ∷ []))
    ∙ ap (λ (c : Bool). replay_from (state_of before queue) (if c then e ∷ [] else []))
    (eq-eqb e.queue queue is)

abbrev AreOf : ℕ → List Entry → Type 0
AreOf queue es = EachIs (λ (e : Entry). e.queue ≡ queue) es

of_queue : (queue : ℕ) (es : List Entry) → AreOf queue (history queue es)
of_queue queue [] = tt
of_queue queue (e ∷ es) = by (cases_Bool (is_of queue e)) (of_queue queue es)
  where
    by : (is_of queue e ≡ true) ⊎ (is_of queue e ≡ false) → AreOf queue (history queue es) →
        AreOf queue (history queue (e ∷ es))
    by (inl h) rest = rw h (eqb-true e.queue queue h, rest)
    by (inr h) rest = rw h rest

module _ (port queue : ℕ) where
  notices_after : (before es : List Entry) → AreOf queue es →
      flat_map (letters_at port) (points_after before es)
      ≡ letters_from port (state_of before queue) es
  notices_after before [] are = refl
  notices_after before (e ∷ es) are =
      ap (λ n. letters_under port (state_of before n) e
      ++ flat_map (letters_at port) (points_after (before ++ e ∷ []) es)) are.0
      ∙ ap (λ ls. letters_under port (state_of before queue) e ++ ls)
      (notices_after (before ++ e ∷ []) es are.1
      ∙ ap (λ s. letters_from port s es) (state_on queue before e are.0))

  abbrev one_if_lacks : Point → ℕ
  one_if_lacks p = cond (lacks_at port p) 1 0

  lacks_after : (before es : List Entry) → AreOf queue es →
      some_lacks port (state_of before queue) es ≡ true →
      0 < count_by (lacks_at port) (points_after before es)
  lacks_after before [] are some = absurd (cc)
  lacks_after before (e ∷ es) are some =
      by (cases_Bool (lacks_under port (state_of before queue) e))
      (λ so. lacks_after (before ++ e ∷ []) es are.1 so)
    where
      p : Point
      p = point_after before e

      rest : List Point
      rest = points_after (before ++ e ∷ []) es

      by : (lacks_under port (state_of before queue) e ≡ true)
          ⊎ (lacks_under port (state_of before queue) e ≡ false) →
          (some_lacks port (state_of (before ++ e ∷ []) queue) es ≡ true →
          0 < sum_by one_if_lacks rest) → 0 < sum_by one_if_lacks (p ∷ rest)
      by (inl h) next =
          let one : one_if_lacks p ≡ 1 =
          ap (λ n. cond (lacks_under port (state_of before n) e) 1 0) are.0
          ∙ ap (λ b. cond b 1 0) h in
          omega (arith, sum_by-cons one_if_lacks p rest, one)
      by (inr h) next =
          let more = next (ap (λ s. some_lacks port s es) (state_on queue before e are.0)
          ∙ rw h at some) in
          omega (arith, sum_by-cons one_if_lacks p rest, more)

  -- the notices of a queue's history, and where one of it found no room
  pub notices_are : (es : List Entry) →
      letters_to port (history queue es) ≡ letters_from port None (history queue es)
  notices_are es = notices_after [] (history queue es) (of_queue queue es)

  pub lacks_some : (es : List Entry) → some_lacks port None (history queue es) ≡ true →
      0 < lacking port (history queue es)
  lacks_some es some = lacks_after [] (history queue es) (of_queue queue es) some
