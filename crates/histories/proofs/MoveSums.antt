-- Moves of the same queues in another order between queues: all sums over them are the same.
use Rattle.std.proofs.Common.{◌≡◌, ◌≤◌, ◌+◌, ℕ, zero, suc, List}
use Rattle.std.proofs.Common.{[], ◌∷◌, ◌++◌, length, Bool, true}
use Rattle.std.proofs.Common.{refl, sym, ap, ◌∙◌, arith, inl, inr}
use Rattle.std.specs.Prelude.{filter, sum_by, count_by, not}
use Rattle.std.proofs.lemmas.Bool.{eq-eqb, cases_Bool, eqb-true}
use Rattle.std.proofs.lemmas.List.Sums.{sum_by-cons}
use Rattle.packet_entry.specs.declared.packet.Card.{Card}
use Rattle.hook_chain.specs.Rules.{RuleTables}
use Rattle.queue_core.specs.Step.{step}
use Rattle.histories.specs.declared.histories.Lost.{Lost}
use Rattle.histories.specs.declared.entry.Entry.{Entry}
use Rattle.histories.specs.History.{history, is_of, replay}
use Rattle.histories.specs.QueueHistories.{own_within, others_last, history_twice}
use Rattle.histories.specs.Moves.{Move, moves, moves_after, move_after}
use Rattle.histories.specs.Journeys.{AreSound, asks, came, visit_of}

-- ---- the moves of one queue

abbrev pub is_at : ℕ → Move → Bool
is_at queue m = is_of queue m.entry

abbrev pub part : ℕ → List Move → List Move
part queue ms = filter (is_at queue) ms

-- a queue's move after some entries is its move after that queue's entries among them
same_move : (before : List Entry) (e : Entry) →
    move_after before e ≡ move_after (history e.queue before) e
same_move before e =
    ap (λ (h : List Entry). record { entry = e; left = (step (replay h) e.event).left })
    (sym (history_twice e.queue before))

at_queue : (queue : ℕ) (before : List Entry) (e : Entry) → is_of queue e ≡ true →
    move_after before e ≡ move_after (history queue before) e
at_queue queue before e own =
    same_move before e
    ∙ ap (λ n. move_after (history n before) e) (eqb-true e.queue queue own)

-- the moves of one queue among all are the moves of its history
part_is : (queue : ℕ) (before es : List Entry) → part queue (moves_after before es)
    ≡ moves_after (history queue before) (history queue es)
part_is queue before [] = refl
part_is queue before (e ∷ es) =
    elim (cases_Bool (is_of queue e)) [
      | inl own ↦ rw own
          (ap (λ (m : Move). m ∷ part queue (moves_after (before ++ e ∷ []) es))
          (at_queue queue before e own)
          ∙ ap (λ (ms : List Move). move_after (history queue before) e ∷ ms)
          (part_is queue (before ++ e ∷ []) es
          ∙ ap (λ (h : List Entry). moves_after h (history queue es))
          (own_within queue before [] e own)))
      | inr other ↦ rw other
          (part_is queue (before ++ e ∷ []) es
          ∙ ap (λ (h : List Entry). moves_after h (history queue es))
          (others_last before e queue other))
    ]

-- ---- the same parts, the same sums

abbrev pub others : ℕ → List Move → List Move
others queue ms = filter (λ m. not (is_at queue m)) ms

sum_split : (f : Move → ℕ) (queue : ℕ) (ms : List Move) →
    sum_by f ms ≡ sum_by f (part queue ms) + sum_by f (others queue ms)
sum_split f queue [] = refl
sum_split f queue (m ∷ ms) =
    elim (cases_Bool (is_at queue m)) [
      | inl own ↦ rw own
          (omega (
            arith,
            sum_split f queue ms,
            sum_by-cons f m ms,
            sum_by-cons f m (part queue ms),
          ))
      | inr other ↦ rw other
          (omega (
            arith,
            sum_split f queue ms,
            sum_by-cons f m ms,
            sum_by-cons f m (others queue ms),
          ))
    ]

others_shorter : (queue : ℕ) (ms : List Move) → length (others queue ms) ≤ length ms
others_shorter queue [] = omega arith
others_shorter queue (m ∷ ms) =
    elim (cases_Bool (is_at queue m)) [
      | inl own ↦ rw own (omega (arith, others_shorter queue ms))
      | inr other ↦ rw other (omega (arith, others_shorter queue ms))
    ]

-- two tests one after the other, in either order
filters_commute : (p r : Move → Bool) (ms : List Move) →
    filter p (filter r ms) ≡ filter r (filter p ms)
filters_commute p r [] = refl
filters_commute p r (m ∷ ms) =
    elim (cases_Bool (p m)) [
      | inl a ↦ elim (cases_Bool (r m)) [
        | inl b ↦ rw (a, b, a) (ap (λ (l : List Move). m ∷ l) (filters_commute p r ms))
        | inr b ↦ rw (a, b) (filters_commute p r ms)
      ]
      | inr a ↦ elim (cases_Bool (r m)) [
        | inl b ↦ rw (a, b, a) (filters_commute p r ms)
        | inr b ↦ rw (a, b) (filters_commute p r ms)
      ]
    ]

-- where each queue's part is the same, so are all sums
same_sums : (f : Move → ℕ) (n : ℕ) (ms ns : List Move) → length ms ≤ n →
    ((queue : ℕ) → part queue ms ≡ part queue ns) → sum_by f ms ≡ sum_by f ns
same_sums f n [] [] few same = refl
same_sums f n [] (k ∷ ns) few same =
    absurd (none (rw (eq-eqb k.entry.queue k.entry.queue refl) at (same k.entry.queue)))
  where
    none : [] ≡ k ∷ part k.entry.queue ns → ⊥
    none is = cc
same_sums f zero (m ∷ ms) ns few same = absurd (omega (arith, few))
same_sums f (suc n) (m ∷ ms) ns few same =
    let q = m.entry.queue in
    omega (
      arith,
      sum_split f q (m ∷ ms),
      sum_split f q ns,
      ap (sum_by f) (same q),
      same_sums f n (others q (m ∷ ms)) (others q ns) (fewer few) (apart same),
    )
  where
    fewer : length (m ∷ ms) ≤ suc n → length (others m.entry.queue (m ∷ ms)) ≤ n
    fewer few =
        rw (eq-eqb m.entry.queue m.entry.queue refl)
        (omega (arith, few, others_shorter m.entry.queue ms))

    apart : ((queue : ℕ) → part queue (m ∷ ms) ≡ part queue ns) → (queue : ℕ) →
        part queue (others m.entry.queue (m ∷ ms)) ≡ part queue (others m.entry.queue ns)
    apart same queue =
        filters_commute (is_at queue) (λ k. not (is_at m.entry.queue k)) (m ∷ ms)
        ∙ ap (filter (λ k. not (is_at m.entry.queue k))) (same queue)
        ∙ sym (filters_commute (is_at queue) (λ k. not (is_at m.entry.queue k)) ns)

-- entries of which each queue's are the same
pub same_moves : (es gs : List Entry) →
    ((queue : ℕ) → history queue gs ≡ history queue es) → (f : Move → ℕ) →
    sum_by f (moves gs) ≡ sum_by f (moves es)
same_moves es gs same f =
    same_sums f (length (moves gs)) (moves gs) (moves es) (omega arith)
    (λ queue. part_is queue [] gs ∙ ap moves (same queue) ∙ sym (part_is queue [] es))

-- what was sound stays so
pub grouped_sound : (tables : RuleTables) (key : ℕ) (fed : List Card) (es gs : List Entry)
    (lost : List Lost) → ((queue : ℕ) → history queue gs ≡ history queue es) →
    AreSound tables key fed es lost → AreSound tables key fed gs lost
grouped_sound tables key fed es gs lost same sound =
    record {
      asked = λ test. omega (
        arith,
        sound.asked test,
        same_moves es gs same (λ m. count_by test (came m)),
        same_moves es gs same (λ m. count_by test (asks tables key m)),
      );
      met = λ test. omega (
        arith,
        sound.met test,
        same_moves es gs same (λ m. count_by (λ a. test (visit_of a)) (came m)),
        same_moves es gs same (λ m. count_by (λ a. test (visit_of a)) (asks tables key m)),
      );
      first = sound.first;
    }
