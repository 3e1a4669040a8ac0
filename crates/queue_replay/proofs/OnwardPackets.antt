-- Packets that go on, one after the other.
use Rattle.std.proofs.Common.{◌≡◌, ℕ, zero, suc, ◌-◌, [], ◌∷◌, ◌++◌, take, Option, None, refl}
use Rattle.std.proofs.Common.{sym, ap, ◌∙◌, append_assoc, append-nil, arith}
use Rattle.packet_entry.specs.declared.packet.Card.{Card}
use Rattle.packet_entry.specs.Card.{edited}
use Rattle.queue_replay.specs.Telling.{Waiting, Leavers, each_going, going_by}

-- one that isn't 0 is one more than the one below it
pub one_less : (n : ℕ) → (n ≡ 0 → ⊥) → n ≡ suc (n - 1)
one_less zero some = absurd (some refl)
one_less (suc n) some = omega arith

module _ (verdict : ℕ) (mark priority : Option ℕ) where
  -- one of those that are still to come goes on
  pub going_next : (before after all : Leavers) (more less : ℕ) (ws rest : Waiting)
      (w : ℕ × Card) → more ≡ suc less → ws ≡ w ∷ rest →
      after ≡ before ++ going_by verdict (edited w.1 mark None priority) →
      before ++ each_going verdict mark priority (take more ws) ≡ all →
      after ++ each_going verdict mark priority (take less rest) ≡ all
  going_next before after all more less ws rest w count front pushed so_far =
      ap (λ (xs : Leavers). xs ++ each_going verdict mark priority (take less rest)) pushed
      ∙ append_assoc before (going_by verdict (edited w.1 mark None priority))
      (each_going verdict mark priority (take less rest))
      ∙ sym (ap (λ n. before ++ each_going verdict mark priority (take n ws)) count
      ∙ ap (λ (vs : Waiting). before ++ each_going verdict mark priority (take (suc less) vs))
      front)
      ∙ so_far

  -- no more are asked for
  pub going_ends : (before all : Leavers) (more : ℕ) (ws : Waiting) → more ≡ 0 →
      before ++ each_going verdict mark priority (take more ws) ≡ all → before ≡ all
  going_ends before all more ws none so_far =
      sym (append-nil before)
      ∙ sym (ap (λ n. before ++ each_going verdict mark priority (take n ws)) none) ∙ so_far

  -- or none waits any more
  pub going_done : (before all : Leavers) (more : ℕ) (ws : Waiting) → ws ≡ [] →
      before ++ each_going verdict mark priority (take more ws) ≡ all → before ≡ all
  going_done before all more ws none so_far =
      sym (append-nil before)
      ∙ ap (λ (vs : Waiting). before ++ each_going verdict mark priority vs) (sym (no_take more))
      ∙ sym (ap (λ (vs : Waiting). before ++ each_going verdict mark priority (take more vs)) none)
      ∙ so_far
    where
      no_take : (n : ℕ) → take n (let vs : Waiting = [] in vs) ≡ []
      no_take zero = refl
      no_take (suc n) = refl
