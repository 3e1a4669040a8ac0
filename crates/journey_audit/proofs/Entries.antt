-- Entries that are followed: what came, and what was asked for.
use Rattle.std.proofs.Common.{◌≡◌, ℕ, List, [], ◌∷◌, ◌++◌, Option, Bool, true, refl}
use Rattle.std.proofs.Common.{sym, ap, ◌∙◌, subst, append_assoc, append-nil}
use Rattle.std.specs.Prelude.{flat_map, ◌&&◌, ◌↔◌, IsTrue}
use Rattle.std.specs.BTreeMap.{get}
use Rattle.std.specs.Ordering.{nat_cmp}
use Rattle.std.proofs.lemmas.Bool.{and_from, and_parts}
use Rattle.std.proofs.lemmas.Grind.{flat_map-append}
use Rattle.packet_entry.specs.declared.packet.Card.{Card}
use Rattle.hook_chain.specs.Rules.{RuleTables}
use Rattle.hook_chain.specs.declared.chain.Decision.{Decision}
use Rattle.queue_core.specs.State.{Bound}
use Rattle.queue_core.specs.Step.{step, Way, Gone, Open, Decided}
use Rattle.histories.specs.declared.entry.Entry.{Entry}
use Rattle.histories.specs.History.{IsStep, AreLegal}
use Rattle.histories.specs.Moves.{moves, move_after}
use Rattle.histories.specs.Journeys.{asks, came, going_on}
use Rattle.queue_replay.specs.Going.{going, all_going}
use Rattle.queue_replay.specs.declared.replayed.Replayed.{Replayed}
use Rattle.queue_replay.specs.Replays.{queue_in, IsReplayOf}
use Rattle.histories.specs.QueueHistories.{step_at}
use Rattle.journey_audit.specs.Tallying.{TallyMap, Grows}
use Rattle.journey_audit.specs.Following.{asked_after}
use Rattle.journey_audit.proofs.Tallies.{grows_by_none, grows_on, grows_as}

-- ---- what a packet asks for that goes on

module _ (tables : RuleTables) (key : ℕ) where
  one_asks : (l : Card × Way) →
      flat_map (asked_after tables key) (going l) ≡ going_on tables key l
  one_asks (card, Gone) = refl
  one_asks (card, Open) = append-nil (going_on tables key (card, Open))
  one_asks (card, Decided decision) = append-nil (going_on tables key (card, Decided decision))

  all_ask : (ls : List (Card × Way)) →
      flat_map (asked_after tables key) (all_going ls) ≡ flat_map (going_on tables key) ls
  all_ask [] = refl
  all_ask (l ∷ ls) =
      flat_map-append (asked_after tables key) (going l) (all_going ls)
      ∙ ap (λ xs. xs ++ flat_map (asked_after tables key) (all_going ls)) (one_asks l)
      ∙ ap (λ xs. going_on tables key l ++ xs) (all_ask ls)

-- ---- one entry more

-- The entries before are replayed. As long as they are legal, what came and was asked for is
-- tallied.
pub record AreFollowed (tables : RuleTables) (key : ℕ) (r : Replayed) (is_legal : Bool)
    (old now : TallyMap) (before rest : List Entry) : Type 0 where
  pub replayed : IsReplayOf before r
  pub grown : is_legal ≡ true → Grows old now (flat_map came (moves before))
      (flat_map (asks tables key) (moves before))
  pub legal : AreLegal (before ++ rest) → is_legal ≡ true

pub none_followed : (tables : RuleTables) (key : ℕ) (r : Replayed) (tallies : TallyMap)
    (entries : List Entry) → IsReplayOf [] r →
    AreFollowed tables key r true tallies tallies [] entries
none_followed tables key r tallies entries is = record {
  replayed = is;
  grown = λ h. grows_by_none tallies;
  legal = λ h. refl;
}

module _ (tables : RuleTables) (key : ℕ) (before others : List Entry) (e : Entry)
    (r s : Replayed) (is_legal is_step : Bool) (old now : TallyMap)
    (are : AreFollowed tables key r is_legal old now before (e ∷ others))
    (replays : IsReplayOf (before ++ e ∷ []) s)
    (one : IsTrue is_step ↔ IsStep (queue_in (get nat_cmp r.queues e.queue)) e) where
  legal_on : AreLegal ((before ++ e ∷ []) ++ others) → (is_legal && is_step) ≡ true
  legal_on legal =
      let whole : AreLegal (before ++ e ∷ others) =
      subst AreLegal (append_assoc before (e ∷ []) others) legal in
      and_from is_legal is_step (are.legal whole)
      (one.1 (subst (λ (q : Option Bound). IsStep q e) (sym (are.replayed.queues e.queue))
      (step_at before others e whole)))

  pub followed_on : (is_now : Bool) (next : TallyMap) (leavers : List (Card × Decision)) →
      is_now ≡ (is_legal && is_step) →
      moves (before ++ e ∷ []) ≡ moves before ++ move_after before e ∷ [] →
      (IsStep (queue_in (get nat_cmp r.queues e.queue)) e →
      leavers ≡ all_going (step (queue_in (get nat_cmp r.queues e.queue)) e.event).left) →
      (IsTrue is_now → Grows now next (came (move_after before e))
      (flat_map (asked_after tables key) leavers)) →
      AreFollowed tables key s is_now old next (before ++ e ∷ []) others
  followed_on is_now next leavers is_both move going grows = record {
    replayed = replays;
    grown = λ h.
        let both = and_parts is_legal is_step (sym is_both ∙ h) in
        grows_as old next _ _ _ _ (sym came_all) (asked_more (one.0 both.1) ∙ sym asked_all)
        (grows_on old now next (flat_map came (moves before))
        (flat_map (asks tables key) (moves before)) (came (move_after before e))
        (flat_map (asked_after tables key) leavers) (are.grown both.0) (grows h));
    legal = λ h. is_both ∙ legal_on h;
  }
    where
      came_all : flat_map came (moves (before ++ e ∷ []))
          ≡ flat_map came (moves before) ++ came (move_after before e)
      came_all =
          ap (flat_map came) move ∙ flat_map-append came (moves before) (move_after before e ∷ [])
          ∙ ap (λ xs. flat_map came (moves before) ++ xs) (append-nil (came (move_after before e)))

      asked_all : flat_map (asks tables key) (moves (before ++ e ∷ []))
          ≡ flat_map (asks tables key) (moves before) ++ asks tables key (move_after before e)
      asked_all =
          ap (flat_map (asks tables key)) move
          ∙ flat_map-append (asks tables key) (moves before) (move_after before e ∷ [])
          ∙ ap (λ xs. flat_map (asks tables key) (moves before) ++ xs)
          (append-nil (asks tables key (move_after before e)))

      asked_more : IsStep (queue_in (get nat_cmp r.queues e.queue)) e →
          flat_map (asks tables key) (moves before)
          ++ flat_map (asked_after tables key) leavers
          ≡ flat_map (asks tables key) (moves before) ++ asks tables key (move_after before e)
      asked_more is = ap (λ xs. flat_map (asks tables key) (moves before) ++ xs)
          (ap (flat_map (asked_after tables key)) (going is)
          ∙ all_ask tables key (step (queue_in (get nat_cmp r.queues e.queue)) e.event).left
          ∙ ap (λ (q : Option Bound). flat_map (going_on tables key) (step q e.event).left)
          (are.replayed.queues e.queue))

-- at the end
pub all_followed : (tables : RuleTables) (key : ℕ) (r : Replayed) (is_legal : Bool)
    (old now : TallyMap) (entries : List Entry) →
    AreFollowed tables key r is_legal old now entries [] → AreLegal entries →
    Grows old now (flat_map came (moves entries)) (flat_map (asks tables key) (moves entries))
all_followed tables key r is_legal old now entries are legal =
    are.grown (are.legal (subst AreLegal (sym (append-nil entries)) legal))
