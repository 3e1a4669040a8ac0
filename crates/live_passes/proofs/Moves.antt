-- Packets that move on from trail to trail: what comes of them are later arrivals.
use Rattle.std.proofs.Common.{◌++◌, ◌+◌, ◌∙◌, ◌∷◌, ◌≡◌, ◌≤◌, ◌⊎◌, Bool, List, None, Option}
use Rattle.std.proofs.Common.{Some, [], ap, append-nil, append_assoc, arith, false, inl, inr, refl}
use Rattle.std.proofs.Common.{subst, suc, sym, true, zero, ℕ}
use Rattle.std.proofs.lemmas.Bool.{cases_Bool, eq-eqb, eqb-true}
use Rattle.std.proofs.lemmas.List.Sums.{sum_by-cons}
use Rattle.std.specs.Prelude.{◌==◌, ◌||◌, count_by, nat_le}
use Rattle.packet_entry.specs.Numbers.{last_visit}
use Rattle.packet_entry.specs.declared.packet.Card.{Card}
use Rattle.hook_chain.specs.Route.{onward_of}
use Rattle.hook_chain.specs.declared.chain.Decision.{Decision}
use Rattle.hook_chain.specs.declared.chain.Next.{Next}
use Rattle.hook_chain.specs.declared.chain.Next.TheVariants.{Released, To}
use Rattle.queue_core.specs.State.{Bound}
use Rattle.queue_core.specs.Step.{Stepped, Way, step}
use Rattle.queue_core.specs.declared.event.Event.TheVariants.{Arrive}
use Rattle.histories.specs.Happenings.{arrive}
use Rattle.histories.specs.States.{entry_of, state_of, step_of}
use Rattle.histories.specs.declared.entry.Entry.{Entry}
use Rattle.histories.specs.Places.{place_for}
use Rattle.packet_moves.specs.HandedOn.{AreInTime, LeavesAlone, is_out_of_time}
use Rattle.packet_moves.specs.Moving.{arrival_to, route_after}
use Rattle.packet_moves.specs.declared.fed.Fed.{Fed}
use Rattle.packet_moves.specs.declared.setting.Setting.{Setting}
use Rattle.live_runs.specs.Calls.{IsHandedOn, IsLater}
use Rattle.live_runs.specs.Seen.{Grows, Ours, OursAre, Seen, Theirs, all_ours, all_theirs}
use Rattle.live_passes.proofs.Turns.{AreInPlace, TurnLaws, TurnedAt, placed_at, turned_at}
use Rattle.live_passes.specs.Views.{shares_of}
use Rattle.place_rows.specs.Rows.{TurnsOne}
use Rattle.place_turns.specs.Messages.{CarriesAll}
use Rattle.place_turns.specs.Moving.{Carries, Settles}
use Rattle.place_turns.specs.Trails.{StepsAt, Trail}
use Rattle.locked_place.specs.Turns as lock

-- what leaves as a packet arrives
abbrev pub LeaveAlone : Type 0
LeaveAlone = (q : Option Bound) (card : Card) (bypass room : Bool) →
    LeavesAlone card (step q (Arrive card bypass room))

pub leaves : (card : Card) (s : Stepped) → LeavesAlone card s →
    (s.left ≡ []) ⊎ ((way : Way) × (s.left ≡ (card, way) ∷ []))
leaves card s (inl none) = inl none
leaves card s (inr one) = inr (one.0, one.1)

-- a trail goes on: what is new and the pass's own is such, and its places stay right
pub record Moves (Q : Entry → Type 0) (t u : Trail) : Type 0 where
  pub grows : (k : ℕ) → Grows Q (shares_of t.known k) (shares_of u.known k)
  pub placed : AreInPlace u.known

same_shares : (Q : Entry → Type 0) (t u : Trail) → u.known ≡ t.known → AreInPlace t.known →
    Moves Q t u
same_shares Q t u same placed = record {
  grows = λ k. record {
    more = [];
    is = ap (λ known. shares_of known k) same ∙ sym (append-nil (shares_of t.known k));
    ours = tt;
  };
  placed = subst AreInPlace (sym same) placed;
}

ours_append : (Q : Entry → Type 0) (xs ys : List Seen) → OursAre Q xs → OursAre Q ys →
    OursAre Q (xs ++ ys)
ours_append Q [] ys one two = two
ours_append Q (Ours e ∷ xs) ys one two = (one.0, ours_append Q xs ys one.1 two)
ours_append Q (Theirs e ∷ xs) ys one two = ours_append Q xs ys one two

pub grows_on : (Q : Entry → Type 0) (xs ys zs : List Seen) → Grows Q xs ys → Grows Q ys zs →
    Grows Q xs zs
grows_on Q xs ys zs one two = record {
  more = one.more ++ two.more;
  is = two.is ∙ ap (λ us. us ++ two.more) one.is ∙ append_assoc xs one.more two.more;
  ours = ours_append Q one.more two.more one.ours two.ours;
}

pub moves_on : (Q : Entry → Type 0) (t u v : Trail) → Moves Q t u → Moves Q u v → Moves Q t v
moves_on Q t u v one two = record {
  grows = λ k. grows_on Q (shares_of t.known k) (shares_of u.known k) (shares_of v.known k)
      (one.grows k) (two.grows k);
  placed = two.placed;
}

theirs_then : (Q : Entry → Type 0) (es mine : List Entry) → OursAre Q (all_ours mine) →
    OursAre Q (all_theirs es ++ all_ours mine)
theirs_then Q [] mine are = are
theirs_then Q (e ∷ es) mine are = theirs_then Q es mine are

-- a turn at one place
pub turn_moves : TurnLaws → (Q : Entry → Type 0) (place : ℕ) (t u : Trail)
    (found mine then_ : List Entry) → StepsAt place t u found then_ → then_ ≡ found ++ mine →
    OursAre Q (all_ours mine) → AreInPlace t.known → Moves Q t u
turn_moves laws Q place t u found mine then_ s whole are placed = record {
  grows = λ k. by k (cases_Bool (k == place));
  placed = placed_at laws place t.known u.known one.before one.after one.had one.has placed found
      mine turns;
}
  where
    one : TurnsOne place t.known u.known (λ v w. lock.IsTurn v found then_ w)
    one = s.turn.one

    turns : lock.IsTurn one.before found (found ++ mine) one.after
    turns = subst (λ es. lock.IsTurn one.before found es one.after) whole one.turns

    at : TurnedAt place t.known u.known found mine
    at = turned_at laws place t.known u.known one.before one.after one.had one.has placed found
        mine turns

    by : (k : ℕ) → ((k == place) ≡ true) ⊎ ((k == place) ≡ false) →
        Grows Q (shares_of t.known k) (shares_of u.known k)
    by k (inl same) = subst (λ j. Grows Q (shares_of t.known j) (shares_of u.known j))
        (sym (eqb-true k place same)) (record {
          more = all_theirs at.others ++ all_ours mine;
          is = at.turn.is ∙ append_assoc (shares_of t.known place) (all_theirs at.others)
              (all_ours mine);
          ours = theirs_then Q at.others mine are;
        })
    by k (inr other) = record {
      more = [];
      is = at.elsewhere k (λ same. no_way (eq-eqb k place same))
          ∙ sym (append-nil (shares_of t.known k));
      ours = tt;
    }
      where
        no_way : (k == place) ≡ true → ⊥
        no_way wrong = absurd (cc)

module _ (laws : TurnLaws) (alone : LeaveAlone) (places : ℕ) (s : Setting) where
  -- how packets that have been queued before move on, with memory for so many arrivals
  abbrev pub MoveOn : ℕ → Type 0
  MoveOn memory = (t : Trail) (card : Card) (route : Option Next) (u : Trail) (f : Fed) →
      1 ≤ card.visit → AreInPlace t.known → Carries memory places s t card route u f →
      Moves IsLater t u

  abbrev same_after : (t u : Trail) → u ≡ t → AreInPlace t.known → Moves IsLater t u
  same_after t u same placed =
      same_shares IsLater t u (ap (λ (v : Trail). v.known) same) placed

  -- a packet that arrived waits or moves on
  pub settles_move : (memory : ℕ) → MoveOn memory → (t : Trail) (card : Card)
      (left : List (Card × Way)) (u : Trail) (f : Fed) → 1 ≤ card.visit →
      ((left ≡ []) ⊎ ((way : Way) × (left ≡ (card, way) ∷ []))) → AreInPlace t.known →
      Settles (Carries memory places s) s t left u f → Moves IsLater t u
  settles_move memory on t card left u f least (inl none) placed c =
      let is = subst (λ ls. Settles (Carries memory places s) s t ls u f) none c in
      same_after t u is.0 placed
  settles_move memory on t card left u f least (inr one) placed c =
      let is = subst (λ ls. Settles (Carries memory places s) s t ls u f) one.1 c in
      on t card (route_after s (card, one.0)) u f least placed is

  pub carries_move : (memory : ℕ) → MoveOn memory
  carries_move memory t card None u f least placed c = same_after t u c.0 placed
  carries_move memory t card (Some Released) u f least placed c = same_after t u c.0 placed
  carries_move zero t card (Some (To queue bypass table)) u f least placed c =
      let looked = turn_moves laws IsLater (place_for queue places) t c.between c.found [] c.found
      c.looked
      (sym (append-nil c.found)) tt placed in
      moves_on IsLater t c.between u looked
      (same_shares IsLater c.between u (ap (λ (v : Trail). v.known) c.lost) looked.placed)
  carries_move (suc memory) t card (Some (To queue bypass table)) u f least placed c =
      let a = arrival_to queue bypass table card in
      let e = entry_of c.found queue (arrive a c.room) in
      let turned = turn_moves laws IsLater (place_for queue places) t c.between c.found (e ∷ [])
      (c.found ++ e ∷ []) c.turn refl (omega (arith, least), tt) placed in
      moves_on IsLater t c.between u turned
      (settles_move memory
      (λ t card route u f least placed c. carries_move memory t card route u f least placed c)
      c.between a.card (step_of c.found queue (arrive a c.room)).left u f (omega (arith, least))
      (leaves a.card (step_of c.found queue (arrive a c.room))
      (alone (state_of c.found queue) a.card bypass c.room))
      turned.placed c.settles)

-- ---- what requests hand on

count_none : (test : Card × Decision → Bool) (h : Card × Decision) (hs : List (Card × Decision)) →
    count_by test (h ∷ hs) ≡ 0 → (test h ≡ false) × (count_by test hs ≡ 0)
count_none test h hs none = by (test h) refl
  where
    by : (c : Bool) → test h ≡ c → (test h ≡ false) × (count_by test hs ≡ 0)
    by true is =
        let n = count_by test hs in
        let more : count_by test (h ∷ hs) ≡ 1 + n = sum_by-cons _ h hs ∙ rw is refl in
        absurd (omega (arith, none, more))
    by false is =
        let n = count_by test hs in
        let same : count_by test (h ∷ hs) ≡ 0 + n = sum_by-cons _ h hs ∙ rw is refl in
        (is, omega (arith, none, same))

visited : (visit : ℕ) → is_out_of_time visit ≡ false → 1 ≤ visit
visited zero is = absurd (or_last (nat_le last_visit 0) is)
  where
    or_last : (b : Bool) → (b || true) ≡ false → ⊥
    or_last true wrong = absurd (cc)
    or_last false wrong = absurd (cc)
visited (suc visit) is = omega arith

module _ (laws : TurnLaws) (alone : LeaveAlone) (places : ℕ) (s : Setting) where
  all_move : (t : Trail) (hs : List (Card × Decision)) (u : Trail) → AreInTime hs →
      AreInPlace t.known → CarriesAll places s hs t u → Moves IsLater t u
  all_move t [] u in_time placed c = same_shares IsLater t u (ap (λ (v : Trail). v.known) c) placed
  all_move t (h ∷ hs) u in_time placed c =
      let one = count_none (λ (g : Card × Decision). is_out_of_time g.0.visit) h hs in_time in
      let first = carries_move laws alone places s c.memory t h.0 (onward_of s.tables s.key h.0 h.1)
      c.between c.ended (visited h.0.visit one.0) placed c.first in
      moves_on IsLater t c.between u first
      (all_move c.between hs u one.1 first.placed c.rest)

  -- and nothing comes of none
  pub handed_moves : (t : Trail) (hs : List (Card × Decision)) (u : Trail) → AreInTime hs →
      AreInPlace t.known → CarriesAll places s hs t u → Moves (IsHandedOn hs) t u
  handed_moves t [] u in_time placed c =
      same_shares (IsHandedOn []) t u (ap (λ (v : Trail). v.known) c) placed
  handed_moves t (h ∷ hs) u in_time placed c = all_move t (h ∷ hs) u in_time placed c
