-- Packets that move on leave their pass balanced.
use Rattle.std.proofs.Common.{◌≡◌, ◌≢◌, ◌<◌, ◌≤◌, ◌+◌, ◌⊎◌, ℕ, zero, suc, List, [], ◌∷◌, ◌++◌}
use Rattle.std.proofs.Common.{refl, sym, ap, ◌∙◌, subst, arith, inl, inr, append-nil, Option, Some}
use Rattle.std.proofs.Common.{None, Bool}
use Rattle.std.specs.Prelude.{flat_map}
use Rattle.packet_entry.specs.declared.packet.Card.{Card}
use Rattle.packet_entry.specs.Numbers.{last_visit}
use Rattle.hook_chain.specs.declared.chain.Next.{Next}
use Rattle.hook_chain.specs.declared.chain.Next.TheVariants.{Released, To}
use Rattle.hook_chain.specs.Route.{next}
use Rattle.queue_core.specs.Step.{Way, Gone, Open, Decided}
use Rattle.histories.specs.declared.entry.Entry.{Entry}
use Rattle.histories.specs.declared.histories.Lost.{Lost}
use Rattle.histories.specs.Happenings.{arrive}
use Rattle.histories.specs.Journeys.{Arrival, asked_by, asked_by_some, going_on}
use Rattle.histories.specs.States.{entry_of, state_of, step_of}
use Rattle.histories.specs.Places.{place_for}
use Rattle.packet_moves.specs.declared.fed.Fed.{Fed}
use Rattle.packet_moves.specs.declared.setting.Setting.{Setting}
use Rattle.packet_moves.specs.Moving.{arrival_to, route_after}
use Rattle.locked_place.specs.Turns.{LooksOn}
use Rattle.place_rows.specs.Rows.{Known, TurnsOne, IsTurnAt}
use Rattle.place_rows.specs.Shares.{IsBalancedBut}
use Rattle.place_turns.specs.Trails.{Trail, StepsAt, MayLook}
use Rattle.place_turns.specs.Moving.{Carries, Settles, IsFed}
use Rattle.place_turns.proofs.LowerLaws.{Laws}

-- a trail is balanced, but for what is owed
abbrev pub IsEven : Setting → List Card → List Arrival → Trail → Type 0
IsEven s entered owed t = IsBalancedBut s owed entered t.known t.lost

lost_the_same : (s : Setting) (entered : List Card) (owed : List Arrival) (known : List Known)
    (was now : List Lost) → now ≡ was → IsBalancedBut s owed entered known was →
    IsBalancedBut s owed entered known now
lost_the_same s entered owed known was now same is =
    subst (λ (lost : List Lost). IsBalancedBut s owed entered known lost) (sym same) is

-- ---- one step

pub arrived_keeps : Laws → (s : Setting) (entered : List Card) (a : Arrival) (room : Bool)
    (owed : List Arrival) (t u : Trail) (place : ℕ) (found : List Entry) →
    IsEven s entered (a ∷ owed) t →
    StepsAt place t u found (found ++ entry_of found a.queue (arrive a room) ∷ []) →
    IsEven s entered
    (flat_map (going_on s.tables s.key) (step_of found a.queue (arrive a room)).left ++ owed) u
arrived_keeps laws s entered a room owed t u place found is turn =
    lost_the_same s entered _ u.known t.lost u.lost turn.same
    (laws.appends s owed entered t.known u.known t.lost place found
    (entry_of found a.queue (arrive a room)) is turn.turn)

pub looked_keeps : Laws → (s : Setting) (entered : List Card) (owed : List Arrival) (t u : Trail)
    (place : ℕ) (found : List Entry) → IsEven s entered owed t →
    StepsAt place t u found found → IsEven s entered owed u
looked_keeps laws s entered owed t u place found is turn =
    lost_the_same s entered owed u.known t.lost u.lost turn.same
    (laws.looks s owed entered t.known u.known t.lost place found is turn.turn)

asked_after : (s : Setting) (card : Card) (way : Way) → going_on s.tables s.key (card, way)
    ≡ asked_by_some (route_after s (card, way)) card (card.visit + 1)
asked_after s card Gone = refl
asked_after s card Open = refl
asked_after s card (Decided decision) = refl

-- ---- to rest or end

module _ (laws : Laws) (places : ℕ) (s : Setting) (entered : List Card) where
  abbrev pub Keeps : ℕ → Type 0
  Keeps memory = (t u : Trail) (card : Card) (route : Option Next) (f : Fed)
      (owed : List Arrival) → (route ≡ None) ⊎ (card.visit < last_visit) →
      1 ≤ card.visit + memory →
      IsEven s entered (asked_by_some route card (card.visit + 1) ++ owed) t →
      Carries memory places s t card route u f → IsEven s entered owed u

  settles : (memory : ℕ) → Keeps memory → (t u : Trail) (card : Card) (left : List (Card × Way))
      (f : Fed) (owed : List Arrival) → 1 ≤ card.visit → card.visit ≤ last_visit →
      (left ≡ []) ⊎ ((way : Way) × (left ≡ (card, way) ∷ [])
      × ((way ≡ Gone) ⊎ ((way ≡ Open) × (card.visit ≢ last_visit)))) →
      IsEven s entered (flat_map (going_on s.tables s.key) left ++ owed) t →
      Settles (Carries memory places s) s t left u f → IsEven s entered owed u
  settles memory keeps t u card left f owed first last (inl none) is goes =
      let there : IsEven s entered owed t =
      subst (λ (l : List (Card × Way)).
      IsEven s entered (flat_map (going_on s.tables s.key) l ++ owed) t) none is in
      let ended = subst (λ (l : List (Card × Way)). Settles (Carries memory places s) s t l u f)
      none goes in
      subst (λ (v : Trail). IsEven s entered owed v) (sym ended.0) there
  settles memory keeps t u card left f owed first last (inr (way, one, how)) is goes =
      keeps t u card (route_after s (card, way)) f owed (early way how) (omega arith) owes
      (subst (λ (l : List (Card × Way)). Settles (Carries memory places s) s t l u f) one goes)
    where
      early : (way : Way) → (way ≡ Gone) ⊎ ((way ≡ Open) × (card.visit ≢ last_visit)) →
          (route_after s (card, way) ≡ None) ⊎ (card.visit < last_visit)
      early way (inl gone) = inl (ap (λ (y : Way). route_after s (card, y)) gone)
      early way (inr (open_, apart)) = inr (omega (arith, apart))

      there : IsEven s entered
          (flat_map (going_on s.tables s.key) ((card, way) ∷ []) ++ owed) t
      there =
          subst (λ (l : List (Card × Way)).
          IsEven s entered (flat_map (going_on s.tables s.key) l ++ owed) t) one is

      owes : IsEven s entered
          (asked_by_some (route_after s (card, way)) card (card.visit + 1) ++ owed) t
      owes =
          subst (λ (l : List Arrival). IsEven s entered (l ++ owed) t)
          (append-nil (going_on s.tables s.key (card, way)) ∙ asked_after s card way) there

  pub carry_keeps : (memory : ℕ) → Keeps memory
  carry_keeps memory t u card None f owed early later is goes =
      subst (λ (v : Trail). IsEven s entered owed v) (sym goes.0) is
  carry_keeps memory t u card (Some Released) f owed early later is goes =
      subst (λ (v : Trail). IsEven s entered owed v) (sym goes.0) is
  carry_keeps zero t u card (Some (To queue bypass table)) f owed early later is goes =
      let a = arrival_to queue bypass table card in
      subst (λ (v : Trail). IsEven s entered owed v) (sym goes.lost)
      (laws.loses s a owed entered goes.between.known goes.between.lost
      (λ one. absurd (omega (arith, one)))
      (looked_keeps laws s entered (a ∷ owed) t goes.between (place_for a.queue places) goes.found
      is
      goes.looked))
  carry_keeps (suc memory) t u card (Some (To queue bypass table)) f owed (inl none) later is
      goes = absurd (cc)
  carry_keeps (suc memory) t u card (Some (To queue bypass table)) f owed (inr early) later is
      goes =
      let a = arrival_to queue bypass table card in
      settles memory (carry_keeps memory) goes.between u a.card
      (step_of goes.found queue (arrive a goes.room)).left f owed (omega arith) (omega arith)
      (laws.arrival (state_of goes.found queue) a.card bypass goes.room)
      (arrived_keeps laws s entered a goes.room owed t goes.between (place_for a.queue places)
      goes.found
      is goes.turn)
      goes.settles

-- ---- a packet that is fed

pub fed_keeps : Laws → (places : ℕ) (s : Setting) (entered : List Card) (card : Card)
    (t u : Trail) (f : Fed) → card.visit ≡ 0 → IsFed places s t card u f →
    IsEven s entered [] t → IsEven s (entered ++ card ∷ []) [] u
fed_keeps laws places s entered card t u f new fed is =
    carry_keeps laws places s (entered ++ card ∷ []) (suc fed.memory) t u card
    (Some (next s.tables s.key card 1)) f [] (inr (omega (arith, new))) (omega arith)
    (subst (λ n. IsEven s (entered ++ card ∷ [])
    (asked_by (next s.tables s.key card 1) card (n + 1) ++ []) t) (sym new)
    (laws.enters s card [] entered t.known t.lost is))
    fed.moved

-- ---- looks

pub look_at : (place : ℕ) (olds news : List Known) (one : TurnsOne place olds news LooksOn) →
    IsTurnAt place olds news one.turns.found one.turns.found
look_at place olds news one = record {
  one = record {
    before = one.before;
    after = one.after;
    had = one.had;
    has = one.has;
    turns = one.turns.turn;
  };
  legal = one.turns.legal;
}

pub may_look_keeps : Laws → (s : Setting) (entered : List Card) (owed : List Arrival)
    (t u : Trail) → MayLook t u → IsEven s entered owed t → IsEven s entered owed u
may_look_keeps laws s entered owed t u (inl same) is =
    subst (λ (v : Trail). IsEven s entered owed v) (sym same) is
may_look_keeps laws s entered owed t u (inr (same, (place, one))) is =
    looked_keeps laws s entered owed t u place one.turns.found is
    (record { turn = look_at place t.known u.known one; same = same })
