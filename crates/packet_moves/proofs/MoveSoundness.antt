-- Each move keeps histories legal and sound.
use Rattle.std.proofs.Common.{◌≡◌, ◌≢◌, ◌≤◌, ◌<◌, ◌⊎◌, ◌+◌, ℕ, zero, suc, List, [], ◌∷◌, ◌++◌}
use Rattle.std.proofs.Common.{Option, Some, None, Bool, true, refl, sym, ap, ◌∙◌, subst, inl}
use Rattle.std.proofs.Common.{inr, arith, append-nil}
use Rattle.std.specs.Prelude.{flat_map}
use Rattle.std.proofs.lemmas.Bool.{eqb-false}
use Rattle.packet_entry.specs.declared.packet.Card.{Card}
use Rattle.packet_entry.specs.Numbers.{last_visit}
use Rattle.hook_chain.specs.declared.chain.Next.{Next}
use Rattle.hook_chain.specs.declared.chain.Next.TheVariants.{Released, To}
use Rattle.queue_core.specs.State.{Bound}
use Rattle.queue_core.specs.declared.offers.Outcome.{Outcome}
use Rattle.queue_core.specs.declared.offers.Outcome.TheVariants as outcome
use Rattle.queue_core.specs.Laws.{way_by}
use Rattle.queue_core.specs.Walk.{IsTimely, left_at_once, walk_arrivals}
use Rattle.queue_core.specs.Step.{Stepped, Way, Gone, Open, Decided, arrive}
use Rattle.histories.specs.declared.entry.Entry.{Entry}
use Rattle.histories.specs.History.{AreLegal}
use Rattle.histories.specs.Moves.{moves, move_after}
use Rattle.histories.specs.Journeys.{Arrival, IsSoundBut, asked_by, asked_by_some, going_on}
use Rattle.histories.specs.Journeys.{asks, came}
use Rattle.histories.specs.States.{entry_of, state_of}
use Rattle.histories.specs.Happenings as happening
use Rattle.packet_moves.specs.declared.setting.Setting.{Setting}
use Rattle.queue_core.specs.Step.{is_decided_early}
use Rattle.packet_moves.specs.World.{World}
use Rattle.packet_moves.specs.Moving.{has_room}
use Rattle.packet_moves.specs.Moving.{arrival_to, arrived, turned_away, room_for, route_after}
use Rattle.packet_moves.specs.Moving.{settled, carry, carry_on, losing}
use Rattle.packet_moves.specs.Soundness.{IsSound}
use Rattle.packet_moves.proofs.LowerLaws.{Laws}

room_early : (s : Setting) (w : World) (q : Option Bound) (card : Card) →
    is_decided_early q card ≡ true → has_room s w q card ≡ true
room_early s w None card early = refl
room_early s w (Some q) card early = rw early refl

-- ---- one entry

-- an entry is appended, whose arrivals were owed
pub enters_so : Laws → (s : Setting) (w : World) (e : Entry) (owed : List Arrival) →
    AreLegal (w.entries ++ e ∷ []) →
    IsSoundBut s.tables s.key (came (move_after w.entries e) ++ owed) w.fed (moves w.entries)
    w.lost →
    IsSoundBut s.tables s.key (asks s.tables s.key (move_after w.entries e) ++ owed) w.fed
    (moves (w.entries ++ e ∷ [])) w.lost
enters_so laws s w e owed legal sound =
    rw (laws.is_move w.entries e)
    (laws.comes s.tables s.key (move_after w.entries e) owed w.fed (moves w.entries) w.lost sound)

pub arrival_keeps : Laws → (s : Setting) (w : World) (a : Arrival) (owed : List Arrival) →
    1 ≤ a.card.visit → a.card.visit ≤ last_visit → IsSound s (a ∷ owed) w →
    IsSound s (flat_map (going_on s.tables s.key) (turned_away s w a) ++ owed) (arrived s w a)
arrival_keeps laws s w a owed first last is =
    let room = room_for s w a in
    let e = entry_of w.entries a.queue (happening.arrive a room) in
    let legal = laws.goes_on w.entries e is.legal (record {
      reply = refl;
      allowed = (first, last, λ early. room_early s w (state_of w.entries a.queue) a.card early);
    }) in
    record { legal = legal; sound = enters_so laws s w e owed legal is.sound }

-- ---- what leaves at an arrival

-- nothing, or the packet that arrived; it goes on only before the last visit
pub record LeavesOne (card : Card) (s : Stepped) : Type 0 where
  pub one : (s.left ≡ []) ⊎ ((way : Way) × (s.left ≡ (card, way) ∷ [])
      × ((way ≡ Gone) ⊎ ((way ≡ Open) × (card.visit ≢ last_visit))))

one_leaves : (card : Card) (q : Option Bound) (o : Outcome) → IsTimely card (way_by o) →
    LeavesOne card (left_at_once q o card)
one_leaves card q outcome.Bypassed early =
    record { one = inr (Open, refl, inr (refl, eqb-false card.visit last_visit early)) }
one_leaves card q outcome.OverflowOpen early =
    record { one = inr (Open, refl, inr (refl, eqb-false card.visit last_visit early)) }
one_leaves card q (outcome.UserFullOpen id) early =
    record { one = inr (Open, refl, inr (refl, eqb-false card.visit last_visit early)) }
one_leaves card q other timely = record { one = inr (Gone, refl, inl refl) }

pub leaves_one : (q : Option Bound) (card : Card) (bypass room : Bool) →
    LeavesOne card (arrive q card bypass room)
leaves_one = walk_arrivals (λ card room s. LeavesOne card s) (record {
  leaves = λ q card room o stays timely. one_leaves card q o timely;
  joins = λ b card room early had. record { one = inl refl };
})

-- ---- to rest or end

-- what goes on asks for what its route says
pub asked_after : (s : Setting) (card : Card) (way : Way) → going_on s.tables s.key (card, way)
    ≡ asked_by_some (route_after s (card, way)) card (card.visit + 1)
asked_after s card Gone = refl
asked_after s card Open = refl
asked_after s card (Decided decision) = refl

-- a packet that goes on is owed the arrival that its route asks for
abbrev pub Keeps : Setting → ℕ → Type 0
Keeps s memory = (w : World) (card : Card) (route : Next) (owed : List Arrival) →
    card.visit < last_visit → 1 ≤ card.visit + memory →
    IsSound s (asked_by route card (card.visit + 1) ++ owed) w →
    IsSound s owed (carry memory s w card route).world

pub keeps_on : (s : Setting) (memory : ℕ) → Keeps s memory → (w : World) (card : Card)
    (route : Option Next) (owed : List Arrival) → (route ≡ None) ⊎ (card.visit < last_visit) →
    1 ≤ card.visit + memory →
    IsSound s (asked_by_some route card (card.visit + 1) ++ owed) w →
    IsSound s owed (carry_on memory s w card route).world
keeps_on s memory keeps w card None owed early later is = is
keeps_on s memory keeps w card (Some route) owed (inl none) later is = absurd (cc)
keeps_on s memory keeps w card (Some route) owed (inr early) later is =
    keeps w card route owed early later is

loses_so : Laws → (s : Setting) (w : World) (card : Card) (queue : ℕ) (bypass : Bool) (table : ℕ)
    (owed : List Arrival) → 1 ≤ card.visit →
    IsSound s (arrival_to queue bypass table card ∷ owed) w → IsSound s owed (losing w card)
loses_so laws s w card queue bypass table owed later is =
    record {
      legal = is.legal;
      sound = laws.loses s.tables s.key (arrival_to queue bypass table card) owed w.fed
          (moves w.entries) w.lost (λ one. absurd (omega (arith, one))) is.sound;
    }

settles : (s : Setting) (memory : ℕ) → Keeps s memory → (v : World) (card : Card)
    (left : List (Card × Way)) (owed : List Arrival) → 1 ≤ card.visit →
    card.visit ≤ last_visit →
    (left ≡ []) ⊎ ((way : Way) × (left ≡ (card, way) ∷ [])
    × ((way ≡ Gone) ⊎ ((way ≡ Open) × (card.visit ≢ last_visit)))) →
    IsSound s (flat_map (going_on s.tables s.key) left ++ owed) v →
    IsSound s owed (settled (carry memory s) s v left).world
settles s memory keeps v card left owed first last (inl none) is =
    let there : IsSound s (flat_map (going_on s.tables s.key) [] ++ owed) v =
    subst (λ (l : List (Card × Way)). IsSound s (flat_map (going_on s.tables s.key) l ++ owed) v)
    none is in
    subst (λ (l : List (Card × Way)). IsSound s owed (settled (carry memory s) s v l).world)
    (sym none) there
settles s memory keeps v card left owed first last (inr (way, one, how)) is =
    subst (λ (l : List (Card × Way)). IsSound s owed (settled (carry memory s) s v l).world)
    (sym one) (keeps_on s memory keeps v card (route_after s (card, way)) owed (early way how)
    (omega arith) owes)
  where
    early : (way : Way) → (way ≡ Gone) ⊎ ((way ≡ Open) × (card.visit ≢ last_visit)) →
        (route_after s (card, way) ≡ None) ⊎ (card.visit < last_visit)
    early way (inl gone) = inl (ap (λ (y : Way). route_after s (card, y)) gone)
    early way (inr (open_, apart)) = inr (omega (arith, apart))

    there : IsSound s (flat_map (going_on s.tables s.key) ((card, way) ∷ []) ++ owed) v
    there =
        subst (λ (l : List (Card × Way)).
        IsSound s (flat_map (going_on s.tables s.key) l ++ owed) v)
        one is

    owes : IsSound s (asked_by_some (route_after s (card, way)) card (card.visit + 1) ++ owed) v
    owes =
        subst (λ (l : List Arrival). IsSound s (l ++ owed) v)
        (append-nil (going_on s.tables s.key (card, way)) ∙ asked_after s card way) there

pub carry_keeps : Laws → (s : Setting) (memory : ℕ) → Keeps s memory
carry_keeps laws s zero w card Released owed early later is = is
carry_keeps laws s zero w card (To queue bypass table) owed early later is =
    loses_so laws s w card queue bypass table owed (omega arith) is
carry_keeps laws s (suc memory) w card Released owed early later is = is
carry_keeps laws s (suc memory) w card (To queue bypass table) owed early later is =
    let a = arrival_to queue bypass table card in
    settles s memory (carry_keeps laws s memory) (arrived s w a) a.card (turned_away s w a) owed
    (omega arith) (omega arith)
    (leaves_one (state_of w.entries queue) a.card bypass (room_for s w a)).one
    (arrival_keeps laws s w a owed (omega arith) (omega arith) is)
