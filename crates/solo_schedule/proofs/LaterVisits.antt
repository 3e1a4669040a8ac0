-- Packets that move on from one queue to the next: from the second arrival on each is of a later
-- visit.
use Rattle.std.proofs.Common.{◌≡◌, ◌≤◌, ℕ, zero, suc, List, [], ◌∷◌, Option}
use Rattle.std.proofs.Common.{Some, None, Bool, refl, sym, subst, inl, inr, arith}
use Rattle.std.specs.Prelude.{option_map}
use Rattle.packet_entry.specs.declared.packet.Card.{Card}
use Rattle.ip_fields.specs.declared.frame.LinkCut.{LinkCut}
use Rattle.ip_fields.specs.Frame.{cut_of}
use Rattle.pcap_io.specs.declared.capture.Capture.{Capture}
use Rattle.pcap_io.specs.declared.capture.Frame.{Frame}
use Rattle.hook_chain.specs.declared.chain.Decision.{Decision}
use Rattle.hook_chain.specs.declared.chain.Next.{Next}
use Rattle.hook_chain.specs.declared.chain.Next.TheVariants.{Released, To}
use Rattle.hook_chain.specs.Route.{onward_of}
use Rattle.queue_core.specs.State.{Bound}
use Rattle.queue_core.specs.Step.{Way, step}
use Rattle.queue_core.specs.declared.event.Event.TheVariants.{Arrive}
use Rattle.histories.specs.declared.entry.Entry.{Entry}
use Rattle.histories.specs.Happenings.{arrive}
use Rattle.histories.specs.Journeys.{Arrival}
use Rattle.packet_moves.specs.declared.setting.Setting.{Setting}
use Rattle.packet_moves.specs.World.{World}
use Rattle.packet_moves.specs.HandedOn.{LeavesAlone}
use Rattle.packet_moves.specs.Moving.{arrival_to, arrived, turned_away, settled, carry, carry_on}
use Rattle.packet_moves.specs.Moving.{goes_on, route_after, Carried, left_at_once, room_for}
use Rattle.histories.specs.States.{entry_of, state_of}
use Rattle.total_order.specs.Steps.{HasCome, HasLeft}
use Rattle.solo_schedule.specs.Numbers.{enough_arrivals}
use Rattle.run_parts.specs.Entering.{card_of, card_at}
use Rattle.solo_schedule.specs.Sending.{all_moved}
use Rattle.solo_schedule.proofs.OnwardPackets.{Known, Of}
use Rattle.solo_schedule.proofs.Departures.{HaveLeft, come_next, have_left_on, left_by}

-- in an arrival's step nothing leaves but the packet that arrives
abbrev pub LeaveAlone : Type 0
LeaveAlone = (q : Option Bound) (card : Card) (bypass room : Bool) →
    LeavesAlone card (step q (Arrive card bypass room))

-- a packet as it enters, of the frame with this number
abbrev pub IsFresh : ℕ → Option Card → Type 0
IsFresh number None = Unit {0}
IsFresh number (Some card) = (card.visit ≡ 0) × (card.number ≡ number)

pub is_fresh : (c : Capture) (number : ℕ) (g : Frame) → IsFresh number (card_of c number g)
is_fresh c number g = by (cut_of c.link g.bytes)
  where
    by : (o : Option LinkCut) → IsFresh number (option_map
        (card_at c number g) o)
    by None = tt
    by (Some cut) = (refl, refl)

-- these packets may go on
abbrev pub MayGo : (ℕ → Type 0) → List (Card × Decision) → Type 0
MayGo may [] = Unit {0}
MayGo may (h ∷ hs) = may h.0.visit × MayGo may hs

-- what leaves is of this visit
abbrev AreOf : ℕ → List (Card × Way) → Type 0
AreOf visit [] = Unit {0}
AreOf visit (l ∷ ls) = (l.0.visit ≡ visit) × AreOf visit ls

of_one : (card : Card) (left : List (Card × Way)) (way : Way) → left ≡ (card, way) ∷ [] →
    AreOf card.visit left
of_one card left way is = subst (AreOf card.visit) (sym is) (refl, tt)

of_some : (q : Option Bound) (card : Card) (bypass room : Bool) →
    LeavesAlone card (step q (Arrive card bypass room)) →
    AreOf card.visit (step q (Arrive card bypass room)).left
of_some q card bypass room (inl none) = subst (AreOf card.visit) (sym none) tt
of_some q card bypass room (inr one) =
    of_one card (step q (Arrive card bypass room)).left one.0 one.1

alone : LeaveAlone → (w : World) (a : Arrival) (room : Bool) →
    AreOf a.card.visit (left_at_once w a room)
alone leaves w a room =
    of_some (state_of w.entries a.queue) a.card a.bypass room
    (leaves (state_of w.entries a.queue) a.card a.bypass room)

module _ (leaves : LeaveAlone) (s : Setting) (Q : Known) (May : List Entry → Arrival → Type 0)
    (later : (es : List Entry) (a : Arrival) → 2 ≤ a.card.visit →
    HasCome a.card.number a.card.visit es → May es a)
    (move : (w : World) (a : Arrival) → May w.entries a → Of Q w → Of Q (arrived s w a)) where
  goes_later : (on : Next → Carried) → ((route : Next) → Of Q (on route).world) → (w : World) →
      (route : Option Next) → Of Q w → Of Q (goes_on on w route).world
  goes_later on keeps w None q = q
  goes_later on keeps w (Some route) q = keeps route

  settled_later : (on : World → Card → Next → Carried) →
      ((w : World) (card : Card) (route : Next) → 1 ≤ card.visit →
      HasLeft card.number card.visit w.entries → Of Q w → Of Q (on w card route).world) →
      (w : World) (visit : ℕ) (left : List (Card × Way)) → 1 ≤ visit → AreOf visit left →
      HaveLeft w.entries left → Of Q w → Of Q (settled on s w left).world
  settled_later on keeps w visit [] least are have q = q
  settled_later on keeps w visit (l ∷ ls) least are have q =
      goes_later (on w l.0) (λ route. keeps w l.0 route (omega (arith, least, are.0)) have.0 q) w
      (route_after s l) q

  -- after an arrival of this visit
  arrived_later : (on : World → Card → Next → Carried) →
      ((w : World) (card : Card) (route : Next) → 1 ≤ card.visit →
      HasLeft card.number card.visit w.entries → Of Q w → Of Q (on w card route).world) →
      (w : World) (a : Arrival) → 1 ≤ a.card.visit → Of Q (arrived s w a) →
      Of Q (settled on s (arrived s w a) (turned_away s w a)).world
  arrived_later on keeps w a least q =
      settled_later on keeps (arrived s w a) a.card.visit (turned_away s w a) least
      (alone leaves w a (room_for s w a))
      (left_by w.entries a.queue (arrive a (room_for s w a))) q

  pub carry_later : (memory : ℕ) (w : World) (card : Card) (route : Next) → 1 ≤ card.visit →
      HasLeft card.number card.visit w.entries → Of Q w → Of Q (carry memory s w card route).world
  carry_later zero w card Released least left q = q
  carry_later zero w card (To queue bypass table) least left q = q
  carry_later (suc memory) w card Released least left q = q
  carry_later (suc memory) w card (To queue bypass table) least left q =
      let a = arrival_to queue bypass table card in
      arrived_later (carry memory s) (carry_later memory) w a (omega arith)
      (move w a (later w.entries a (omega (arith, least))
      (come_next card.number card.visit w.entries left)) q)

  -- a packet that enters: what stands once its first arrival has come
  pub carry_first : (memory : ℕ) (w : World) (card : Card) (route : Next) →
      ((queue : ℕ) (bypass : Bool) (table : ℕ) →
      Of Q (arrived s w (arrival_to queue bypass table card))) →
      Of Q w → Of Q (carry memory s w card route).world
  carry_first zero w card Released entered q = q
  carry_first zero w card (To queue bypass table) entered q = q
  carry_first (suc memory) w card Released entered q = q
  carry_first (suc memory) w card (To queue bypass table) entered q =
      let a = arrival_to queue bypass table card in
      arrived_later (carry memory s) (carry_later memory) w a (omega arith)
      (entered queue bypass table)

-- packets that a request let go on: each has left, also once others have moved
module _ (leaves : LeaveAlone) (s : Setting) (Q : Known) (May : List Entry → Arrival → Type 0)
    (later : (es : List Entry) (a : Arrival) → 2 ≤ a.card.visit →
    HasCome a.card.number a.card.visit es → May es a)
    (move : (w : World) (a : Arrival) → May w.entries a → Of Q w → Of Q (arrived s w a)) where
  abbrev and_left : List (Card × Decision) → Known
  and_left hs es ports = Q es ports × HaveLeft es hs

  move_both : (hs : List (Card × Decision)) (w : World) (a : Arrival) → May w.entries a →
      Of (and_left hs) w → Of (and_left hs) (arrived s w a)
  move_both hs w a may q = (
    move w a may q.0,
    have_left_on w.entries (entry_of w.entries a.queue (arrive a (room_for s w a)) ∷ []) hs q.1,
  )

  pub moved_later : (hs : List (Card × Decision)) (w : World) → MayGo (λ v. 1 ≤ v) hs →
      HaveLeft w.entries hs → Of Q w → Of Q (all_moved s hs w)
  moved_later [] w may left q = q
  moved_later (h ∷ hs) w may left q =
      let on = onward_of s.tables s.key h.0 h.1 in
      let both = goes_later leaves s (and_left hs) May later (move_both hs)
      (carry enough_arrivals s w h.0)
      (λ route. carry_later leaves s (and_left hs) May later (move_both hs) enough_arrivals w h.0
      route may.0 left.0 (q, left.1)) w on (q, left.1) in
      moved_later hs (carry_on enough_arrivals s w h.0 on).world may.1 both.1 both.0
