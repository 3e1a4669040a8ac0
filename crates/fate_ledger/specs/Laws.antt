-- What a frame's line says of the histories, in the words of packets and entries.
use Rattle.std.specs.Prelude.{◌≡◌, ◌≢◌, ◌≤◌, ◌<◌, ◌⊎◌, ℕ, ◌+◌, List, [], ◌∷◌, ◌++◌, length}
use Rattle.std.specs.Prelude.{Option, Some, None, Bool, true, false, All, Contains, take, drop}
use Rattle.std.specs.Prelude.{◌==◌, ◌&&◌, count_by}
use Rattle.ip_fields.specs.declared.frame.LinkCut.{LinkCut}
use Rattle.ip_fields.specs.Frame.{cut_of}
use Rattle.packet_entry.specs.declared.packet.Card.{Card}
use Rattle.pcap_io.specs.declared.capture.Frame.{Frame}
use Rattle.queue_core.specs.declared.event.Event.{Event}
use Rattle.queue_core.specs.declared.event.Event.TheVariants.{Arrive, Ask, PortClosed, DeviceDown}
use Rattle.queue_core.specs.declared.event.Reply.{Reply}
use Rattle.queue_core.specs.declared.event.Reply.TheVariants.{Arrived}
use Rattle.queue_core.specs.declared.offers.Outcome.{Outcome}
use Rattle.queue_core.specs.Laws.{times, waiting_in}
use Rattle.queue_core.specs.Step.{Way, Gone, Open, Decided, Stepped, step}
use Rattle.histories.specs.declared.entry.Entry.{Entry}
use Rattle.histories.specs.declared.histories.Histories.{Histories}
use Rattle.histories.specs.History.{history, replay}
use Rattle.histories.specs.Stays.{arrivals}
use Rattle.histories.specs.Endings.{is_over}
use Rattle.hook_chain.specs.Rules.{RuleTables}
use Rattle.hook_chain.specs.declared.chain.Next.{Next}
use Rattle.hook_chain.specs.declared.chain.Next.TheVariants.{Released}
use Rattle.hook_chain.specs.declared.chain.Decision.TheVariants.{Accept}
use Rattle.hook_chain.specs.Route.{onward_of}
use Rattle.fate_ledger.specs.Ledger.{is_release}
use Rattle.fate_ledger.specs.declared.happening.Happening.{Happening}
use Rattle.fate_ledger.specs.declared.fate.Fate.{Fate}
use Rattle.fate_ledger.specs.declared.fate.Fate.TheVariants as fate
use Rattle.fate_ledger.specs.declared.fate.FateLine.{FateLine}
use Rattle.fate_ledger.specs.Fates.{fate_at_arrival, fate_by_request, happenings}
use Rattle.fate_ledger.specs.Fates.{happenings_after, fate_line, is_lost}

-- ---- an event of a packet

-- an entry's step, from the state of its queue before it
abbrev pub step_after : List Entry → Entry → Stepped
step_after before e = step (replay (history e.queue before)) e.event

-- the packet left in this step, by this way, with the mark, the priority and the bytes that it has
-- after it
abbrev pub Leaves : Stepped → Card → Way → Type 0
Leaves s card way = Contains s.left (card, way)

-- What an event says: an arrival tells of the packet that arrives, with the fate of its outcome.
-- Every other event tells of the packets that leave in its step: at a verdict or a batch with the
-- fate of their way, else with the one fate of what happened (unbound, port closed, device down).
abbrev pub Tells : Event → Reply → Stepped → Card → Fate → Type 0
Tells (Arrive arriving bypass room) reply s card f =
    (card ≡ arriving) × ((outcome : Outcome) × (reply ≡ Arrived outcome)
    × (f ≡ fate_at_arrival outcome))
Tells (Ask port call request) reply s card f =
    (way : Way) × Leaves s card way × (f ≡ fate_by_request request way)
Tells (PortClosed port) reply s card f =
    (way : Way) × Leaves s card way × (f ≡ fate.PortClosed)
Tells (DeviceDown device) reply s card f =
    (way : Way) × Leaves s card way × (f ≡ fate.DeviceDown)

-- the event is this entry's, which stands after those: its queue, and its place in that queue's
-- history, counted from 1
pub record IsEventOf (before : List Entry) (e : Entry) (h : Happening) : Type 0 where
  pub queue : h.queue ≡ e.queue
  pub at : h.at ≡ length (history e.queue before) + 1
  pub tells : Tells e.event e.reply (step_after before e) h.card h.fate

-- ---- the last event

-- the packet with this number has no greater visit than this among these events, or a smaller one
abbrev pub NoGreater : ℕ → ℕ → List Happening → Type 0
NoGreater number visit hs =
    All (λ (h : Happening). h.card.number ≡ number → h.card.visit ≤ visit) hs

abbrev pub AllSmaller : ℕ → ℕ → List Happening → Type 0
AllSmaller number visit hs =
    All (λ (h : Happening). h.card.number ≡ number → h.card.visit < visit) hs

-- The last event of the packet with this number: an entry's, of no smaller visit than those of the
-- entries before it, and of a greater one than those of the entries after it.
pub record IsLastEvent (es : List Entry) (number : ℕ) (h : Happening) : Type 0 where
  pub before : List Entry
  pub entry : Entry
  pub after : List Entry
  pub split : es ≡ before ++ entry ∷ after
  pub event : IsEventOf before entry h
  pub number_is : h.card.number ≡ number
  pub greatest : NoGreater number h.card.visit (happenings before)
  pub latest : AllSmaller number h.card.visit (happenings_after (before ++ entry ∷ []) after)

-- no event is one of the packet with this number
abbrev pub HasNoEvent : List Entry → ℕ → Type 0
HasNoEvent es number = All (λ (h : Happening). h.card.number ≢ number) (happenings es)

-- a frame's line is that of its packet's last event, or that of a frame whose packet has none
abbrev pub IsLineOf : Histories → ℕ → Frame → FateLine → Type 0
IsLineOf h number f l =
    (HasNoEvent h.entries number × (l ≡ fate_line (is_lost h.lost number) number f None))
    ⊎ ((last : Happening) × IsLastEvent h.entries number last
    × (l ≡ fate_line (is_lost h.lost number) number f (Some last)))

-- ---- released frames

-- a released frame is written as it was read: it isn't IP, it was never queued, or its last payload
-- is the packet that it was read with
abbrev pub StaysAsRead : ℕ → Frame → FateLine → Type 0
StaysAsRead link f l =
    (cut_of link f.bytes ≡ None) ⊎ (l.fate ≡ fate.Unhooked)
    ⊎ ((cut : LinkCut) × (cut_of link f.bytes ≡ Some cut)
    × (drop cut.length f.bytes ≡ l.payload))

-- or its packet was replaced, behind this link header
pub record IsReplaced (link : ℕ) (f : Frame) (l : FateLine) (cut : LinkCut) : Type 0 where
  pub header : cut_of link f.bytes ≡ Some cut
  pub queued : l.fate ≢ fate.Unhooked
  pub other : drop cut.length f.bytes ≢ l.payload

-- How a released frame is written: its time stays, and so does all of it where it stays as it was
-- read; a packet that was replaced is its last payload behind the frame's link header, and both
-- lengths are those of the bytes.
pub record IsWritten (link : ℕ) (f : Frame) (l : FateLine) (w : Frame) : Type 0 where
  pub seconds : w.seconds ≡ f.seconds
  pub fraction : w.fraction ≡ f.fraction
  pub as_read : StaysAsRead link f l → w ≡ f
  pub replaced : (cut : LinkCut) → IsReplaced link f l cut →
      (w.bytes ≡ take cut.length f.bytes ++ l.payload) × (w.original ≡ length w.bytes)

-- ---- what waits

-- the packet with this number, at this visit
abbrev pub is_visit : ℕ → ℕ → ℕ → ℕ → Bool
is_visit number visit n v = (n == number) && (v == visit)

-- no two arrivals are of one packet at one visit
abbrev pub AreApart : List Entry → Type 0
AreApart es = (number visit : ℕ) → times (is_visit number visit) (arrivals es) ≤ 1

-- the packet of an event waits at the event's queue, at the end of these entries
abbrev pub Waits : List Entry → Happening → Type 0
Waits es h =
    times (is_visit h.card.number h.card.visit) (waiting_in (replay (history h.queue es))) ≡ 1

-- the packet of an event left in that event's step: its entry is one of these, after others
pub record LeftThere (es : List Entry) (h : Happening) : Type 0 where
  pub before : List Entry
  pub entry : Entry
  pub after : List Entry
  pub split : es ≡ before ++ entry ∷ after
  pub queue : h.queue ≡ entry.queue
  pub at : h.at ≡ length (history entry.queue before) + 1
  pub way : Way
  pub leaves : Leaves (step_after before entry) h.card way

-- no two of these packets have one number
abbrev pub DifferInNumber : List Card → Type 0
DifferInNumber entered = (number : ℕ) → count_by (λ (c : Card). c.number == number) entered ≤ 1

-- where a packet that left by this way goes on, if it does: what was let through goes on with the
-- next table, and what a verdict decided as that says
abbrev pub route_by : RuleTables → ℕ → Card × Way → Option Next
route_by tables key (card, Gone) = None
route_by tables key (card, Open) = onward_of tables key card Accept
route_by tables key (card, Decided decided) = onward_of tables key card decided

-- What a fate says of that: a release, that no further table queued the packet and it was released;
-- any other fate, that it was destroyed.
pub record IsSaidBy (f : Fate) (route : Option Next) : Type 0 where
  pub released : is_release f ≡ true → route ≡ Some Released
  pub destroyed : is_release f ≡ false → route ≡ None

-- The packet of an event left in that event's step, and goes nowhere from there: it was released or
-- destroyed, as its fate says.
pub record LeftForGood (tables : RuleTables) (key : ℕ) (es : List Entry) (h : Happening)
    : Type 0 where
  pub there : LeftThere es h
  pub over : is_over tables key (h.card, there.way) ≡ true
  pub said : IsSaidBy h.fate (route_by tables key (h.card, there.way))
