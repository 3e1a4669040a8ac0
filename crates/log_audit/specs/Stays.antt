-- The notices of arrivals that queues took, by queue, number and visit.
use Rattle.std.specs.Prelude.{◌≡◌, ℕ, Bool, true, false, ◌&&◌, ◌||◌, ◌==◌, List, [], ◌∷◌}
use Rattle.std.specs.Prelude.{Option, Some, None, if◌then◌else◌, length, ◌++◌, find}
use Rattle.std.specs.List.{AllByRecursion}
use Rattle.std.specs.BTreeMap.{BTreeMap, get, is_at}
use Rattle.std.specs.Ordering.{nat_cmp, ordering_then}
use Rattle.std.specs.declared.cmp.Ordering.{Ordering}
use Rattle.packet_entry.specs.Numbers.{ipv4_type, ipv6_type, ethernet_header_length}
use Rattle.packet_entry.specs.Numbers.{tagged_header_length}
use Rattle.packet_entry.specs.declared.packet.Card.{Card}
use Rattle.packet_entry.specs.declared.letter.Letter.{Letter}
use Rattle.nfqa_msgs.specs.declared.notice.Notice.{Notice}
use Rattle.queue_core.specs.State.{Bound}
use Rattle.queue_core.specs.Step.{step}
use Rattle.queue_core.specs.declared.event.Event.{Event}
use Rattle.queue_core.specs.declared.event.Event.TheVariants.{Arrive, Ask, PortClosed, DeviceDown}
use Rattle.histories.specs.declared.entry.Entry.{Entry}
use Rattle.histories.specs.History.{history}
use Rattle.histories.specs.Letters.{letters_of_event}
use Rattle.log_audit.specs.Walking.{Known}
use Rattle.log_audit.specs.PortWalks.{IsTold}
use Rattle.log_audit.specs.declared.notices.Stay.{Stay}

-- ---- the notices that entries tell

-- the notice of an entry, for whatever port
abbrev pub letters_at : Option Bound → Entry → List Letter
letters_at None e = []
letters_at (Some q) e = letters_of_event e.queue q e.event e.reply

-- those of one queue's entries, from a state on
abbrev pub all_letters : Option Bound → List Entry → List Letter
all_letters q [] = []
all_letters q (e ∷ es) = letters_at q e ++ all_letters (step q e.event).state es

abbrev pub is_visit : ℕ → ℕ → Letter → Bool
is_visit number visit l = (l.number == number) && (l.visit == visit)

-- the first notice of a packet's visit to a queue
abbrev pub known_in : List Entry → Known
known_in es queue number visit =
    find (is_visit number visit) (all_letters None (history queue es))

-- ---- as the code holds them

-- by the queue, the number and the visit
abbrev pub stay_cmp : Stay → Stay → Ordering
stay_cmp a b =
    ordering_then (nat_cmp a.queue b.queue)
    (ordering_then (nat_cmp a.number b.number) (nat_cmp a.visit b.visit))

abbrev pub stay : ℕ → ℕ → ℕ → Stay
stay queue number visit = record { queue = queue; number = number; visit = visit }

abbrev pub NoticeMap : Type 0
NoticeMap = BTreeMap Stay Notice

-- what is kept of each stay is the notice that is known of it
abbrev pub AreTold : Known → NoticeMap → Type 0
AreTold known notices = (queue number visit : ℕ) →
    IsTold (known queue number visit) (get stay_cmp notices (stay queue number visit))

-- the first of these that there is
abbrev pub or_else : Option Letter → Option Letter → Option Letter
or_else None second = second
or_else (Some l) second = Some l

-- those of them that are of this queue, if it is the one that they are from
abbrev pub at_queue : ℕ → ℕ → List Letter → List Letter
at_queue from queue letters = if from == queue then letters else []

-- The notices of an entry of this queue are kept, where none is kept of their stays.
abbrev pub Keeps : List Letter → ℕ → NoticeMap → NoticeMap → Type 0
Keeps letters from old new = (queue number visit : ℕ) (o : Option Letter) →
    IsTold o (get stay_cmp old (stay queue number visit)) →
    IsTold (or_else o (find (is_visit number visit) (at_queue from queue letters)))
    (get stay_cmp new (stay queue number visit))

abbrev pub or_this : Option Notice → Notice → Option Notice
or_this None n = Some n
or_this (Some kept) n = Some kept

-- a notice is kept, where none is kept of its stay
pub record KeepsFirst (s : Stay) (n : Notice) (old new : NoticeMap) : Type 0 where
  pub own : get stay_cmp new s ≡ or_this (get stay_cmp old s) n
  pub others : (t : Stay) → is_at (stay_cmp s) t ≡ false →
      get stay_cmp new t ≡ get stay_cmp old t

-- a packet has one of IP's two protocols; its link header is none, or an Ethernet header without a
-- tag or with one
abbrev pub is_protocol : ℕ → Bool
is_protocol protocol = (protocol == ipv4_type) || (protocol == ipv6_type)

abbrev pub is_link_length : ℕ → Bool
is_link_length n = (n == 0) || (n == ethernet_header_length) || (n == tagged_header_length)

abbrev pub is_packets : Card → Bool
is_packets card = is_protocol card.protocol && is_link_length (length card.link)

-- each packet that arrives is so
abbrev pub IsPackets : Event → Type 0
IsPackets (Arrive card bypass room) = is_packets card ≡ true
IsPackets (Ask port call request) = Unit {0}
IsPackets (PortClosed port) = Unit {0}
IsPackets (DeviceDown device) = Unit {0}

abbrev pub ArePackets : List Entry → Type 0
ArePackets es = AllByRecursion (λ (e : Entry). IsPackets e.event) es
