-- Packets that move on, from queue to queue, each to its rest or its end.
use Rattle.std.specs.Prelude.{◌≡◌, ℕ, ◌+◌, ◌||◌, zero, suc, List, [], ◌∷◌, ◌++◌, length, nat_lt}
use Rattle.std.specs.Prelude.{Option, Some, None, Bool, true, false}
use Rattle.packet_entry.specs.declared.packet.Card.{Card}
use Rattle.hook_chain.specs.declared.chain.Next.{Next}
use Rattle.hook_chain.specs.declared.chain.Next.TheVariants.{Released, To}
use Rattle.hook_chain.specs.declared.chain.Decision.{Decision}
use Rattle.hook_chain.specs.declared.chain.Decision.TheVariants.{Accept}
use Rattle.hook_chain.specs.Route.{onward_of}
use Rattle.queue_core.specs.State.{Bound}
use Rattle.queue_core.specs.Step.{Way, Gone, Open, Decided, is_decided_early, next_id}
use Rattle.queue_core.specs.WithOffer.{letter_of}
use Rattle.histories.specs.Journeys.{Arrival}
use Rattle.histories.specs.States.{state_of, step_of, entry_of}
use Rattle.histories.specs.Happenings.{arrive}
use Rattle.packet_moves.specs.declared.fed.Fed.{Fed}
use Rattle.packet_moves.specs.declared.fed.Fed.TheVariants as fed
use Rattle.packet_moves.specs.declared.setting.Setting.{Setting}
use Rattle.packet_moves.specs.World.{World, Port, changed_at, delivered}

-- ---- one arrival

-- the arrival that a route asks for of a packet: its next visit
abbrev pub arrival_to : ℕ → Bool → ℕ → Card → Arrival
arrival_to queue bypass table card =
    record {
      queue = queue;
      card = record card { visit = card.visit + 1; table = table };
      bypass = bypass;
    }

-- whether a mailbox takes one notice more
abbrev pub takes_one : ℕ → Option Port → Bool
takes_one mail None = false
takes_one mail (Some p) = nat_lt (length p.letters) mail

-- whether there is room for an arrival's notice: where none is offered, or the mailbox of the
-- queue's port takes one more
abbrev pub has_room : Setting → World → Option Bound → Card → Bool
has_room s w None card = true
has_room s w (Some q) card =
    is_decided_early (Some q) card || takes_one s.mail (w.ports q.port)

-- what an arrival puts into mailboxes, by what leaves its queue at once: where nothing does, the
-- packet waits, and its notice goes to the queue's port
abbrev pub with_notice : Option Bound → Arrival → List (Card × Way) → (ℕ → Option Port) →
    ℕ → Option Port
with_notice None a left ports = ports
with_notice (Some q) a (l ∷ ls) ports = ports
with_notice (Some q) a [] ports =
    changed_at q.port (delivered (letter_of a.queue q (next_id q) a.card)) ports

-- what leaves the queue at once
abbrev pub left_at_once : World → Arrival → Bool → List (Card × Way)
left_at_once w a room = (step_of w.entries a.queue (arrive a room)).left

-- it happens, with room or without: its entry is appended
abbrev pub happened : World → Arrival → Bool → World
happened w a room =
    record w {
      entries = w.entries ++ entry_of w.entries a.queue (arrive a room) ∷ [];
      ports = with_notice (state_of w.entries a.queue) a (left_at_once w a room) w.ports;
    }

-- the arrival's room, what leaves at once then, and the world afterwards
abbrev pub room_for : Setting → World → Arrival → Bool
room_for s w a = has_room s w (state_of w.entries a.queue) a.card

abbrev pub turned_away : Setting → World → Arrival → List (Card × Way)
turned_away s w a = left_at_once w a (room_for s w a)

abbrev pub arrived : Setting → World → Arrival → World
arrived s w a = happened w a (room_for s w a)

-- ---- to rest or end

-- where a packet that leaves a queue goes on, if it does
abbrev pub route_after : Setting → Card × Way → Option Next
route_after s (card, Gone) = None
route_after s (card, Open) = onward_of s.tables s.key card Accept
route_after s (card, Decided decision) = onward_of s.tables s.key card decision

-- what is once a packet has come to its rest or end, and which of them it is
pub record Carried : Type 0 where
  pub world : World
  pub fed : Fed

abbrev pub ending : World → Fed → Carried
ending w f = record { world = w; fed = f }

-- the packet is lost before its next arrival
abbrev pub losing : World → Card → World
losing w card =
    record w { lost = w.lost ++ record { number = card.number; visit = card.visit + 1 } ∷ [] }

-- it goes on by its route, or is destroyed where there is none
abbrev pub goes_on : (Next → Carried) → World → Option Next → Carried
goes_on on w None = ending w fed.Destroyed
goes_on on w (Some route) = on route

-- after an arrival it waits, or leaves at once
abbrev pub settled : (World → Card → Next → Carried) → Setting → World → List (Card × Way) → Carried
settled on s w [] = ending w fed.Waiting
settled on s w (l ∷ ls) = goes_on (on w l.0) w (route_after s l)

-- A packet is moved on by a route: while it is sent to a queue it arrives there, and goes on where
-- the queue lets it through at once. `memory` says how many arrivals find memory; the packet is
-- lost at the first that finds none. At the last visit each packet ends, so that with memory for
-- that many arrivals none is lost.
abbrev pub carry : ℕ → Setting → World → Card → Next → Carried
carry zero s w card Released = ending w fed.Released
carry zero s w card (To queue bypass table) = ending (losing w card) fed.Lost
carry (suc memory) s w card Released = ending w fed.Released
carry (suc memory) s w card (To queue bypass table) =
    let a = arrival_to queue bypass table card in
    settled (carry memory s) s (arrived s w a) (turned_away s w a)

-- the same, where there may be no route
abbrev pub carry_on : ℕ → Setting → World → Card → Option Next → Carried
carry_on memory s w card route = goes_on (carry memory s w card) w route

-- packets that a request let go on, one after the other, each to its rest or end
abbrev pub CarriesAll : Setting → List (Card × Decision) → World → World → Type 0
CarriesAll s [] w after = after ≡ w
CarriesAll s (h ∷ hs) w after =
    (memory : ℕ)
    × CarriesAll s hs (carry_on memory s w h.0 (onward_of s.tables s.key h.0 h.1)).world after
