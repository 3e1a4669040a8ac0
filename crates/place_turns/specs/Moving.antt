-- Packets that move on by turns of one pass, from queue to queue, each to its rest or its end.
use Rattle.std.specs.Prelude.{◌≡◌, ℕ, zero, suc, List, [], ◌∷◌, ◌++◌, Option, Some, None, Bool}
use Rattle.packet_entry.specs.declared.packet.Card.{Card}
use Rattle.hook_chain.specs.declared.chain.Next.{Next}
use Rattle.hook_chain.specs.declared.chain.Next.TheVariants.{Released, To}
use Rattle.hook_chain.specs.Route.{next}
use Rattle.queue_core.specs.Step.{Way}
use Rattle.histories.specs.declared.entry.Entry.{Entry}
use Rattle.histories.specs.Happenings.{arrive}
use Rattle.histories.specs.Journeys.{Arrival, visit_of}
use Rattle.histories.specs.States.{step_of, entry_of}
use Rattle.histories.specs.Places.{place_for}
use Rattle.packet_moves.specs.declared.fed.Fed.{Fed}
use Rattle.packet_moves.specs.declared.fed.Fed.TheVariants as fed
use Rattle.packet_moves.specs.declared.setting.Setting.{Setting}
use Rattle.packet_moves.specs.Moving.{arrival_to, route_after}
use Rattle.place_turns.specs.Trails.{Trail, StepsAt}

-- how a packet is moved on from a trail by a route, to a trail and its rest or end
abbrev pub Goes : Type 1
Goes = Trail → Card → Option Next → Trail → Fed → Type 0

-- after an arrival it waits, or leaves at once
abbrev pub Settles : Goes → Setting → Trail → List (Card × Way) → Trail → Fed → Type 0
Settles on s t [] u f = (u ≡ t) × (f ≡ fed.Waiting)
Settles on s t (l ∷ ls) u f = on t l.0 (route_after s l) u f

-- It arrives at its queue's place, in a turn, with room or without.
pub record ArrivesThen (on : Goes) (places : ℕ) (s : Setting) (a : Arrival) (t u : Trail) (f : Fed)
    : Type 0 where
  pub found : List Entry
  pub room : Bool
  pub between : Trail
  pub turn : StepsAt (place_for a.queue places) t between found
      (found ++ entry_of found a.queue (arrive a room) ∷ [])
  pub settles : Settles on s between (step_of found a.queue (arrive a room)).left u f

-- It finds no memory there, and is lost.
pub record IsLost (places : ℕ) (a : Arrival) (t u : Trail) (f : Fed) : Type 0 where
  pub found : List Entry
  pub between : Trail
  pub looked : StepsAt (place_for a.queue places) t between found found
  pub lost : u ≡ record between { lost = between.lost ++ visit_of a ∷ [] }
  pub is : f ≡ fed.Lost

-- A packet is moved on by a route, and without one it is destroyed: while it is sent to a queue it
-- arrives there, and goes on where the queue lets it through at once. `memory` says how many
-- arrivals find memory; the packet is lost at the first that finds none. What a turn finds isn't
-- determined, so this is a relation. At the last visit each packet ends, so that with memory for
-- that many arrivals none is lost.
abbrev pub Carries : ℕ → ℕ → Setting → Goes
Carries memory places s t card None u f = (u ≡ t) × (f ≡ fed.Destroyed)
Carries memory places s t card (Some Released) u f = (u ≡ t) × (f ≡ fed.Released)
Carries zero places s t card (Some (To queue bypass table)) u f =
    IsLost places (arrival_to queue bypass table card) t u f
Carries (suc memory) places s t card (Some (To queue bypass table)) u f =
    ArrivesThen (Carries memory places s) places s (arrival_to queue bypass table card) t u f

-- A packet is fed: it goes through the tables from the first on, and is moved on to its rest or its
-- end. Its first arrival finds memory.
pub record IsFed (places : ℕ) (s : Setting) (old : Trail) (card : Card) (new : Trail) (f : Fed)
    : Type 0 where
  pub memory : ℕ
  pub moved : Carries (suc memory) places s old card (Some (next s.tables s.key card 1)) new f
