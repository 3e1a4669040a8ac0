-- All passes of a run as the caller holds them, and how they go on.
use Rattle.std.specs.Prelude.{◌≡◌, ◌≢◌, ◌<◌, ◌≤◌, ◌++◌, ℕ, Bool, true, false, List}
use Rattle.std.specs.Prelude.{length, min, nat_eq, slice_index}
use Rattle.std.specs.List.{AllZip, list_any}
use Rattle.inspector_script.specs.Scripts.{ScriptValue}
use Rattle.place_rows.specs.Shares.{sent_in_all}
use Rattle.plane.specs.declared.plane.Plane.{Plane}
use Rattle.plane.specs.Passes.{PortView}
use Rattle.live_runs.specs.ClosedPlanes.{sent_by_all}
use Rattle.live_runs.specs.Doing.{GoesOn}
use Rattle.live_runs.specs.Passes.{Pass, Shuts}
use Rattle.nfq_live.specs.declared.crew.Crew.{Crew}
use Rattle.live_work.specs.Feeding.{IsFeedingOf}
use Rattle.live_work.specs.Minds.{IsMind}
use Rattle.live_work.specs.Numbers.{most_counted}
use Rattle.live_passes.specs.Numbered.{AreAll, numbers_of, passes_in, rows_in}

-- ---- who is there

-- all ports, open and closed
abbrev pub all_ports : Crew → List PortView
all_ports c = c.ports.items ++ c.closed.items

-- all passes by number
abbrev pub passes_of : Crew → ℕ → Pass
passes_of c = passes_in c.feeding.pass (all_ports c)

abbrev pub is_open_in : Crew → ℕ → Bool
is_open_in c port = list_any (nat_eq port) (numbers_of c.ports.items)

-- They are all passes of the plane. This holds wherever a call has ended, also one that found no
-- memory, so that the plane can be closed from there.
pub record IsCrewOf (plane : Plane) (c : Crew) : Type 0 where
  pub all : AreAll plane c.feeding.pass c.ports.items c.closed.items
  pub looks : IsFeedingOf plane c.feeding

-- each open port has its inspector, which has counted its notices
abbrev pub HaveMinds : ScriptValue → Crew → Type 0
HaveMinds script c = AllZip (IsMind script) c.ports.items c.minds.items

-- the script's ports from this place on are open
abbrev pub AreOpenFrom : ScriptValue → ℕ → Crew → Type 0
AreOpenFrom script place c =
    (p : ℕ) → place ≤ p → p < length script.ports → is_open_in c (slice_index script.ports p) ≡ true

-- ---- how it goes on

-- At most passes of open ports went on: the same ports are open.
pub record PortsAlone (old new : Crew) : Type 0 where
  pub numbers : numbers_of new.ports.items ≡ numbers_of old.ports.items
  pub closed : new.closed.items ≡ old.closed.items
  pub feeding : new.feeding ≡ old.feeding

-- Each open port went on answering its notices, without a pool, and nothing else happened. That is
-- how it goes on with any number of workers behind it.
pub record AllLookOn (script : ScriptValue) (places : ℕ) (old new : Crew) : Type 0 where
  pub alone : PortsAlone old new
  pub each : (workers port : ℕ) → is_open_in old port ≡ true →
      GoesOn workers script places port (passes_of old port) (passes_of new port)

-- A port received as many notices as all passes sent to it.
abbrev pub IsReceived : List ℕ → ℕ → Crew → ℕ → Type 0
IsReceived ports places c port =
    sent_by_all ports places (passes_of c) port ≡ length (passes_of c port).letters

-- Each open port did.
pub record AreReceived (ports : List ℕ) (places : ℕ) (c : Crew) : Type 0 where
  pub all : (port : ℕ) → is_open_in c port ≡ true → IsReceived ports places c port

-- how many notices all passes sent to a port, as they count them, up to the last value of a count
abbrev pub all_sent : Crew → ℕ → ℕ
all_sent c port = min (sent_in_all port (rows_in c.feeding.pass (all_ports c))) most_counted

-- One open port's pass went on, and no other.
pub record OnePass (port : ℕ) (old new : Crew) : Type 0 where
  pub alone : PortsAlone old new
  pub others : (p : ℕ) → p ≢ port → passes_of new p ≡ passes_of old p

-- One port closed, and nothing else happened.
pub record OneShuts (places port : ℕ) (old new : Crew) : Type 0 where
  pub shuts : Shuts places port (passes_of old port) (passes_of new port)
  pub beyond : (k : ℕ) → places ≤ k →
      (passes_of new port).shares k ≡ (passes_of old port).shares k
  pub others : (p : ℕ) → p ≢ port → passes_of new p ≡ passes_of old p
  pub gone : is_open_in new port ≡ false
  pub stay : (p : ℕ) → p ≢ port → is_open_in new p ≡ is_open_in old p
  pub feeding : new.feeding ≡ old.feeding

-- All other ports are open that were, and the feeder did nothing.
pub record OthersStay (port : ℕ) (old new : Crew) : Type 0 where
  pub stay : (p : ℕ) → p ≢ port → is_open_in new p ≡ is_open_in old p
  pub feeding : new.feeding ≡ old.feeding
