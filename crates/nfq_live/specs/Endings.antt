-- How far a run has ended its ports: between two meetings, call by call.
use Rattle.std.specs.Prelude.{◌≡◌, ◌≢◌, ◌<◌, ◌≤◌, ◌++◌, ◌⊎◌, ℕ, zero, suc, Bool, true, false, List}
use Rattle.std.specs.Prelude.{[], slice_index_or}
use Rattle.std.specs.Prelude.{if◌then◌else◌, ◌∷◌, length, map, All}
use Rattle.netlink_codec.specs.Messages.{NetlinkMessage}
use Rattle.histories.specs.declared.log.AskWords.{AskWords}
use Rattle.script_lines.specs.declared.ask.Ask.{Ask}
use Rattle.script_lines.specs.declared.ask.Ask.TheVariants.{Close, Words}
use Rattle.inspector_script.specs.Scripts.{ScriptValue}
use Rattle.run_parts.specs.Datagrams.{AsksWell, messages_in}
use Rattle.run_parts.specs.Feeder.{downs_in_effect}
use Rattle.run_parts.specs.Log.{Due, Message, Note, Still, all_due, is_some_due}
use Rattle.run_parts.specs.Ports.{is_port, place_in}
use Rattle.live_runs.specs.Doing.{IsDoing}
use Rattle.live_runs.specs.Meetings.{IsMeeting}
use Rattle.live_runs.specs.Passes.{Pass, feeder_number, seen_at}
use Rattle.live_runs.specs.Ports.{IsPort}
use Rattle.live_runs.specs.Stages.{Stage, Went, Working, Ending}
use Rattle.live_runs.specs.Stands.{AtEnd, Stand, cut_side, idle, opened, shut_stand, side}
use Rattle.live_runs.specs.Sums.{WasSent}
use Rattle.nfq_live.specs.declared.crew.Crew.{Crew}
use Rattle.plane.specs.declared.plane.Plane.{Plane}
use Rattle.plane.specs.Passes.{PortView}
use Rattle.plane.specs.Planes.{order_of, places_of}
use Rattle.nfq_live.specs.Crews.{AreReceived, HaveMinds, IsCrewOf, is_open_in, passes_of}
use Rattle.nfq_live.specs.Sizes.{Size}
use Rattle.live_work.specs.Sharing.{AreFedByAll}

-- the stage that the meeting ended before the port at this place ends
abbrev pub stage_before : ℕ → Stage
stage_before zero = Working
stage_before (suc place) = Ending place

-- a port did all that it had to, and closed where its script says so
abbrev pub HasEnded : Stand → Type 0
HasEnded t = (t ≡ idle []) ⊎ (t ≡ shut_stand)

-- What was known at the last meeting, where the ports before this place have ended and the others
-- wait to: all frames had been fed, with all lines that take effect, and what all passes sent to a
-- closed port is what it received.
pub record HaveEnded (script : ScriptValue) (places : ℕ) (size : Size) (place : ℕ) (met : ℕ → Pass)
    (notes : ℕ → List Note) (stands : ℕ → Stand) : Type 0 where
  pub meeting : IsMeeting size.workers script places (stage_before place) met notes stands
  pub fed : AreFedByAll size.feeders places (downs_in_effect script size.frames)
      (λ k. seen_at met k feeder_number)
  pub before : (port : ℕ) → is_port script port ≡ true → place_in port script.ports < place →
      HasEnded (stands port)
  pub behind : (port : ℕ) → is_port script port ≡ true → place ≤ place_in port script.ports →
      stands port ≡ opened script port
  pub sums : (port : ℕ) → is_port script port ≡ true → (stands port).is_open ≡ false →
      WasSent size.workers script places port (length (met port).letters) met

-- While the port at a place ends: it stands so, each other port as at the last meeting, each having
-- answered its notices since; and the feeder and the closed ports have done nothing since.
pub record Ends (script : ScriptValue) (places : ℕ) (size : Size) (place : ℕ) (mine : Stand)
    (c : Crew) : Type 0 where
  pub met : ℕ → Pass
  pub notes : ℕ → List Note
  pub stands : ℕ → Stand
  pub ended : HaveEnded script places size place met notes stands
  pub this : (port : ℕ) → is_port script port ≡ true → place_in port script.ports ≡ place →
      IsDoing size.workers script places (Ending place) port (notes port) (met port) mine
      (passes_of c port)
  pub others : (port : ℕ) → is_port script port ≡ true → place_in port script.ports ≢ place →
      IsDoing size.workers script places (Ending place) port (notes port) (met port) (stands port)
      (passes_of c port)
  pub feeder : passes_of c feeder_number ≡ met feeder_number
  pub shut : (port : ℕ) → is_port script port ≡ true → (stands port).is_open ≡ false →
      passes_of c port ≡ met port
  pub are_open : (port : ℕ) → is_port script port ≡ true → place_in port script.ports ≢ place →
      is_open_in c port ≡ (stands port).is_open
  pub is_open : (port : ℕ) → is_port script port ≡ true → place_in port script.ports ≡ place →
      is_open_in c port ≡ mine.is_open

-- The port at a place has ended, and the others stand as at the last meeting: what is known of
-- each before all meet.
pub record HasStopped (script : ScriptValue) (places : ℕ) (size : Size) (place : ℕ) (c : Crew)
    : Type 0 where
  pub met : ℕ → Pass
  pub was : ℕ → List Note
  pub stood : ℕ → Stand
  pub ended : HaveEnded script places size place met was stood
  pub now : ℕ → List Note
  pub stands : ℕ → Stand
  pub ports : (p : ℕ) → is_port script p ≡ true →
      IsPort size.workers script places p (now p) (stands p) (passes_of c p)
  pub went : (p : ℕ) → is_port script p ≡ true →
      Went size.workers script (Ending place) p (was p) (now p) (met p).shares
      (passes_of c p).shares
  pub none : (p : ℕ) → is_port script p ≡ false → now p ≡ []
  pub feeder : passes_of c feeder_number ≡ met feeder_number
  pub others : (p : ℕ) → is_port script p ≡ true → place_in p script.ports ≢ place →
      stands p ≡ stood p
  pub mine : (p : ℕ) → is_port script p ≡ true → place_in p script.ports ≡ place →
      HasEnded (stands p)
  pub shut : (p : ℕ) → is_port script p ≡ true → (stood p).is_open ≡ false →
      passes_of c p ≡ met p
  pub are_open : (p : ℕ) → is_port script p ≡ true → is_open_in c p ≡ (stands p).is_open

-- of its end these asks are left
abbrev pub EndsTo : ScriptValue → ℕ → Size → ℕ → List Ask → Crew → Type 0
EndsTo script places size place asks c =
    Ends script places size place (side (AtEnd []) (all_due asks)) c

-- It is to send these messages of its end, and then owes these. Before the first of them it has
-- just taken up their ask.
pub record EndsCutting (script : ScriptValue) (places : ℕ) (size : Size) (place : ℕ)
    (ms : List NetlinkMessage) (ds : List Due) (c : Crew) : Type 0 where
  pub fresh : Bool
  pub some : fresh ≡ true → is_some_due (map Message ms) ≡ true
  pub short : All AsksWell ms
  pub ends : Ends script places size place
      (cut_side (AtEnd []) (map Message ms ++ ds) fresh) c

-- what is left of an end whose messages were sent: its closing, where the script says it
abbrev pub closing_left : Bool → List Ask
closing_left closes = if closes then Close ∷ [] else []

-- The ports before this place have ended, and all passes have just met.
pub record IsAtMeeting (script : ScriptValue) (places : ℕ) (size : Size) (place : ℕ) (c : Crew)
    : Type 0 where
  pub notes : ℕ → List Note
  pub stands : ℕ → Stand
  pub ended : HaveEnded script places size place (passes_of c) notes stands
  pub are_open : (port : ℕ) → is_port script port ≡ true →
      is_open_in c port ≡ (stands port).is_open

-- ---- what the calls of an end do, whatever the size of the run

-- The open port at this index is the one at a place of the script. It may send and close: all
-- passes are the plane's, and each open port received what was sent to it.
pub record MayEnd (script : ScriptValue) (plane : Plane) (place at : ℕ) (c : Crew) : Type 0 where
  pub crew : IsCrewOf plane c
  pub order : order_of plane ≡ script.ports
  pub minds : HaveMinds script c
  pub within : at < length c.ports.items
  pub its : (d : PortView) →
      place_in (slice_index_or c.ports.items at d).port script.ports ≡ place
  pub received : AreReceived script.ports (places_of plane) c

-- Of the messages that bytes are cut into, these are left, and then these are due.
pub record CutsEndTo (script : ScriptValue) (places place : ℕ) (bytes : List ℕ)
    (left : List NetlinkMessage) (old new : Crew) : Type 0 where
  pub on : (size : Size) (ds : List Due) →
      EndsCutting script places size place (messages_in bytes) ds old →
      EndsCutting script places size place left ds new

-- all of them were sent
pub record CutsEnd (script : ScriptValue) (places place : ℕ) (bytes : List ℕ) (old new : Crew)
    : Type 0 where
  pub on : (size : Size) (ds : List Due) →
      EndsCutting script places size place (messages_in bytes) ds old →
      Ends script places size place (side (AtEnd []) ds) new

-- the messages of an ask of its end were sent
pub record SaysOfEnd (script : ScriptValue) (places place : ℕ) (words : AskWords) (old new : Crew)
    : Type 0 where
  pub on : (size : Size) (ds : List Due) →
      Ends script places size place (side (AtEnd []) (Still (Words words) ∷ ds)) old →
      Ends script places size place (side (AtEnd []) ds) new

-- of these asks of its end, these are left
pub record SaysEndTo (script : ScriptValue) (places place : ℕ) (asks left : List Ask)
    (old new : Crew) : Type 0 where
  pub on : (size : Size) → EndsTo script places size place asks old →
      EndsTo script places size place left new
