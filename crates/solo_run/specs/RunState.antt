-- A run between two steps: the plane's world, and an inspector for each port that knows how far its
-- port is.
use Rattle.std.specs.Prelude.{◌≡◌, ◌≢◌, ◌<◌, ◌≤◌, ℕ, List, [], ◌∷◌, length, AllPairs, Bool, true}
use Rattle.std.specs.Prelude.{slice_index, slice_index_or, Option, Some, None, All}
use Rattle.packet_entry.specs.Numbers.{longest_packet}
use Rattle.packet_entry.specs.declared.letter.Letter.{Letter}
use Rattle.netlink_codec.specs.Messages.{NetlinkMessage}
use Rattle.nfqa_msgs.specs.declared.request.Request.{Request}
use Rattle.nfqa_msgs.specs.RequestWriting.{spelled}
use Rattle.script_lines.specs.declared.ask.Ask.{Ask}
use Rattle.script_lines.specs.declared.ask.Ask.TheVariants.{Words, Close}
use Rattle.inspector_script.specs.Scripts.{ScriptValue, next_count}
use Rattle.pcap_io.specs.declared.capture.Capture.{Capture}
use Rattle.pcap_io.specs.declared.capture.Frame.{Frame}
use Rattle.packet_moves.specs.declared.setting.Setting.{Setting}
use Rattle.packet_moves.specs.Planes.{beginning}
use Rattle.packet_moves.specs.World.{World, Port, at_port, received}
use Rattle.packet_moves.specs.Messages.{call_at}
use Rattle.packet_moves.specs.Soundness.{IsSound}
use Rattle.solo_plane.specs.PlaneView as plane
use Rattle.solo_schedule.specs.Sending.{sent}
use Rattle.solo_schedule.specs.Schedule.{received_in, is_open_port}
use Rattle.run_parts.specs.Log.{asks_for}
use Rattle.nfqa_msgs.specs.NoticeTexts.{told_exactly}
use Rattle.solo_run.specs.Numbers.{most_frames}
use Rattle.solo_run.specs.declared.inspector.Inspector.{Inspector}
use Rattle.solo_run.specs.declared.run.Run.{Run}

-- ---- inspectors

-- the inspector at this place of the script, whose port stands so
abbrev pub mind_of : ℕ → Option Port → Inspector
mind_of place p = record {
  machine = record { place = place; received = received_in p };
  is_open = is_open_port p;
}

-- the script's port at this place
abbrev pub port_at : ScriptValue → ℕ → ℕ
port_at script place = slice_index script.ports place

abbrev pub mind_at : ScriptValue → World → ℕ → Inspector
mind_at script w place = mind_of place (w.ports (port_at script place))

-- whether it is open
abbrev pub is_open_at : ScriptValue → World → ℕ → Bool
is_open_at script w place = is_open_port (w.ports (port_at script place))

-- one notice more
abbrev pub one_notice : Inspector → Inspector
one_notice m =
    record m {
      machine = record m.machine { received = next_count m.machine.received };
    }

-- ---- a run between two steps

-- nothing is lost; what happened is legal and sound; and each port of the script has its inspector
pub record IsGoing (script : ScriptValue) (s : Setting) (w : World) (minds : List Inspector) :
    Type 0 where
  pub whole : w.lost ≡ []
  pub sound : IsSound s [] w
  pub as_many : length minds ≡ length script.ports
  pub each : (place : ℕ) (d : Inspector) → place < length script.ports →
      slice_index_or minds place d ≡ mind_at script w place
  pub apart : AllPairs (λ p q. p ≢ q) script.ports

abbrev pub world_of : Run → World
world_of r = plane.world_in r.plane

abbrev pub setting_of : Run → Setting
setting_of r = plane.setting_of r.plane

abbrev pub order_of : Run → List ℕ
order_of r = plane.order_of r.plane

abbrev pub Goes : ScriptValue → Run → Type 0
Goes script r = IsGoing script (setting_of r) (world_of r) r.inspectors.items

-- A run in which nothing has happened yet, and a capture that is short enough for it.
pub record MayBegin (script : ScriptValue) (capture : Capture) (r : Run) : Type 0 where
  pub going : Goes script r
  pub frames : length capture.frames ≤ most_frames
  pub bytes : All (λ (f : Frame). length f.bytes ≤ longest_packet) capture.frames
  pub world : world_of r ≡ beginning script.ports

-- a run stays with what it was made with
pub record IsWith (old new : Run) : Type 0 where
  pub setting : setting_of new ≡ setting_of old
  pub order : order_of new ≡ order_of old

-- no packet is fed, and no port closes
pub record Keeps (old new : World) : Type 0 where
  pub fed : new.fed ≡ old.fed
  pub open_ports : (p : ℕ) → is_open_port (new.ports p) ≡ is_open_port (old.ports p)

-- the same ports are open
abbrev pub SameOpen : World → World → Type 0
SameOpen old new = (p : ℕ) → is_open_port (new.ports p) ≡ is_open_port (old.ports p)

-- the script's ports from this place on are open
abbrev pub AreOpen : ScriptValue → World → ℕ → Type 0
AreOpen script w from = (place : ℕ) → from ≤ place → place < length script.ports →
    is_open_at script w place ≡ true

-- no packet is fed, and no port but this one closes
pub record KeepsBut (port : ℕ) (old new : World) : Type 0 where
  pub fed : new.fed ≡ old.fed
  pub open_ports : (p : ℕ) → p ≢ port → is_open_port (new.ports p) ≡ is_open_port (old.ports p)

-- ---- what is sent

-- the first message of some bytes is sent, where one stands there
abbrev pub SendsFirst : Setting → ℕ → Option (NetlinkMessage × ℕ) → World → World → ℕ → Type 0
SendsFirst s port None old new used = (used ≡ 0) × (new ≡ old)
SendsFirst s port (Some (m, n)) old new used = (used ≡ n) × (new ≡ sent s port m old)

-- a request is sent, as the message that its spelling is, with the port's next number
abbrev pub request_sent : Setting → ℕ → Request → World → World
request_sent s port request w = sent s port (spelled port (call_at (w.ports port)) request) w

-- the first of these notices is received, where there is one; what is asked for in answer
abbrev pub ReceivesFirst : ScriptValue → ℕ → ℕ → List Letter → Option (List Ask) → World → World →
    Type 0
ReceivesFirst script place port [] asks old new = (asks ≡ None) × (new ≡ old)
ReceivesFirst script place port (letter ∷ letters) asks old new =
    (asks ≡ Some (asks_for script place (received_in (new.ports port)) (told_exactly letter.bytes)))
    × (new ≡ at_port port received old)

-- what an ask leaves as it is
abbrev pub LeavesBy : Ask → ℕ → World → World → Type 0
LeavesBy (Words words) port old new = Keeps old new
LeavesBy Close port old new = KeepsBut port old new
