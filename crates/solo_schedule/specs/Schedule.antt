-- The schedule of one thread: what happens when a script is run over the packets of a capture, with
-- memory for all of it. Each queue's state is the replay of its entries so far.
use Rattle.std.specs.Prelude.{◌≡◌, ℕ, zero, suc, ◌+◌, ◌*◌, ◌%◌, Bool, true, false, not, ◌&&◌, ◌==◌}
use Rattle.std.specs.Prelude.{List, [], ◌∷◌, length, min, count_by}
use Rattle.std.specs.Prelude.{Option, Some, None, if◌then◌else◌}
use Rattle.packet_entry.specs.declared.letter.Letter.{Letter}
use Rattle.packet_entry.specs.declared.packet.Card.{Card}
use Rattle.pcap_io.specs.declared.capture.Capture.{Capture}
use Rattle.pcap_io.specs.declared.capture.Frame.{Frame}
use Rattle.hook_chain.specs.Rules.{RuleTables}
use Rattle.hook_chain.specs.Route.{next}
use Rattle.nfqa_msgs.specs.NoticeWriting.{Told}
use Rattle.queue_core.specs.Numbers.{largest_count}
use Rattle.histories.specs.declared.histories.Histories.{Histories}
use Rattle.script_lines.specs.declared.line.Down.{Down}
use Rattle.inspector_script.specs.Scripts.{ScriptValue, opening, closing}
use Rattle.packet_moves.specs.declared.setting.Setting.{Setting}
use Rattle.packet_moves.specs.World.{World, Port, at_port, received}
use Rattle.packet_moves.specs.Moving.{carry}
use Rattle.packet_moves.specs.Planes.{beginning, entered, without_device}
use Rattle.histories.specs.Grouping.{IsGrouped}
use Rattle.histories.specs.Logs.{is_received}
use Rattle.packet_moves.specs.Logs.{logs_in}
use Rattle.solo_schedule.specs.Numbers.{enough_arrivals, rounds_per_frame}
use Rattle.run_parts.specs.Entering.{card_of}
use Rattle.run_parts.specs.Feeder.{downs_after}
use Rattle.run_parts.specs.Log.{asks_for}
use Rattle.nfqa_msgs.specs.NoticeTexts.{told_exactly}
use Rattle.solo_schedule.specs.Sending.{all_done}

-- what a run is made with
abbrev pub setting_of : ScriptValue → RuleTables → Setting
setting_of script tables =
    record { tables = tables; key = script.key; mail = script.mail }

-- ---- a look into a mailbox

-- how many notices a port received, as its inspector counts them
abbrev pub received_in : Option Port → ℕ
received_in None = 0
received_in (Some p) = min (count_by is_received p.dids) largest_count

abbrev pub letters_at : Option Port → List Letter
letters_at None = []
letters_at (Some p) = p.letters

abbrev pub is_open_port : Option Port → Bool
is_open_port None = false
is_open_port (Some p) = not p.is_closed

-- the world, and whether a notice was found so far
pub record Looked : Type 0 where
  pub world : World
  pub found : Bool

-- the inspector of the script's port at this place answers the notice that was received last
abbrev pub answered_by : Setting → ScriptValue → ℕ → ℕ → Option Told → World → World
answered_by s script place port told w =
    all_done (λ v. v) s port (asks_for script place (received_in (w.ports port)) told) w

-- the first notice is received, where there is one, and answered
abbrev pub looked_at : Setting → ScriptValue → ℕ → ℕ → List Letter → Looked → Looked
looked_at s script place port [] l = l
looked_at s script place port (letter ∷ letters) l =
    record {
      world = answered_by s script place port (told_exactly letter.bytes)
          (at_port port received l.world);
      found = true;
    }

-- a port that is open looks into its mailbox
abbrev pub looked : Setting → ScriptValue → ℕ → ℕ → Looked → Looked
looked s script place port l =
    if is_open_port (l.world.ports port)
    then looked_at s script place port (letters_at (l.world.ports port)) l
    else l

-- a round: each of these ports, which stand from this place on in the script, looks once
abbrev pub round : Setting → ScriptValue → ℕ → List ℕ → Looked → Looked
round s script place [] l = l
round s script place (p ∷ ps) l = round s script (place + 1) ps (looked s script place p l)

-- after a round that found something there is another
abbrev pub go_on_while : (World → World) → Looked → World
go_on_while more l = if l.found then more l.world else l.world

-- Rounds are made until one finds nothing, but no more than so many.
abbrev pub emptied_in : ℕ → Setting → ScriptValue → World → World
emptied_in zero s script w = w
emptied_in (suc rounds) s script w =
    go_on_while (emptied_in rounds s script)
    (round s script 0 script.ports (record { world = w; found = false }))

-- ---- the parts of a run

-- the ports open, in their order: each sends its opening messages
abbrev pub opened_all : Setting → ScriptValue → ℕ → List ℕ → World → World
opened_all s script place [] w = w
opened_all s script place (p ∷ ps) w =
    opened_all s script (place + 1) ps (all_done (λ v. v) s p (opening script place) w)

-- devices go down, one after the other
abbrev pub all_down : List Down → World → World
all_down [] w = w
all_down (d ∷ ds) w = all_down ds (without_device w d.device)

-- a packet enters, and is moved on to its rest or its end; nothing, where the frame isn't IP
abbrev pub fed : Setting → Option Card → World → World
fed s None w = w
fed s (Some card) w =
    (carry enough_arrivals s (entered w card) card (next s.tables s.key card 1)).world

-- whether the mailboxes are emptied after the frame with this number
abbrev pub is_pause : ℕ → ℕ → Bool
is_pause pace number = not (pace == 0) && (number % pace == 0)

abbrev pub paused : ℕ → Setting → ScriptValue → ℕ → World → World
paused rounds s script number w =
    if is_pause script.pace number then emptied_in rounds s script w else w

-- one frame: its packet is fed, and devices go down
abbrev pub frame_fed : Setting → ScriptValue → Capture → ℕ → Frame → World → World
frame_fed s script c number f w =
    all_down (downs_after script number) (fed s (card_of c number f) w)

-- and at a pause the mailboxes are emptied
abbrev pub frame_passed : ℕ → Setting → ScriptValue → Capture → ℕ → Frame → World → World
frame_passed rounds s script c number f w =
    paused rounds s script number (frame_fed s script c number f w)

abbrev pub frames_passed : ℕ → Setting → ScriptValue → Capture → ℕ → List Frame → World → World
frames_passed rounds s script c number [] w = w
frames_passed rounds s script c number (f ∷ fs) w =
    frames_passed rounds s script c (number + 1) fs (frame_passed rounds s script c number f w)

-- the ports end, in their order: each sends its closing messages, and after each of them the
-- mailboxes are emptied
abbrev pub ended_all : ℕ → Setting → ScriptValue → ℕ → List ℕ → World → World
ended_all rounds s script place [] w = w
ended_all rounds s script place (p ∷ ps) w =
    ended_all rounds s script (place + 1) ps
    (all_done (emptied_in rounds s script) s p (closing script place) w)

-- ---- the whole run

-- No emptying of the mailboxes needs more rounds: each but the last receives a notice, and a packet
-- waits 32 times at most. (`each_emptying_ends_by_itself` says it of every run.)
abbrev pub rounds_for : Capture → ℕ
rounds_for c = rounds_per_frame * length c.frames + 1

-- up to where the first frame is fed
abbrev pub until_open : Setting → ScriptValue → World
until_open s script =
    all_down (downs_after script 0) (opened_all s script 0 script.ports (beginning script.ports))

-- up to where all frames have passed
abbrev pub until_fed : Setting → ScriptValue → Capture → World
until_fed s script c =
    frames_passed (rounds_for c) s script c 1 c.frames (until_open s script)

-- up to where the ports end
abbrev pub until_ends : Setting → ScriptValue → Capture → World
until_ends s script c = emptied_in (rounds_for c) s script (until_fed s script c)

-- all of it
abbrev pub until_end : Setting → ScriptValue → Capture → World
until_end s script c =
    ended_all (rounds_for c) s script 0 script.ports (until_ends s script c)

abbrev pub before_ends : ScriptValue → RuleTables → Capture → World
before_ends script tables c = until_ends (setting_of script tables) script c

abbrev pub run : ScriptValue → RuleTables → Capture → World
run script tables c = until_end (setting_of script tables) script c

-- ---- its histories

-- These are the histories that the run leaves: by ascending queue, with a log for each port in the
-- script's order, and nothing is lost.
pub record IsSolo (script : ScriptValue) (tables : RuleTables) (c : Capture) (h : Histories) :
    Type 0 where
  pub entries : IsGrouped (run script tables c).entries h.entries
  pub logs : h.logs ≡ logs_in script.ports (run script tables c)
  pub lost : h.lost ≡ []
