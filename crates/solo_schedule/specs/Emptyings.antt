-- Where a run empties the mailboxes, and what it is for an emptying to end by itself.
use Rattle.std.specs.Prelude.{◌≡◌, ◌⊎◌, ℕ, zero, suc, ◌+◌, false, List, [], ◌∷◌, ◌++◌}
use Rattle.std.specs.Prelude.{if◌then◌else◌}
use Rattle.netlink_codec.specs.Messages.{NetlinkMessage}
use Rattle.hook_chain.specs.Rules.{RuleTables}
use Rattle.pcap_io.specs.declared.capture.Capture.{Capture}
use Rattle.pcap_io.specs.declared.capture.Frame.{Frame}
use Rattle.script_lines.specs.declared.ask.Ask.{Ask}
use Rattle.script_lines.specs.declared.ask.Ask.TheVariants.{Words, Close}
use Rattle.inspector_script.specs.Scripts.{ScriptValue, closing}
use Rattle.packet_moves.specs.declared.setting.Setting.{Setting}
use Rattle.packet_moves.specs.World.{World}
use Rattle.packet_moves.specs.Messages.{call_at}
use Rattle.solo_schedule.specs.Sending.{sent, done, all_done}
use Rattle.run_parts.specs.Datagrams.{messages_in, bytes_of}
use Rattle.solo_schedule.specs.Schedule.{Looked, round, emptied_in, frame_passed, frame_fed}
use Rattle.solo_schedule.specs.Schedule.{is_pause, rounds_for, setting_of, until_open}
use Rattle.solo_schedule.specs.Schedule.{until_fed, until_ends}

-- ---- an emptying that ends by itself

-- a round of all ports, in this world
abbrev pub round_in : Setting → ScriptValue → World → Looked
round_in s script w = round s script 0 script.ports (record { world = w; found = false })

-- Of rounds that are made one after the other, so many at most, one finds nothing.
abbrev pub FindsNothing : ℕ → Setting → ScriptValue → World → Type 0
FindsNothing zero s script w = ⊥
FindsNothing (suc rounds) s script w =
    ((round_in s script w).found ≡ false)
    ⊎ FindsNothing rounds s script (round_in s script w).world

-- ---- where mailboxes are emptied: the worlds before it

-- at the pauses between frames that count from this number on
abbrev pub at_pauses : ℕ → Setting → ScriptValue → Capture → ℕ → List Frame → World → List World
at_pauses rounds s script c number [] w = []
at_pauses rounds s script c number (f ∷ fs) w =
    (if is_pause script.pace number then frame_fed s script c number f w ∷ [] else [])
    ++ at_pauses rounds s script c (number + 1) fs (frame_passed rounds s script c number f w)

-- behind each of these messages, where `more` happens behind each
abbrev pub behind_messages :
    (World → World) → Setting → ℕ → List NetlinkMessage → World → List World
behind_messages more s port [] w = []
behind_messages more s port (m ∷ ms) w =
    sent s port m w ∷ behind_messages more s port ms (more (sent s port m w))

abbrev pub behind_ask : (World → World) → Setting → ℕ → Ask → World → List World
behind_ask more s port (Words words) w =
    behind_messages more s port (messages_in (bytes_of port (call_at (w.ports port)) words)) w
behind_ask more s port Close w = []

abbrev pub behind_asks : (World → World) → Setting → ℕ → List Ask → World → List World
behind_asks more s port [] w = []
behind_asks more s port (a ∷ asks) w =
    behind_ask more s port a w ++ behind_asks more s port asks (done more s port a w)

-- behind each closing message of these ports, which stand from this place on in the script
abbrev pub at_ends : ℕ → Setting → ScriptValue → ℕ → List ℕ → World → List World
at_ends rounds s script place [] w = []
at_ends rounds s script place (p ∷ ps) w =
    behind_asks (emptied_in rounds s script) s p (closing script place) w
    ++ at_ends rounds s script (place + 1) ps
    (all_done (emptied_in rounds s script) s p (closing script place) w)

-- in a whole run: at the pauses, once all frames have passed, and behind the closing messages
abbrev pub emptyings_in : Setting → ScriptValue → Capture → List World
emptyings_in s script c =
    at_pauses (rounds_for c) s script c 1 c.frames (until_open s script)
    ++ (until_fed s script c
    ∷ at_ends (rounds_for c) s script 0 script.ports (until_ends s script c))

abbrev pub emptyings : ScriptValue → RuleTables → Capture → List World
emptyings script tables c = emptyings_in (setting_of script tables) script c
