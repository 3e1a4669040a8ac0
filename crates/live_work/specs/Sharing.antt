-- What one of several feeders does: the frames of its share are fed, and devices go down after
-- each.
use Rattle.std.specs.Prelude.{◌<◌, ℕ, Bool, List, filter}
use Rattle.packet_entry.specs.declared.packet.Card.{Card}
use Rattle.pcap_io.specs.declared.capture.Capture.{Capture}
use Rattle.script_lines.specs.declared.line.Down.{Down}
use Rattle.inspector_script.specs.Scripts.{ScriptValue}
use Rattle.run_parts.specs.Entering.{cards}
use Rattle.run_parts.specs.Feeder.{is_share}
use Rattle.live_runs.specs.Owners.{IsFedByAll, IsFeeders}
use Rattle.live_runs.specs.Seen.{Grows, Shares}
use Rattle.shared_feeding.specs.Lines.{share_downs}
use Rattle.shared_feeding.specs.Sights.{AreSharing}
use Rattle.feeder_set.specs.declared.share.Share.{Share}

-- a packet's number is that of its frame: whether it is of a share
abbrev pub is_of_share : Share → Card → Bool
is_of_share s card = is_share s.feeders s.number card.number

-- the packets of a share of the frames
abbrev pub share_cards : Share → Capture → List Card
share_cards s capture = filter (is_of_share s) (cards capture)

-- A feeder went through its share of so many frames, behind what all feeders had seen at each
-- place. What it appended is its own.
pub record SharePasses (script : ScriptValue) (places : ℕ) (s : Share) (frames : ℕ)
    (front now : Shares) : Type 0 where
  pub time : ℕ
  pub sharing : AreSharing places s.feeders s.number time
      (share_downs script s.feeders s.number frames) front now
  pub grows : (k : ℕ) → Grows IsFeeders (front k) (now k)

-- so many feeders fed each place, with these lines
abbrev pub AreFedByAll : ℕ → ℕ → List Down → Shares → Type 0
AreFedByAll feeders places downs shares =
    (k : ℕ) → k < places → IsFedByAll feeders downs (shares k)
