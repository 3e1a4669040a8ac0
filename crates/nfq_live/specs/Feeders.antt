-- Several feeders: their passes are split off the first one's, each feeds its share, and the passes
-- are joined again.
use Rattle.std.specs.Prelude.{◌≡◌, ◌<◌, ◌+◌, ◌++◌, ◌∷◌, ℕ, false, List, [], length, map, sum_by}
use Rattle.packet_entry.specs.declared.packet.Card.{Card}
use Rattle.pcap_io.specs.declared.capture.Capture.{Capture}
use Rattle.inspector_script.specs.Scripts.{ScriptValue}
use Rattle.run_parts.specs.Entering.{cards}
use Rattle.run_parts.specs.Feeder.{downs_after, downs_in_effect}
use Rattle.turn_lock.specs.Parts.{Empty}
use Rattle.place_rows.specs.Joining.{together_at}
use Rattle.place_rows.specs.Rows.{Known}
use Rattle.plane.specs.declared.plane.Plane.{Plane}
use Rattle.plane.specs.Passes.{FeederView, IsFeederOf}
use Rattle.plane.specs.Planes.{places_of}
use Rattle.live_runs.specs.Owners.{IsFeeders, IsFeeding}
use Rattle.live_runs.specs.Seen.{Grows, Shares, all_theirs, entries}
use Rattle.live_passes.specs.Numbered.{StaysFeeder}
use Rattle.shared_feeding.specs.Joining.{IsJoinedOf}
use Rattle.shared_feeding.specs.Sights.{front_time}
use Rattle.feeder_set.specs.declared.share.Share.{Share}
use Rattle.live_work.specs.declared.feeding.Feeding.{Feeding}
use Rattle.live_work.specs.Feeding.{HasFed, IsFeedingOf, shares_in}
use Rattle.live_work.specs.Sharing.{AreFedByAll}

-- the share of one of so many feeders
abbrev pub share_of : ℕ → ℕ → Share
share_of feeders number = record { number = number; feeders = feeders }

-- ---- passes that were split off

-- what the feeders beside the first know
abbrev pub rows_of : List Feeding → List (List Known)
rows_of helpers = map (λ (h : Feeding). h.pass.trail.known) helpers

-- a feeder that has fed nothing yet
pub record IsFresh (plane : Plane) (h : Feeding) : Type 0 where
  pub of : IsFeederOf plane h.pass
  pub looks : IsFeedingOf plane h
  pub none : h.pass.fed ≡ []

-- And its pass has seen what the first one's had, with nothing of its own.
pub record IsHelper (plane : Plane) (front : Shares) (h : Feeding) : Type 0 where
  pub fresh : IsFresh plane h
  pub seen : (k : ℕ) → shares_in h.pass k ≡ all_theirs (entries (front k))

-- the first feeder and these have together the parts of the locks that the first had alone
abbrev pub HaveItsParts : FeederView → List Feeding → FeederView → Type 0
HaveItsParts first helpers alone =
    (k : ℕ) (rows : List (List Known)) →
    together_at k Empty (first.trail.known ∷ (rows_of helpers ++ rows))
    ≡ together_at k Empty (alone.trail.known ∷ rows)

-- ---- shares that are fed

-- the feeders from this number on fed their shares
abbrev pub AllFeed : ScriptValue → Capture → Plane → ℕ → ℕ → List Feeding → List Feeding → Type 0
AllFeed script capture plane feeders number [] [] = Unit {0}
AllFeed script capture plane feeders number [] (n ∷ news) = ⊥
AllFeed script capture plane feeders number (o ∷ olds) [] = ⊥
AllFeed script capture plane feeders number (o ∷ olds) (n ∷ news) =
    HasFed script capture plane (share_of feeders number) o n
    × AllFeed script capture plane feeders (number + 1) olds news

-- ---- passes that are joined

-- at each place these were joined into the first one's, one after the other
abbrev pub AllJoin : Shares → List Feeding → Shares → Type 0
AllJoin first [] all = (k : ℕ) → all k ≡ first k
AllJoin first (h ∷ helpers) all =
    (mid : Shares) × (((k : ℕ) → IsJoinedOf (first k) (shares_in h.pass k) (mid k))
    × AllJoin mid helpers all)

-- what they fed
abbrev pub fed_by : List Feeding → List Card
fed_by [] = []
fed_by (h ∷ helpers) = h.pass.fed ++ fed_by helpers

-- ---- what all did

-- the same packets, each as often, in whatever order
abbrev pub AreTheSame : List Card → List Card → Type 0
AreTheSame one two = (f : Card → ℕ) → sum_by f one ≡ sum_by f two

-- So many feeders fed all frames of a capture: wherever the lines before the first frame had taken
-- effect, the places were fed by all of them. What they appended is theirs.
pub record HaveAllFed (feeders : ℕ) (script : ScriptValue) (capture : Capture) (places : ℕ)
    (old new : FeederView) : Type 0 where
  pub on : ((k : ℕ) → k < places →
      IsFeeding front_time (downs_after script 0) (shares_in old k)) →
      AreFedByAll feeders places (downs_in_effect script (length capture.frames)) (shares_in new)
  pub grows : (k : ℕ) → Grows IsFeeders (shares_in old k) (shares_in new k)
  pub cards : AreTheSame new.fed (cards capture)

-- The first feeder's pass has taken the others' in again: it has its parts of the locks. All fed,
-- or failed for want of memory.
pub record HaveFedAll (feeders : ℕ) (script : ScriptValue) (capture : Capture) (plane : Plane)
    (old new : Feeding) : Type 0 where
  pub stays : StaysFeeder plane old.pass new.pass
  pub looks : IsFeedingOf plane new
  pub on : new.failed ≡ false →
      HaveAllFed feeders script capture (places_of plane) old.pass new.pass
