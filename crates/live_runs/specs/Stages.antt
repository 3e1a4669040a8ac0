-- The stages of a run. All passes meet between two of them; what lies between the two lists that
-- they have seen at a place then is a segment.
use Rattle.std.specs.Prelude.{◌≡◌, ◌≤◌, ◌<◌, ℕ, suc, Bool, true, List, [], ◌∷◌, ◌++◌, length}
use Rattle.nfqa_msgs.specs.declared.request.Request.{Request}
use Rattle.queue_core.specs.declared.event.Event.{Event}
use Rattle.queue_core.specs.declared.event.Event.TheVariants.{Arrive, Ask, PortClosed, DeviceDown}
use Rattle.histories.specs.declared.entry.Entry.{Entry}
use Rattle.histories.specs.History.{history}
use Rattle.histories.specs.Numbers.{queue_count}
use Rattle.histories.specs.Places.{place_for}
use Rattle.inspector_script.specs.Scripts.{ScriptValue}
use Rattle.run_parts.specs.Log.{Note, standing}
use Rattle.run_parts.specs.Order.{Kind, Answers, early_by, late_by, late_asked, kinds_from}
use Rattle.run_parts.specs.Order.{kinds_told}
use Rattle.run_parts.specs.Ports.{place_in}
use Rattle.run_parts.specs.Underway.{IsNow, Ordered}
use Rattle.live_runs.specs.Seen.{Seen, Shares, entries, Grows}
use Rattle.live_runs.specs.Owners.{IsOf, IsFeeders}
use Rattle.live_runs.specs.Stands.{Side, Now, AtEnd}

-- the port at a place opens; the workers are at work, or mailboxes are emptied; or the port at a
-- place ends
pub data Stage : Type 0 where
  Opening : ℕ → Stage
  Working : Stage
  Ending : ℕ → Stage

-- the ranks of a stage among openings, and among ends
abbrev pub early_of : List ℕ → Stage → ℕ
early_of ports (Opening place) = place
early_of ports Working = length ports
early_of ports (Ending place) = length ports

abbrev pub late_of : Stage → ℕ
late_of (Opening place) = 0
late_of Working = 0
late_of (Ending place) = suc place

-- one stage comes after another, or is the same
abbrev pub Follows : List ℕ → Stage → Stage → Type 0
Follows ports old new = (early_of ports old ≤ early_of ports new) × (late_of old ≤ late_of new)

-- where a port may send a message: of its opening, while it opens; in answer, from then on; and of
-- its end, while it ends
abbrev pub MaySpeak : List ℕ → ℕ → Stage → Side → Type 0
MaySpeak ports port (Opening place) (Now groups ends) = place ≡ place_in port ports
MaySpeak ports port (Opening place) (AtEnd groups) = ⊥
MaySpeak ports port Working (Now groups ends) = Unit {0}
MaySpeak ports port Working (AtEnd groups) = ⊥
MaySpeak ports port (Ending place) (Now groups ends) = Unit {0}
MaySpeak ports port (Ending place) (AtEnd groups) = place ≡ place_in port ports

-- ---- entries and kinds of a stage

-- a request of this kind of the port has these ranks
abbrev pub IsRanked : List ℕ → ℕ → ℕ → ℕ → Kind → Type 0
IsRanked ports early late port kind =
    ((call : ℕ) (r : Request) → early_by ports kind (Ask port call r) ≡ early)
    × IsNow late (late_asked ports port kind)

abbrev pub AreRanked : List ℕ → ℕ → ℕ → ℕ → List Kind → Type 0
AreRanked ports early late port [] = Unit {0}
AreRanked ports early late port (k ∷ ks) =
    IsRanked ports early late port k × AreRanked ports early late port ks

-- From these notes on the port did more, and each request among that is of the stage.
pub record Adds (workers : ℕ) (script : ScriptValue) (early late port : ℕ) (was now : List Note)
    : Type 0 where
  pub more : List Note
  pub is : now ≡ was ++ more
  pub kinds : (queue : ℕ) → AreRanked script.ports early late port
      (kinds_from workers script (place_in port script.ports) queue port
      (standing workers script (place_in port script.ports) port was) more)

-- an entry that is no request has these ranks; of a request its kind tells them
abbrev pub IsPlainEvent : List ℕ → ℕ → ℕ → Event → Type 0
IsPlainEvent ports early late (Arrive card bypass room) =
    (length ports ≡ early) × IsNow late (late_by ports Answers (Arrive card bypass room))
IsPlainEvent ports early late (Ask port call r) = Unit {0}
IsPlainEvent ports early late (PortClosed port) =
    (length ports ≡ early) × IsNow late (late_by ports Answers (PortClosed port))
IsPlainEvent ports early late (DeviceDown device) =
    (length ports ≡ early) × IsNow late (late_by ports Answers (DeviceDown device))

abbrev pub IsPlain : List ℕ → ℕ → ℕ → Entry → Type 0
IsPlain ports early late e = IsPlainEvent ports early late e.event

-- ---- what passes do in a stage

-- a port's pass in a stage behind the openings: what it did, and what it appended
pub record Went (workers : ℕ) (script : ScriptValue) (stage : Stage) (port : ℕ)
    (was now : List Note) (old new : Shares) : Type 0 where
  pub adds : Adds workers script (early_of script.ports stage) (late_of stage) port was now
  pub grows : (k : ℕ) → Grows
      (λ e. IsOf port e × IsPlain script.ports (early_of script.ports stage) (late_of stage) e)
      (old k) (new k)

-- and the feeder's
pub record WentFeeding (script : ScriptValue) (stage : Stage) (old new : Shares) : Type 0 where
  pub grows : (k : ℕ) → Grows
      (λ e. IsFeeders e × IsPlain script.ports (early_of script.ports stage) (late_of stage) e)
      (old k) (new k)

-- ---- segments

-- From one meeting to the next each pass has seen more, and all have seen the same more.
pub record IsSegment (count : ℕ → Bool) (old new : ℕ → List Seen) (before segment : List Entry)
    : Type 0 where
  pub more : ℕ → List Seen
  pub is : (p : ℕ) → count p ≡ true → new p ≡ old p ++ more p
  pub was : (p : ℕ) → count p ≡ true → entries (old p) ≡ before
  pub now : (p : ℕ) → count p ≡ true → entries (more p) ≡ segment

-- ---- order

-- The lists of the places are in order up to these ranks: so it is of each queue, in its place's
-- list.
pub record InOrder (workers : ℕ) (script : ScriptValue) (places early late : ℕ)
    (whole : ℕ → List Entry) (notes : ℕ → List Note) : Type 0 where
  pub each : (queue : ℕ) → queue < queue_count →
      Ordered script.ports early late (λ p. kinds_told workers script queue p (notes p))
      (history queue (whole (place_for queue places)))
