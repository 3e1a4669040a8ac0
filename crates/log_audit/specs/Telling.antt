-- What a port did, told in full beside its log.
use Rattle.std.specs.Prelude.{◌≡◌, ℕ, List, [], ◌∷◌, map, flat_map, Option, Some, unwrap_or}
use Rattle.std.specs.Prelude.{option_map}
use Rattle.std.specs.List.{AllByRecursion}
use Rattle.packet_entry.specs.declared.letter.Letter.{Letter}
use Rattle.netlink_codec.specs.Messages.{NetlinkMessage, first_message}
use Rattle.histories.specs.declared.log.Did.{Did}
use Rattle.inspector_script.specs.Scripts.{ScriptValue}
use Rattle.run_parts.specs.Datagrams.{AsksWell}
use Rattle.run_parts.specs.Log.{Note, Got, Turned, Begun, Spoke, Shut, IsLog}
use Rattle.run_parts.specs.Notices.{heard}
use Rattle.run_parts.specs.Requests.{answer_in}
use Rattle.log_audit.specs.Walking.{Known}

-- the notice is the one that is known of its packet's visit
abbrev pub IsKnown : Known → Letter → Type 0
IsKnown known l = known l.queue l.number l.visit ≡ Some l

abbrev pub AreKnown : Known → List Note → Type 0
AreKnown known notes = AllByRecursion (IsKnown known) (heard notes)

-- a notice is known by its own queue, number and visit
abbrev pub IsKeyed : Known → Type 0
IsKeyed known = (queue number visit : ℕ) (l : Letter) → known queue number visit ≡ Some l →
    (l.queue ≡ queue) × (l.number ≡ number) × (l.visit ≡ visit)

-- a message's own bytes begin with it
abbrev pub IsOwn : NetlinkMessage → Type 0
IsOwn m = option_map (λ (f : NetlinkMessage × ℕ). f.0) (first_message m.whole) ≡ Some m

-- and it asks for no payload that is too long
pub record IsMessage (m : NetlinkMessage) : Type 0 where
  pub own : IsOwn m
  pub asks : AsksWell m

abbrev pub IsWell : Note → Type 0
IsWell (Got l) = Unit {0}
IsWell Turned = Unit {0}
IsWell Begun = Unit {0}
IsWell (Spoke call m errno) = IsMessage m
IsWell Shut = Unit {0}

-- the errno that an answer tells; no answer tells 0
abbrev pub told_errno : Option ℕ → ℕ
told_errno answer = unwrap_or answer 0

abbrev pub errno_of : Note → List ℕ
errno_of (Got l) = []
errno_of Turned = []
errno_of Begun = []
errno_of (Spoke call m errno) = errno ∷ []
errno_of Shut = []

-- A log, told in full: by notices that are known, by messages, and with the errnos that its answers
-- tell.
pub record IsToldBy (known : Known) (script : ScriptValue) (place port : ℕ) (dids : List Did)
    (notes : List Note) : Type 0 where
  pub log : IsLog 1 script place port notes dids
  pub letters : AreKnown known notes
  pub messages : AllByRecursion IsWell notes
  pub errnos : flat_map errno_of notes ≡ map told_errno (flat_map answer_in dids)
