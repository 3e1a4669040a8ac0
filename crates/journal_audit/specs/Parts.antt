-- The parts of being made by a script, in their order, and the first of them that doesn't hold of
-- histories. There is one feeder, no pool, and in the end no notice is left in a mailbox.
use Rattle.std.specs.Prelude.{◌≡◌, ◌<◌, ℕ, List, [], ◌∷◌, Option, Some, None, IfSome, slice_get}
use Rattle.histories.specs.declared.histories.Histories.{Histories}
use Rattle.inspector_script.specs.Scripts.{ScriptValue}
use Rattle.run_parts.specs.Log.{Note}
use Rattle.run_parts.specs.Run.{RequestsHold, NoticesHold, ClosingHolds, FeederHolds}
use Rattle.run_parts.specs.Run.{PortsHold, OrderHolds, RoomHolds, IsMadeBy}
use Rattle.port_audit.specs.Makers.{HaveLogs, none_left}
use Rattle.journal_audit.specs.declared.part.Part.{Part}
use Rattle.journal_audit.specs.declared.part.Part.TheVariants.{Logs, Requests, Notices, Closings}
use Rattle.journal_audit.specs.declared.part.Part.TheVariants.{Feeder, Ports, Order, Room}

-- ---- the parts

abbrev pub every_part : List Part
every_part =
    Logs ∷ Requests ∷ Notices ∷ Closings ∷ Feeder ∷ Ports ∷ Order ∷ Room ∷ []

-- a part holds of histories over so many frames, with what each port did told in full
abbrev pub Holds : ScriptValue → ℕ → Histories → (ℕ → List Note) → Part → Type 0
Holds script frames h notes Logs = HaveLogs script h notes
Holds script frames h notes Requests = RequestsHold script h notes
Holds script frames h notes Notices = NoticesHold script h notes none_left
Holds script frames h notes Closings = ClosingHolds script h notes
Holds script frames h notes Feeder = FeederHolds 1 script frames h
Holds script frames h notes Ports = PortsHold script h
Holds script frames h notes Order = OrderHolds 1 script h notes
Holds script frames h notes Room = RoomHolds script h notes none_left

-- ---- the first that doesn't hold

-- each part before this place holds
abbrev pub HoldUpTo : ScriptValue → ℕ → Histories → (ℕ → List Note) → ℕ → Type 0
HoldUpTo script frames h notes place =
    (k : ℕ) → k < place → IfSome (slice_get every_part k) (Holds script frames h notes)

-- each part before this one holds
pub record HoldBefore (script : ScriptValue) (frames : ℕ) (h : Histories)
    (notes : ℕ → List Note) (part : Part) : Type 0 where
  pub place : ℕ
  pub is : slice_get every_part place ≡ Some part
  pub hold : HoldUpTo script frames h notes place

-- The parts before this one hold, and however it is told what each port did, so that they hold,
-- this one doesn't.
pub record IsFirstWrong (script : ScriptValue) (frames : ℕ) (h : Histories) (part : Part)
    : Type 0 where
  pub notes : ℕ → List Note
  pub before : HoldBefore script frames h notes part
  pub fails : (ns : ℕ → List Note) → HoldBefore script frames h ns part →
      Holds script frames h ns part → ⊥

-- nothing, where the histories were made by the script; and else the first part that doesn't hold
abbrev pub IsMakersAnswer : ScriptValue → ℕ → Histories → Option Part → Type 0
IsMakersAnswer script frames h None =
    (notes : ℕ → List Note) × IsMadeBy 1 1 script frames h notes none_left
IsMakersAnswer script frames h (Some part) = IsFirstWrong script frames h part
