-- The logs of a script's ports, judged.
use Rattle.std.specs.Prelude.{◌≡◌, ℕ, List, [], ◌∷◌, map, Option, Some, None, true}
use Rattle.std.specs.Prelude.{◌==◌, flat_map, if◌then◌else◌}
use Rattle.packet_entry.specs.declared.letter.Letter.{Letter}
use Rattle.histories.specs.declared.entry.Entry.{Entry}
use Rattle.histories.specs.declared.histories.Histories.{Histories}
use Rattle.histories.specs.declared.log.Did.{Did}
use Rattle.inspector_script.specs.Scripts.{ScriptValue}
use Rattle.run_parts.specs.Log.{Note}
use Rattle.run_parts.specs.Order.{kinds_told}
use Rattle.run_parts.specs.Ports.{is_port, log_of, place_in}
use Rattle.port_audit.specs.declared.dealing.MessageKind.{MessageKind}
use Rattle.port_audit.specs.Dealing.{RowMap, AreKept, row_at, side}
use Rattle.port_audit.specs.Kinds.{AreKinds, kinds_in}
use Rattle.port_audit.specs.Makers.{HaveLogs, IsTaken}
use Rattle.port_audit.specs.Noticing.{IsOnlyOne}
use Rattle.port_audit.specs.Pleading.{AreToldByWords, HaveErrnos}
use Rattle.log_audit.specs.Walking.{IsWalked, Known, kinds_at}
use Rattle.log_audit.specs.PortWalks.{IsWalkedWith, timed_of}
use Rattle.log_audit.specs.Stays.{ArePackets, known_in}
use Rattle.log_audit.specs.declared.judging.Judged.{Judged}
use Rattle.log_audit.specs.declared.judging.Judged.TheVariants.{Said, Amiss, Foreign}
use Rattle.log_audit.specs.declared.judging.PortKinds.{PortKinds}
use Rattle.port_audit.specs.declared.kinds.KindAt.{KindAt}

-- No packet's visit to a queue made two notices. So it is of sound histories.
abbrev pub AllOnlyOnes : List Entry → Type 0
AllOnlyOnes es = (l : Letter) → IsTaken es l → IsOnlyOne es l

-- it is told what each port did, as each message was logged and with the errnos that were answered
pub record AreTold (script : ScriptValue) (h : Histories) (notes : ℕ → List Note) : Type 0 where
  pub logs : HaveLogs script h notes
  pub words : AreToldByWords script notes
  pub errnos : HaveErrnos script h notes

-- The logs are what the script says, and the ports' requests have these kinds, however it is told
-- what the ports did.
pub record AreJudged (script : ScriptValue) (h : Histories) (rows : RowMap MessageKind)
    : Type 0 where
  pub notes : ℕ → List Note
  pub told : AreTold script h notes
  pub kinds : (ns : ℕ → List Note) → HaveLogs script h ns → AreKinds script ns rows

abbrev pub IsJudgement : ScriptValue → Histories → Judged → Type 0
IsJudgement script h (Said rows) = AreJudged script h rows
IsJudgement script h Amiss = (notes : ℕ → List Note) → HaveLogs script h notes → ⊥
IsJudgement script h Foreign = ArePackets h.entries → ⊥

-- ---- for proofs

-- the kinds of a port's requests of a queue, where it is one of these
abbrev pub kinds_dealt : List PortKinds → ℕ → ℕ → List MessageKind
kinds_dealt ks port queue =
    flat_map (λ (k : PortKinds). if port == k.port then kinds_in queue k.kinds.items else []) ks

-- the rows have the kinds of these ports' requests, and no row is empty
pub record AreDealt (ks : List PortKinds) (rows : RowMap MessageKind) : Type 0 where
  pub are : (port queue : ℕ) → row_at rows (side port queue) ≡ kinds_dealt ks port queue
  pub kept : AreKept rows

-- The requests of a port have these kinds, queue by queue.
abbrev pub HasKinds : ScriptValue → (ℕ → List Note) → PortKinds → Type 0
HasKinds script notes k = (queue : ℕ) →
    kinds_told 1 script queue k.port (notes k.port) ≡ kinds_at queue (map timed_of k.kinds.items)

abbrev pub AllHaveKinds : ScriptValue → (ℕ → List Note) → List PortKinds → Type 0
AllHaveKinds script notes [] = Unit {0}
AllHaveKinds script notes (k ∷ ks) = HasKinds script notes k × AllHaveKinds script notes ks

-- the same as `IsJudgement`, with the requests port by port
pub record AreJudgedByPort (script : ScriptValue) (h : Histories) (kinds : List PortKinds)
    : Type 0 where
  pub notes : ℕ → List Note
  pub told : AreTold script h notes
  pub ports : map (λ (k : PortKinds). k.port) kinds ≡ script.ports
  pub each : (ns : ℕ → List Note) → HaveLogs script h ns → AllHaveKinds script ns kinds

abbrev pub AreJudgedAll : ScriptValue → Histories → Option (List PortKinds) → Type 0
AreJudgedAll script h None = (notes : ℕ → List Note) → HaveLogs script h notes → ⊥
AreJudgedAll script h (Some kinds) = AreJudgedByPort script h kinds

-- the log of a port is walked, with these requests
pub record IsPortWalked (script : ScriptValue) (h : Histories) (port : ℕ) (k : PortKinds)
    : Type 0 where
  pub is : k.port ≡ port
  pub dids : List Did
  pub log : log_of port h.logs ≡ Some dids
  pub walked : IsWalkedWith (known_in h.entries) script (place_in port script.ports) port dids
      (Some k.kinds.items)

abbrev pub ArePortsWalked : ScriptValue → Histories → List ℕ → List PortKinds → Type 0
ArePortsWalked script h [] [] = Unit {0}
ArePortsWalked script h [] (k ∷ ks) = ⊥
ArePortsWalked script h (p ∷ ps) [] = ⊥
ArePortsWalked script h (p ∷ ps) (k ∷ ks) =
    IsPortWalked script h p k × ArePortsWalked script h ps ks

-- the log of a port can be walked
pub record IsWalkable (script : ScriptValue) (h : Histories) (port : ℕ) : Type 0 where
  pub dids : List Did
  pub log : log_of port h.logs ≡ Some dids
  pub walks : IsWalked (known_in h.entries) script (place_in port script.ports) port dids

abbrev pub IsWalkedAll : ScriptValue → Histories → Option (List PortKinds) → Type 0
IsWalkedAll script h None =
    ((port : ℕ) → is_port script port ≡ true → IsWalkable script h port) → ⊥
IsWalkedAll script h (Some ks) = ArePortsWalked script h script.ports ks

-- a log, if there is one, is walked with these requests; or there is none, or it can't be walked
abbrev pub IsLogWalkedWith : Known → ScriptValue → ℕ → ℕ → Option (List Did) →
    Option (List KindAt) → Type 0
IsLogWalkedWith known script place port None None = Unit {0}
IsLogWalkedWith known script place port None (Some kinds) = ⊥
IsLogWalkedWith known script place port (Some dids) kinds =
    IsWalkedWith known script place port dids kinds
