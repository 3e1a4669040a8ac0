-- Where the payloads of fate lines come from.
use Rattle.std.proofs.Common.{◌≡◌, ◌≤◌, ℕ, List, [], ◌∷◌, length, Option, Some, None, Bool, true}
use Rattle.std.proofs.Common.{refl}
use Rattle.std.specs.Prelude.{All, IfSome}
use Rattle.std.specs.List.{AllByRecursion}
use Rattle.std.proofs.lemmas.List.Elements.{recursion_from_All, All-from_recursion}
use Rattle.packet_entry.specs.declared.packet.Card.{Card}
use Rattle.packet_entry.specs.Card.{edited}
use Rattle.packet_entry.specs.Numbers.{longest_payload}
use Rattle.hook_chain.specs.Rules.{RuleTables}
use Rattle.nfqa_msgs.specs.declared.request.Request.{Request}
use Rattle.nfqa_msgs.specs.RequestReading.{PayloadFits}
use Rattle.queue_core.specs.declared.event.Event.{Event}
use Rattle.queue_core.specs.declared.event.Event.TheVariants.{Arrive, Ask, PortClosed, DeviceDown}
use Rattle.histories.specs.declared.entry.Entry.{Entry}
use Rattle.histories.specs.declared.histories.Lost.{Lost}
use Rattle.histories.specs.Journeys.{AreSound}
use Rattle.fate_ledger.specs.declared.happening.Happening.{Happening}
use Rattle.fate_ledger.specs.Fates.{happenings}
use Rattle.histories.specs.Lengths.{AreShort}
use Rattle.fate_ledger.specs.Origins.{IsKept, Asks, AllAsk}
use Rattle.fate_ledger.proofs.Origins.{Holds, all_hold, happenings_right}

-- an entry whose request has a short payload, where it is one
abbrev AsksShort : Entry → Type 0
AsksShort e =
    (port call : ℕ) (request : Request) → e.event ≡ Ask port call request → PayloadFits request

abbrev IsShort : List ℕ → Type 0
IsShort bytes = length bytes ≤ longest_payload

ask_short : (event : Event) →
    ((port call : ℕ) (request : Request) → event ≡ Ask port call request → PayloadFits request) →
    Asks IsShort event
ask_short (Arrive card bypass room) short = tt
ask_short (Ask port call request) short = short port call request refl
ask_short (PortClosed port) short = tt
ask_short (DeviceDown device) short = tt

asks_short : (es : List Entry) → AllByRecursion AsksShort es → AllAsk IsShort es
asks_short [] short = tt
asks_short (e ∷ es) short = (ask_short e.event short.0, asks_short es short.1)

module _ (test : ℕ → List ℕ → Bool)
    (given : (number : ℕ) (bytes : List ℕ) → length bytes ≤ longest_payload →
    test number bytes ≡ true) where
  -- a test of a packet's number and bytes is kept, where each short payload passes it
  abbrev by_bytes : Card → Bool
  by_bytes c = test c.number c.bytes

  pub bytes_kept : IsKept by_bytes IsShort
  bytes_kept = record { edits = edits; moves = λ c visit table. refl }
    where
      edits : (c : Card) (mark : Option ℕ) (payload : Option (List ℕ)) (priority : Option ℕ) →
          by_bytes c ≡ true → IfSome payload IsShort →
          by_bytes (edited c mark payload priority) ≡ true
      edits c mark None priority h fits = h
      edits c mark (Some bytes) priority h fits = given c.number bytes fits

  abbrev pub PassedBy : Happening → Type 0
  PassedBy h = test h.card.number h.card.bytes ≡ true

  module _ (tables : RuleTables) (key : ℕ) (entered : List Card) (es : List Entry)
      (lost : List Lost) (all : All (λ (c : Card). test c.number c.bytes ≡ true) entered)
      (short : AreShort es) (sound : AreSound tables key entered es lost) where
    pub each_right : AllByRecursion PassedBy (happenings es)
    each_right =
        happenings_right by_bytes IsShort bytes_kept [] es tt
        (all_hold by_bytes IsShort bytes_kept tables key entered es lost
        (recursion_from_All (Holds by_bytes IsShort bytes_kept) entered all)
        (asks_short es (recursion_from_All AsksShort es short)) sound)

    pub stays_so : All (λ (h : Happening). test h.card.number h.card.bytes ≡ true)
        (happenings es)
    stays_so = All-from_recursion PassedBy (happenings es) each_right
