-- A history written out by hand, to read the definitions against.
use Rattle.std.specs.Prelude.{ℕ, List, [], ◌∷◌, ◌++◌, Some, None, true, false}
use Rattle.packet_entry.specs.declared.packet.Card.{Card}
use Rattle.hook_chain.specs.Rules.{RuleTables, with_one_feeder}
use Rattle.hook_chain.specs.declared.rule.Pick.TheVariants.{Number}
use Rattle.nfqa_msgs.specs.declared.request.Request.TheVariants.{Config, Verdict, Batch}
use Rattle.queue_core.specs.declared.offers.Outcome.TheVariants.{Taken}
use Rattle.queue_core.specs.declared.event.Event.{Event}
use Rattle.queue_core.specs.declared.event.Event.TheVariants.{Arrive, Ask, PortClosed, DeviceDown}
use Rattle.queue_core.specs.declared.event.Reply.{Reply}
use Rattle.queue_core.specs.declared.event.Reply.TheVariants.{Arrived, Answer, Flushed}
use Rattle.histories.specs.declared.entry.Entry.{Entry}

-- the packet with this number, as the first table queues it
abbrev pub packet : ℕ → Card
packet number =
    record {
      number = number;
      visit = 1;
      table = 1;
      mark = 0;
      priority = 0;
      seconds = number;
      micros = 0;
      protocol = 2048;
      link = [];
      bytes = 69 ∷ [];
    }

-- an entry of queue 0
abbrev pub at_0 : Event → Reply → Entry
at_0 event reply = record { queue = 0; event = event; reply = reply }

-- the packet with this number arrives, and waits under this id
abbrev pub waits : ℕ → ℕ → Entry
waits number id = at_0 (Arrive (packet number) false true) (Arrived (Taken id))

-- Port 7 binds queue 0 and asks for whole packets. A packet arrives and is accepted, with this
-- reply; a second and a third arrive, a device that isn't theirs goes down, port 8 asks for all
-- that wait, and port 7 closes.
abbrev pub told : Reply → List Entry
told verdict_reply =
    at_0 (Ask 7 1 (Config 0 (Some 1) None None None None)) (Answer 0 0)
    ∷ at_0 (Ask 7 2 (Config 0 None (Some (record { range = 0; mode = 2 })) None None None))
    (Answer 0 0)
    ∷ waits 1 1
    ∷ at_0 (Ask 7 3 (Verdict 0 (Some (record { verdict = 1; id = 1 })) None None None))
    verdict_reply
    ∷ waits 2 2
    ∷ waits 3 3
    ∷ at_0 (DeviceDown 3) (Flushed 0)
    ∷ at_0 (Ask 8 1 (Batch 0 (Some (record { verdict = 1; id = 3 })) None None)) (Answer 1 0)
    ∷ at_0 (PortClosed 7) (Flushed 2) ∷ []

-- as the queue answers
abbrev pub legal_history : List Entry
legal_history = told (Answer 0 1)

-- with a verdict of which no packet is said to have left
abbrev pub altered_history : List Entry
altered_history = told (Answer 0 0)

-- ---- the same as journeys

-- one table with one rule, which queues every packet at queue 0
abbrev pub one_rule : RuleTables
one_rule =
    with_one_feeder
    ((record { protocol = None; mark = None; pick = Number 0; bypass = false; fanout = false }
    ∷ []) ∷ [])

-- the packet with this number before it meets a table
abbrev pub entering_packet : ℕ → Card
entering_packet number = record (packet number) { visit = 0; table = 0 }

abbrev pub three_packets : List Card
three_packets = entering_packet 1 ∷ entering_packet 2 ∷ entering_packet 3 ∷ []

-- a fourth one that never arrived
abbrev pub four_packets : List Card
four_packets = three_packets ++ entering_packet 4 ∷ []
