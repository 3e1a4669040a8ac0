-- Histories written out by hand: one that has an order of all events, and five that have none.
use Rattle.std.specs.Prelude.{ℕ, ◌+◌, ◌*◌, List, [], ◌∷◌, Some, None, true, false}
use Rattle.packet_entry.specs.declared.packet.Card.{Card}
use Rattle.nfqa_msgs.specs.declared.request.Request.TheVariants.{Config, Verdict}
use Rattle.nfqa_msgs.specs.Numbers.{command_bind, copy_packet}
use Rattle.queue_core.specs.Numbers.{verdict_drop, verdict_queue, queue_number_place}
use Rattle.queue_core.specs.declared.offers.Outcome.TheVariants.{Taken}
use Rattle.queue_core.specs.declared.event.Event.TheVariants.{Arrive, Ask, PortClosed}
use Rattle.queue_core.specs.declared.event.Reply.TheVariants.{Arrived, Answer, Flushed}
use Rattle.histories.specs.declared.entry.Entry.{Entry}
use Rattle.histories.specs.declared.log.AskWords.TheVariants.{Raw}
use Rattle.histories.specs.declared.log.Did.{Did}
use Rattle.histories.specs.declared.log.Did.TheVariants.{Received, Sent, Closed}
use Rattle.histories.specs.declared.log.PortLog.{PortLog}
use Rattle.histories.specs.declared.histories.Histories.{Histories}

-- ---- entries and logs

-- the packet with this number, as it is queued for the first time, or later
abbrev pub packet : ℕ → ℕ → Card
packet number visit =
    record {
      number = number;
      visit = visit;
      table = 1;
      mark = 0;
      priority = 0;
      seconds = number;
      micros = 0;
      protocol = 2048;
      link = [];
      bytes = 69 ∷ [];
    }

-- a port binds a queue, and asks for so many bytes of each packet
abbrev pub binds : ℕ → ℕ → ℕ → ℕ → Entry
binds port call queue range =
    record {
      queue = queue;
      event = Ask port call (Config queue (Some command_bind)
          (Some (record { range = range; mode = copy_packet })) None None None);
      reply = Answer 0 0;
    }

-- a port asks for whole packets
abbrev pub asks_for_all : ℕ → ℕ → ℕ → Entry
asks_for_all port call queue =
    record {
      queue = queue;
      event = Ask port call (Config queue None
          (Some (record { range = 0; mode = copy_packet })) None None None);
      reply = Answer 0 0;
    }

-- a packet arrives, and waits under an id
abbrev pub waits : ℕ → ℕ → ℕ → ℕ → Entry
waits queue number visit id =
    record {
      queue = queue;
      event = Arrive (packet number visit) false true;
      reply = Arrived (Taken id);
    }

-- a port gives a verdict on the packet that waits under an id
abbrev pub decides : ℕ → ℕ → ℕ → ℕ → ℕ → Entry
decides port call queue id verdict =
    record {
      queue = queue;
      event = Ask port call (Verdict queue
          (Some (record { verdict = verdict; id = id })) None None None);
      reply = Answer 0 1;
    }

-- the verdict that sends a packet on to the queue with this number
abbrev pub to_queue : ℕ → ℕ
to_queue queue = queue * queue_number_place + verdict_queue

-- a queue ends as its port closes
abbrev pub ends : ℕ → ℕ → Entry
ends port queue = record { queue = queue; event = PortClosed port; reply = Flushed 0 }

abbrev pub sent : ℕ → Did
sent call = Sent call (Raw []) None

abbrev pub histories_of : List Entry → List PortLog → Histories
histories_of es logs = record { entries = es; logs = logs; lost = [] }

-- ---- an answer before the packet that it answers

-- Port 7 opens queue 0 for four bytes of each packet. Then it is told of packets 1 to 3, one after
-- the other, asks in answer to each for whole packets, and drops it.
abbrev pub answers : List PortLog
answers =
    record {
      port = 7;
      dids = sent 1
          ∷ Received 0 1 1 ∷ sent 2 ∷ sent 3
          ∷ Received 0 2 1 ∷ sent 4 ∷ sent 5
          ∷ Received 0 3 1 ∷ sent 6 ∷ sent 7 ∷ [];
    } ∷ []

-- after its first answer
abbrev pub after_one : List Entry
after_one =
    decides 7 3 0 1 verdict_drop
    ∷ waits 0 2 1 2 ∷ asks_for_all 7 4 0 ∷ decides 7 5 0 2 verdict_drop
    ∷ waits 0 3 1 3 ∷ asks_for_all 7 6 0 ∷ decides 7 7 0 3 verdict_drop ∷ []

abbrev pub answered_after : Histories
answered_after =
    histories_of (binds 7 1 0 4 ∷ waits 0 1 1 1 ∷ asks_for_all 7 2 0 ∷ after_one) answers

-- The answer to packet 1 comes before packet 1. So each packet is told as a whole, and a script may
-- drop it for what four bytes don't show.
abbrev pub answered_before : Histories
answered_before =
    histories_of (binds 7 1 0 4 ∷ asks_for_all 7 2 0 ∷ waits 0 1 1 1 ∷ after_one) answers

-- ---- two queues, of which each waits for the other

-- Port 7 at queue 1 sends packet 1 on to queue 2, and port 8 at queue 2 packet 2 to queue 1. Each
-- packet's second visit comes before the verdict that sends the other packet on.
abbrev pub crossing : Histories
crossing =
    histories_of
    (binds 7 1 1 0 ∷ waits 1 1 1 1 ∷ waits 1 2 2 2 ∷ decides 7 2 1 1 (to_queue 2)
    ∷ binds 8 1 2 0 ∷ waits 2 2 1 1 ∷ waits 2 1 2 2 ∷ decides 8 2 2 1 (to_queue 1) ∷ [])
    (record { port = 7; dids = sent 1 ∷ Received 1 1 1 ∷ sent 2 ∷ Received 1 2 2 ∷ [] }
    ∷ record { port = 8; dids = sent 1 ∷ Received 2 2 1 ∷ sent 2 ∷ Received 2 1 2 ∷ [] } ∷ [])

-- ---- two ports, whose requests cross in two queues

-- Port 7 asks of queue 0, then of queue 1; port 8 of queue 1, then of queue 0. In each queue the
-- second message of the one port comes before the first of the other.
abbrev pub crossing_requests : Histories
crossing_requests =
    histories_of
    (asks_for_all 8 2 0 ∷ asks_for_all 7 1 0 ∷ asks_for_all 7 2 1 ∷ asks_for_all 8 1 1 ∷ [])
    (record { port = 7; dids = sent 1 ∷ sent 2 ∷ [] }
    ∷ record { port = 8; dids = sent 1 ∷ sent 2 ∷ [] } ∷ [])

-- ---- a port that closes

-- Its queue ends before a packet arrives whose notice the port received.
abbrev pub closed_before : Histories
closed_before =
    histories_of (binds 7 1 0 0 ∷ ends 7 0 ∷ waits 0 1 1 1 ∷ [])
    (record { port = 7; dids = sent 1 ∷ Received 0 1 1 ∷ Closed ∷ [] } ∷ [])

-- It asks after its queue ended.
abbrev pub asked_after : Histories
asked_after =
    histories_of (ends 7 0 ∷ asks_for_all 7 1 0 ∷ [])
    (record { port = 7; dids = sent 1 ∷ Closed ∷ [] } ∷ [])
