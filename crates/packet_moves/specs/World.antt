-- A plane between its calls: what happened at its queues, what its ports did and have to receive,
-- which packets were fed to it and which were lost.
use Rattle.std.specs.Prelude.{ℕ, List, [], ◌∷◌, ◌++◌, Option, Some, None, Bool, true, false}
use Rattle.std.specs.Prelude.{option_map}
use Rattle.std.specs.Prelude.{if◌then◌else◌, ◌==◌}
use Rattle.packet_entry.specs.declared.packet.Card.{Card}
use Rattle.packet_entry.specs.declared.letter.Letter.{Letter}
use Rattle.histories.specs.declared.entry.Entry.{Entry}
use Rattle.histories.specs.declared.histories.Lost.{Lost}
use Rattle.histories.specs.declared.log.Did.{Did}
use Rattle.histories.specs.declared.log.Did.TheVariants.{Received, Closed}

-- a port: the notices in its mailbox, oldest first, and what it did
pub record Port : Type 0 where
  pub letters : List Letter
  pub dids : List Did
  pub is_closed : Bool

pub record World : Type 0 where
  -- the entries of all queues, in one order; each queue is the replay of its own
  pub entries : List Entry
  -- each port by its number
  pub ports : ℕ → Option Port
  -- the packets that were fed
  pub fed : List Card
  -- and those that were lost between two queues
  pub lost : List Lost

-- a port that did nothing yet
abbrev pub opened : Port
opened = record { letters = []; dids = []; is_closed = false }

-- ---- what happens to one port

-- something happens to the port with this number
abbrev pub changed_at : ℕ → (Port → Port) → (ℕ → Option Port) → ℕ → Option Port
changed_at port f ports p = if p == port then option_map f (ports p) else ports p

abbrev pub at_port : ℕ → (Port → Port) → World → World
at_port port f w = record w { ports = changed_at port f w.ports }

-- a notice comes, last in the mailbox
abbrev pub delivered : Letter → Port → Port
delivered letter p = record p { letters = p.letters ++ letter ∷ [] }

-- it did this
abbrev pub having_done : Did → Port → Port
having_done did p = record p { dids = p.dids ++ did ∷ [] }

-- the first notice is received, where there is one
abbrev pub received_from : List Letter → Port → Port
received_from [] p = p
received_from (letter ∷ letters) p = record p {
  letters = letters;
  dids = p.dids ++ Received letter.queue letter.number letter.visit ∷ [];
}

abbrev pub received : Port → Port
received p = received_from p.letters p

-- the first notice
abbrev pub first_of : List Letter → Option Letter
first_of [] = None
first_of (letter ∷ letters) = Some letter

-- it closes
abbrev pub closed : Port → Port
closed p = record p { dids = p.dids ++ Closed ∷ []; is_closed = true }

-- ---- which ports are open

-- for each number whether it is closed, where it is a port's
abbrev pub closed_ports : World → ℕ → Option Bool
closed_ports w p = option_map (λ (port : Port). port.is_closed) (w.ports p)
