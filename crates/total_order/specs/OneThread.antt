-- One thread that takes turns, one after the other: which turn may be the next, and which entries
-- and logs come of them.
use Rattle.std.specs.Prelude.{ℕ, List, [], ◌∷◌, ◌++◌, length, nat_eq, if◌then◌else◌, Option}
use Rattle.nfqa_msgs.specs.declared.request.Request.{Request}
use Rattle.queue_core.specs.declared.event.Event.{Event}
use Rattle.queue_core.specs.declared.event.Event.TheVariants.{Arrive, Ask, PortClosed, DeviceDown}
use Rattle.queue_core.specs.declared.event.Reply.{Reply}
use Rattle.histories.specs.declared.entry.Entry.{Entry}
use Rattle.histories.specs.declared.log.AskWords.{AskWords}
use Rattle.histories.specs.declared.log.Did.{Did}
use Rattle.histories.specs.declared.log.Did.TheVariants.{Received, Sent, Closed}
use Rattle.histories.specs.History.{history}
use Rattle.total_order.specs.Steps.{Step, Has, HasCome, taken}
use Rattle.total_order.specs.TotalOrder.{entries}

-- An entry that is no request happens: a packet arrives, a device goes down, or a queue of a port
-- that has closed ends. Or a port sends a request, sends a message that asks nothing of a queue,
-- receives a notice, or closes.
pub data Turn : Type 0 where
  Happens : Entry → Turn
  Asks : (queue port call : ℕ) → Request → Reply → AskWords → Option ℕ → Turn
  Speaks : (port call : ℕ) → AskWords → Option ℕ → Turn
  Hears : (port queue number visit : ℕ) → Turn
  Closes : (port : ℕ) → Turn

-- ---- logs

-- what each port did
abbrev pub Logs : Type 0
Logs = ℕ → List Did

abbrev pub silent : Logs
silent port = []

abbrev pub and_log : ℕ → Did → Logs → Logs
and_log port did logs p = if nat_eq p port then logs p ++ did ∷ [] else logs p

-- a port with this log has closed
abbrev pub HasClosed : List Did → Type 0
HasClosed [] = ⊥
HasClosed (Received queue number visit ∷ ds) = HasClosed ds
HasClosed (Sent call words answer ∷ ds) = HasClosed ds
HasClosed (Closed ∷ ds) = Unit {0}

abbrev pub IsOpen : List Did → Type 0
IsOpen ds = HasClosed ds → ⊥

-- ---- turns

-- a request, at the end of its port's log
abbrev pub asking : ℕ → ℕ → ℕ → Request → Reply → Logs → Step
asking queue port call request reply logs =
    record {
      entry = record { queue = queue; event = Ask port call request; reply = reply };
      at = length (logs port);
    }

-- any other entry
abbrev pub happening : Entry → Step
happening e = record { entry = e; at = 0 }

-- A packet that comes again left before. A queue ends once its port has closed. A request is a turn
-- of its own.
abbrev pub MayHappen : List Step → Logs → Event → Type 0
MayHappen before logs (Arrive card bypass room) = HasCome card.number card.visit (entries before)
MayHappen before logs (Ask port call request) = ⊥
MayHappen before logs (PortClosed port) = HasClosed (logs port)
MayHappen before logs (DeviceDown device) = Unit {0}

-- Each turn may be the next: a port that has closed does nothing more, and a notice is that of a
-- packet that its queue took before.
abbrev pub Runs : List Step → Logs → List Turn → Type 0
Runs before logs [] = Unit {0}
Runs before logs (Happens e ∷ ts) =
    MayHappen before logs e.event × Runs (before ++ happening e ∷ []) logs ts
Runs before logs (Asks queue port call request reply words answer ∷ ts) =
    IsOpen (logs port)
    × Runs (before ++ asking queue port call request reply logs ∷ [])
    (and_log port (Sent call words answer) logs) ts
Runs before logs (Speaks port call words answer ∷ ts) =
    IsOpen (logs port) × Runs before (and_log port (Sent call words answer) logs) ts
Runs before logs (Hears port queue number visit ∷ ts) =
    IsOpen (logs port) × Has number visit (taken (history queue (entries before)))
    × Runs before (and_log port (Received queue number visit) logs) ts
Runs before logs (Closes port ∷ ts) =
    IsOpen (logs port) × Runs before (and_log port Closed logs) ts

-- ---- what comes of them

-- the steps
abbrev pub made : Logs → List Turn → List Step
made logs [] = []
made logs (Happens e ∷ ts) = happening e ∷ made logs ts
made logs (Asks queue port call request reply words answer ∷ ts) =
    asking queue port call request reply logs
    ∷ made (and_log port (Sent call words answer) logs) ts
made logs (Speaks port call words answer ∷ ts) =
    made (and_log port (Sent call words answer) logs) ts
made logs (Hears port queue number visit ∷ ts) =
    made (and_log port (Received queue number visit) logs) ts
made logs (Closes port ∷ ts) = made (and_log port Closed logs) ts

-- and the logs in the end
abbrev pub said : Logs → List Turn → Logs
said logs [] = logs
said logs (Happens e ∷ ts) = said logs ts
said logs (Asks queue port call request reply words answer ∷ ts) =
    said (and_log port (Sent call words answer) logs) ts
said logs (Speaks port call words answer ∷ ts) =
    said (and_log port (Sent call words answer) logs) ts
said logs (Hears port queue number visit ∷ ts) =
    said (and_log port (Received queue number visit) logs) ts
said logs (Closes port ∷ ts) = said (and_log port Closed logs) ts
