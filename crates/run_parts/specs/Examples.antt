-- A script of one port, written out, and what its run may have and may not.
use Rattle.std.specs.Prelude.{ℕ, true, List, [], ◌∷◌, ◌==◌, Some, None, if◌then◌else◌}
use Rattle.nfqa_msgs.specs.declared.request.Request.TheVariants.{Config}
use Rattle.nfqa_msgs.specs.declared.request.Request.{Request}
use Rattle.queue_core.specs.declared.event.Event.TheVariants.{Ask, PortClosed}
use Rattle.queue_core.specs.declared.event.Reply.TheVariants.{Answer, Flushed}
use Rattle.histories.specs.declared.entry.Entry.{Entry}
use Rattle.histories.specs.declared.log.Did.{Did}
use Rattle.histories.specs.declared.log.Did.TheVariants.{Closed}
use Rattle.histories.specs.declared.histories.Histories.{Histories}
use Rattle.inspector_script.specs.Scripts.{ScriptValue, held}
use Rattle.run_parts.specs.Log.{Note, Shut}

-- port 7 opens without a message, answers no notice, and closes
abbrev pub closing_script : ScriptValue
closing_script =
    held 1 0 0 [] (7 ∷ [])
    (record { opening = []; lines = []; closing = []; closes = true } ∷ [])

-- a request of port 7 at queue 3
abbrev pub one_request : Request → List Entry
one_request request =
    record { queue = 3; event = Ask 7 1 request; reply = Answer 0 0 } ∷ []

-- port 7 closes twice at one queue
abbrev pub two_closings : List Entry
two_closings =
    record { queue = 3; event = PortClosed 7; reply = Flushed 0 }
    ∷ record { queue = 3; event = PortClosed 7; reply = Flushed 0 } ∷ []

-- port 7 closes, and behind that port 9 binds the queue
abbrev pub another_asks : List Entry
another_asks =
    record { queue = 3; event = PortClosed 7; reply = Flushed 0 }
    ∷ record {
      queue = 3;
      event = Ask 9 1 (Config 3 (Some 1) None None None None);
      reply = Answer 0 0;
    } ∷ []

abbrev pub one_closing : List Entry
one_closing = record { queue = 3; event = PortClosed 7; reply = Flushed 0 } ∷ []

-- the histories of its run, in which nothing happens at a queue, and others in which the port did
-- nothing
abbrev pub logging : List Did → Histories
logging dids = record {
  entries = [];
  logs = record { port = 7; dids = dids } ∷ [];
  lost = [];
}

abbrev pub run_of_7 : Histories
run_of_7 = logging (Closed ∷ [])

abbrev pub silence_of_7 : Histories
silence_of_7 = logging []

-- what is told where port 7 alone does anything
abbrev pub notes_by_7 : List Note → ℕ → List Note
notes_by_7 notes port = if port == 7 then notes else []

abbrev pub notes_of_7 : ℕ → List Note
notes_of_7 = notes_by_7 (Shut ∷ [])
