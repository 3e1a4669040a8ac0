-- What a port's log may be: its opening messages, then blocks. A block is a notice with all the
-- messages that the script answers to it, or one message of the end. Where a pool of workers works
-- out the answers, those to a notice are a block of their own, somewhere behind it, in the order of
-- the notices. The closing is last, where the script says it.
use Rattle.std.specs.Prelude.{◌≡◌, ℕ, Bool, true, false, List, [], ◌∷◌, ◌++◌, map, flat_map, min}
use Rattle.std.specs.Prelude.{count_by, nat_lt, Option, Some, None, if◌then◌else◌}
use Rattle.packet_entry.specs.declared.letter.Letter.{Letter}
use Rattle.netlink_codec.specs.Messages.{NetlinkMessage}
use Rattle.nfqa_msgs.specs.RequestReading.{decoded}
use Rattle.nfqa_msgs.specs.NoticeWriting.{Told}
use Rattle.nfqa_msgs.specs.NoticeTexts.{told_exactly}
use Rattle.nfqa_msgs.specs.NoticeMeaning.{notice_of}
use Rattle.queue_core.specs.Numbers.{largest_count}
use Rattle.histories.specs.declared.log.Did.{Did}
use Rattle.histories.specs.declared.log.Did.TheVariants.{Received, Sent, Closed}
use Rattle.histories.specs.Logs.{is_received}
use Rattle.script_lines.specs.declared.ask.Ask.{Ask}
use Rattle.script_lines.specs.declared.ask.Ask.TheVariants.{Words, Close}
use Rattle.inspector_script.specs.Scripts.{ScriptValue, opening, answer, closing}
use Rattle.packet_moves.specs.Calls.{next_call}
use Rattle.packet_moves.specs.Messages.{words_of, answered}
use Rattle.run_parts.specs.Datagrams.{messages_in, bytes_of}

-- ---- what a port does, told in full

-- A log tells of a notice its queue, number and visit, and of a message how it was logged. Here
-- stand the whole notice and the message itself; it is told where an ask was taken up, whose bytes
-- are then cut into messages; and, of a port whose answers a pool works out, where it turned to the
-- answers of the next notice.
pub data Note : Type 0 where
  Got : Letter → Note
  Turned : Note
  Begun : Note
  Spoke : ℕ → NetlinkMessage → ℕ → Note
  Shut : Note

-- what a log has of it
abbrev pub dids_by : ℕ → Note → List Did
dids_by port (Got l) = Received l.queue l.number l.visit ∷ []
dids_by port Turned = []
dids_by port Begun = []
dids_by port (Spoke call m errno) =
    Sent call (words_of port call m.whole (decoded m)) (answered m errno) ∷ []
dids_by port Shut = Closed ∷ []

-- the log of all these
abbrev pub logged : ℕ → List Note → List Did
logged port notes = flat_map (dids_by port) notes

-- ---- where a port stands

-- what is still to be done: an ask that isn't taken up, or a message of one that is
pub data Due : Type 0 where
  Still : Ask → Due
  Message : NetlinkMessage → Due

-- Where a port stands: what it did, what it owes now, the answers to notices that it hasn't turned
-- to yet, what it has to do at the end, whether it is open, and whether it has just taken up an ask
-- and sent none of its messages.
pub record Standing : Type 0 where
  pub dids : List Did
  pub owed : List Due
  pub pending : List (List Due)
  pub ends : List Due
  pub is_open : Bool
  pub is_fresh : Bool

abbrev pub all_due : List Ask → List Due
all_due asks = map Still asks

-- where the script's port at this place begins
abbrev pub start : ScriptValue → ℕ → Standing
start script place =
    record {
      dids = [];
      owed = all_due (opening script place);
      pending = [];
      ends = all_due (closing script place);
      is_open = true;
      is_fresh = false;
    }

-- ---- what is done next

-- the first of what is owed, and where nothing is owed the first of the end
abbrev pub first_due : List Due → List Due → Option Due
first_due [] [] = None
first_due [] (e ∷ es) = Some e
first_due (d ∷ ds) es = Some d

-- what is owed, and what the end has, once these stand in the place of that first one
abbrev pub owed_then : List Due → List Due → List Due
owed_then instead [] = []
owed_then instead (d ∷ ds) = instead ++ ds

abbrev pub ends_then : List Due → List Due → List Due → List Due
ends_then instead [] [] = []
ends_then instead [] (e ∷ es) = instead ++ es
ends_then instead (d ∷ ds) es = es

-- the messages of an ask that is taken up: an ask is the messages that its bytes are cut into
abbrev pub messages_of : ℕ → List Did → Option Due → List Due
messages_of port dids (Some (Still (Words words))) =
    map Message (messages_in (bytes_of port (next_call dids) words))
messages_of port dids (Some (Still Close)) = []
messages_of port dids (Some (Message m)) = []
messages_of port dids None = []

-- how many notices a port received, as its inspector counts them
abbrev pub received_count : List Did → ℕ
received_count dids = min (count_by is_received dids) largest_count

-- what is asked for in answer to the notice with this number, whose text says this: the first line
-- whose conditions all hold of the notice and its count says it; nothing, where it can't be read
abbrev pub asks_for : ScriptValue → ℕ → ℕ → Option Told → List Ask
asks_for script place received None = []
asks_for script place received (Some told) = answer script place received (notice_of told)

-- what the script answers to the last notice
abbrev pub answer_to : ScriptValue → ℕ → List Did → Option Told → List Ask
answer_to script place dids told = asks_for script place (received_count dids) told

abbrev pub is_some_due : List Due → Bool
is_some_due [] = false
is_some_due (d ∷ ds) = true

-- where the port stands, with this in its log
abbrev pub having : ℕ → Note → Standing → Standing
having port n t = record t { dids = t.dids ++ dids_by port n }

abbrev pub replaced : List Due → Standing → Standing
replaced instead t =
    record t { owed = owed_then instead t.owed; ends = ends_then instead t.owed t.ends }

-- whether a pool of so many workers works out a port's answers; one worker is none
abbrev pub is_pool : ℕ → Bool
is_pool workers = nat_lt 1 workers

-- where the port stands once it has these answers to a notice: it owes them now, and behind a pool
-- they wait until it turns to them
abbrev pub answering : ℕ → List Due → Standing → Standing
answering workers answers t =
    if is_pool workers
    then record t { pending = t.pending ++ answers ∷ [] }
    else record t { owed = answers }

abbrev pub first_group : List (List Due) → List Due
first_group [] = []
first_group (ds ∷ groups) = ds

abbrev pub other_groups : List (List Due) → List (List Due)
other_groups [] = []
other_groups (ds ∷ groups) = groups

abbrev pub is_some_group : List (List Due) → Bool
is_some_group [] = false
is_some_group (ds ∷ groups) = true

-- where the port stands after this, with so many workers
abbrev pub after : ℕ → ScriptValue → ℕ → ℕ → Standing → Note → Standing
after workers script place port t (Got l) =
    let u = having port (Got l) t in
    answering workers (all_due (answer_to script place u.dids (told_exactly l.bytes))) u
after workers script place port t Turned =
    record t { owed = first_group t.pending; pending = other_groups t.pending }
after workers script place port t Begun =
    let messages = messages_of port t.dids (first_due t.owed t.ends) in
    record (replaced messages t) { is_fresh = is_some_due messages }
after workers script place port t (Spoke call m errno) =
    record (having port (Spoke call m errno) (replaced [] t)) { is_fresh = false }
after workers script place port t Shut =
    record (having port Shut t) { ends = []; is_open = false }

abbrev pub IsAskDue : Option Due → Type 0
IsAskDue (Some (Still (Words words))) = Unit {0}
IsAskDue (Some (Still Close)) = ⊥
IsAskDue (Some (Message m)) = ⊥
IsAskDue None = ⊥

-- Whether a port may do this next. A notice is received where nothing is owed, and not between an
-- ask and its first message; in the same places a port behind a pool turns to the answers that wait
-- first; a message is the first that is due, and counts one on; and the port closes where nothing
-- but that is left of its end; a log whose closing stands behind answers that wait isn't whole.
abbrev pub IsNext : ℕ → Standing → Note → Type 0
IsNext workers t (Got l) = (t.is_open ≡ true) × (t.owed ≡ []) × (t.is_fresh ≡ false)
IsNext workers t Turned =
    (is_pool workers ≡ true)
    × (t.is_open ≡ true)
    × (t.owed ≡ [])
    × (t.is_fresh ≡ false)
    × (is_some_group t.pending ≡ true)
IsNext workers t Begun = (t.is_open ≡ true) × IsAskDue (first_due t.owed t.ends)
IsNext workers t (Spoke call m errno) =
    (t.is_open ≡ true)
    × (first_due t.owed t.ends ≡ Some (Message m))
    × (call ≡ next_call t.dids)
IsNext workers t Shut = (t.is_open ≡ true) × (t.owed ≡ []) × (t.ends ≡ Still Close ∷ [])

-- from a standing on, each is next
abbrev pub AreNextFrom : ℕ → ScriptValue → ℕ → ℕ → Standing → List Note → Type 0
AreNextFrom workers script place port t [] = Unit {0}
AreNextFrom workers script place port t (n ∷ ns) =
    IsNext workers t n
    × AreNextFrom workers script place port (after workers script place port t n) ns

-- where these lead to
abbrev pub standing_from : ℕ → ScriptValue → ℕ → ℕ → Standing → List Note → Standing
standing_from workers script place port t [] = t
standing_from workers script place port t (n ∷ ns) =
    standing_from workers script place port (after workers script place port t n) ns

abbrev pub standing : ℕ → ScriptValue → ℕ → ℕ → List Note → Standing
standing workers script place port notes =
    standing_from workers script place port (start script place) notes

-- ---- a whole log

-- what is logged, but for the answer to a message: it is told with the requests
abbrev pub unanswered : Did → Did
unanswered (Received queue number visit) = Received queue number visit
unanswered (Sent call ask answer) = Sent call ask None
unanswered Closed = Closed

-- The log of the script's port at this place, behind a pool of so many workers: all that it did was
-- next, and nothing is left to do.
pub record IsLog (workers : ℕ) (script : ScriptValue) (place port : ℕ) (notes : List Note)
    (dids : List Did) : Type 0 where
  pub noted : map unanswered dids ≡ map unanswered (logged port notes)
  pub next : AreNextFrom workers script place port (start script place) notes
  pub owed : (standing workers script place port notes).owed ≡ []
  pub answered : (standing workers script place port notes).pending ≡ []
  pub ended : (standing workers script place port notes).ends ≡ []
