-- A port's log, walked from its first entry to its last: each entry must be one that the port could
-- do next. An ask is taken up as late as that can be: just before the first of its messages. An ask
-- whose bytes are no message is passed over where something behind it is looked for.
use Rattle.std.specs.Prelude.{◌≡◌, ℕ, Bool, true, false, List, [], ◌∷◌, ◌++◌, map, filter}
use Rattle.std.specs.Prelude.{Option, Some, None, IsSome, ◌==◌}
use Rattle.packet_entry.specs.declared.letter.Letter.{Letter}
use Rattle.netlink_codec.specs.Messages.{NetlinkMessage}
use Rattle.nfqa_msgs.specs.declared.request.Decoded.{Decoded}
use Rattle.nfqa_msgs.specs.declared.request.Decoded.TheVariants.{Nothing, Refused, Asked}
use Rattle.nfqa_msgs.specs.RequestReading.{decoded}
use Rattle.histories.specs.Happenings.{queue_of}
use Rattle.histories.specs.declared.log.AskWords.{AskWords}
use Rattle.histories.specs.declared.log.Did.{Did}
use Rattle.histories.specs.declared.log.Did.TheVariants.{Received, Sent, Closed}
use Rattle.packet_moves.specs.Calls.{next_call, after_this}
use Rattle.packet_moves.specs.Messages.{words_of}
use Rattle.script_lines.specs.declared.ask.Ask.{Ask}
use Rattle.script_lines.specs.declared.ask.Ask.TheVariants.{Words, Close}
use Rattle.inspector_script.specs.Scripts.{ScriptValue, opening, closing, next_count}
use Rattle.run_parts.specs.Datagrams.{messages_in, bytes_of}
use Rattle.nfqa_msgs.specs.NoticeTexts.{told_exactly}
use Rattle.run_parts.specs.Log.{Due, Still, Message, all_due, first_due, owed_then, ends_then}
use Rattle.run_parts.specs.Log.{asks_for}
use Rattle.run_parts.specs.Order.{Kind, kind_by}

-- ---- what is due

-- the messages of an ask whose first one has this number
abbrev pub messages_for : ℕ → ℕ → AskWords → List NetlinkMessage
messages_for port call words = messages_in (bytes_of port call words)

-- the messages of an ask, before what is due behind it; where it has none, this
abbrev pub begun : List NetlinkMessage → List Due → List Due → List Due
begun [] passed ds = passed
begun (m ∷ ms) passed ds = Message m ∷ map Message ms ++ ds

-- Asks without a message that are due first are passed over, and then one that has messages is
-- taken up: its first message has this number.
abbrev pub settled : ℕ → ℕ → List Due → List Due
settled port call [] = []
settled port call (Still (Words words) ∷ ds) =
    begun (messages_for port call words) (settled port call ds) ds
settled port call (Still Close ∷ ds) = Still Close ∷ ds
settled port call (Message m ∷ ds) = Message m ∷ ds

-- what the end has, where this is owed: nothing of it is taken up before all is sent that is owed
abbrev pub ends_at : ℕ → ℕ → List Due → List Due → List Due
ends_at port call [] ends = settled port call ends
ends_at port call (d ∷ ds) ends = ends

-- ---- where the walk is

-- a request of a port: the queue that it asks something of, and when it was sent
pub record Timed : Type 0 where
  pub queue : ℕ
  pub kind : Kind

-- Where the walk along a log is: what the port owes there and what it has to do at its end, the
-- number of its next message, how many notices it received and whether it received one, whether it
-- is open, and its requests so far.
pub record Walk : Type 0 where
  pub owed : List Due
  pub ends : List Due
  pub call : ℕ
  pub received : ℕ
  pub heard : Bool
  pub is_open : Bool
  pub timed : List Timed

-- before the first entry, of the script's port at this place
abbrev pub beginning : ScriptValue → ℕ → Walk
beginning script place =
    record {
      owed = all_due (opening script place);
      ends = all_due (closing script place);
      call = next_call [];
      received = 0;
      heard = false;
      is_open = true;
      timed = [];
    }

-- the first message that is due has been taken up
abbrev pub readied : ℕ → Walk → Walk
readied port w =
    record w {
      owed = settled port w.call w.owed;
      ends = ends_at port w.call (settled port w.call w.owed) w.ends;
    }

abbrev pub first_of : Walk → Option Due
first_of w = first_due w.owed w.ends

-- ---- one entry of a log

-- the notices that are known, by queue, number and visit
abbrev pub Known : Type 0
Known = ℕ → ℕ → ℕ → Option Letter

-- what is asked for in answer to this notice
abbrev pub asks_by : ScriptValue → ℕ → ℕ → Option Letter → List Ask
asks_by script place received None = []
asks_by script place received (Some l) = asks_for script place received (told_exactly l.bytes)

-- when a request was sent that a message is decoded to
abbrev pub timed_by : Kind → Decoded → List Timed
timed_by kind Nothing = []
timed_by kind (Refused errno) = []
timed_by kind (Asked request) = record { queue = queue_of request; kind = kind } ∷ []

abbrev pub timed_of : Kind → Option Due → List Timed
timed_of kind None = []
timed_of kind (Some (Still ask)) = []
timed_of kind (Some (Message m)) = timed_by kind (decoded m)

-- this is due, and is the message that was logged so
abbrev pub IsLoggedAs : ℕ → ℕ → AskWords → Option Due → Type 0
IsLoggedAs port call ask None = ⊥
IsLoggedAs port call ask (Some (Still other)) = ⊥
IsLoggedAs port call ask (Some (Message m)) = words_of port call m.whole (decoded m) ≡ ask

-- where the walk is, once the first message that is due has been sent
abbrev pub sent_on : ℕ → Walk → Walk
sent_on port w =
    let r = readied port w in
    record w {
      owed = owed_then [] r.owed;
      ends = ends_then [] r.owed r.ends;
      call = after_this w.call;
      timed = w.timed ++ timed_of (kind_by r.owed w.heard) (first_of r);
    }

-- the walk goes on over an entry
abbrev pub walked : Known → ScriptValue → ℕ → ℕ → Walk → Did → Walk
walked known script place port w (Received queue number visit) =
    record w {
      owed = all_due (asks_by script place (next_count w.received) (known queue number visit));
      received = next_count w.received;
      heard = true;
    }
walked known script place port w (Sent call ask answer) = sent_on port w
walked known script place port w Closed =
    record w { owed = []; ends = []; is_open = false }

-- Whether the port could do that next. A notice that is known is received, and the port closes,
-- where no message is owed; a message is the first that is due, with the next number.
abbrev pub GoesOn : Known → ℕ → Walk → Did → Type 0
GoesOn known port w (Received queue number visit) =
    (w.is_open ≡ true)
    × (settled port w.call w.owed ≡ [])
    × IsSome (known queue number visit)
GoesOn known port w (Sent call ask answer) =
    (w.is_open ≡ true) × (call ≡ w.call) × IsLoggedAs port call ask (first_of (readied port w))
GoesOn known port w Closed =
    (w.is_open ≡ true)
    × (settled port w.call w.owed ≡ [])
    × (settled port w.call w.ends ≡ Still Close ∷ [])

-- ---- a whole log

abbrev pub AllGoOn : Known → ScriptValue → ℕ → ℕ → Walk → List Did → Type 0
AllGoOn known script place port w [] = Unit {0}
AllGoOn known script place port w (d ∷ ds) =
    GoesOn known port w d
    × AllGoOn known script place port (walked known script place port w d) ds

abbrev pub walked_all : Known → ScriptValue → ℕ → ℕ → Walk → List Did → Walk
walked_all known script place port w [] = w
walked_all known script place port w (d ∷ ds) =
    walked_all known script place port (walked known script place port w d) ds

-- no message is left to send, and no closing
abbrev pub IsDone : ℕ → Walk → Type 0
IsDone port w = (settled port w.call w.owed ≡ []) × (settled port w.call w.ends ≡ [])

-- where the walk along a whole log ends
abbrev pub ended : Known → ScriptValue → ℕ → ℕ → List Did → Walk
ended known script place port dids =
    walked_all known script place port (beginning script place) dids

-- the log of the script's port at this place can be walked to its end
pub record IsWalked (known : Known) (script : ScriptValue) (place port : ℕ) (dids : List Did)
    : Type 0 where
  pub goes : AllGoOn known script place port (beginning script place) dids
  pub done : IsDone port (ended known script place port dids)

-- when the requests for this queue were sent
abbrev pub is_at : ℕ → Timed → Bool
is_at queue timed = timed.queue == queue

abbrev pub kinds_at : ℕ → List Timed → List Kind
kinds_at queue timed = map (λ (t : Timed). t.kind) (filter (is_at queue) timed)
