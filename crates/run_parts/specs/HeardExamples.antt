-- Histories of one queue, written out, with what its port received and sent: told as it was, and
-- not.
use Rattle.std.specs.Prelude.{ℕ, true, false, Some, None}
use Rattle.nfqa_msgs.specs.declared.request.Request.{Request}
use Rattle.nfqa_msgs.specs.declared.request.Request.TheVariants.{Config}
use Rattle.queue_core.specs.declared.event.Event.TheVariants.{Arrive, Ask}
use Rattle.queue_core.specs.declared.event.Reply.TheVariants.{Arrived, Answer}
use Rattle.queue_core.specs.declared.offers.Outcome.TheVariants.{Taken, UserFull}
use Rattle.packet_entry.specs.declared.letter.Letter.{Letter}
use Rattle.nfqa_msgs.specs.NoticeWriting.{notice}
use Rattle.histories.specs.declared.entry.Entry.{Entry}
use Rattle.histories.specs.Examples.{packet}

-- port 7 binds queue 3, whose notices tell no bytes, and is answered with this errno
abbrev pub binding : Request
binding = Config 3 (Some 1) (Some (record { range = 0; mode = 1 })) None None None

abbrev pub bound : ℕ → Entry
bound errno = record { queue = 3; event = Ask 7 1 binding; reply = Answer errno 0 }

-- the notice of packet 1, which waits under id 1; its mode tells no bytes
abbrev pub heard_1 : Letter
heard_1 =
    record { queue = 3; number = 1; visit = 1; bytes = notice 3 1 0 1 (packet 1) }

-- the packet with this number is taken; or finds no room
abbrev pub taken : ℕ → Entry
taken number =
    record {
      queue = 3;
      event = Arrive (packet number) false true;
      reply = Arrived (Taken number);
    }

abbrev pub turned : ℕ → Entry
turned number =
    record {
      queue = 3;
      event = Arrive (packet number) false false;
      reply = Arrived (UserFull number);
    }
