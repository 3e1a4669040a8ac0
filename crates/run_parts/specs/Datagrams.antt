-- What an ask sends: the messages that its bytes are cut into.
use Rattle.std.specs.Prelude.{ℕ, zero, suc, List, [], ◌∷◌, length, drop, Option, Some, None}
use Rattle.netlink_codec.specs.Messages.{NetlinkMessage, first_message}
use Rattle.nfqa_msgs.specs.RequestReading.{AskedFits, decoded}
use Rattle.nfqa_msgs.specs.RequestWriting.{spelling}
use Rattle.histories.specs.declared.log.AskWords.{AskWords}
use Rattle.histories.specs.declared.log.AskWords.TheVariants.{Plain, Raw}

-- a message, and those that the bytes behind it begin with
abbrev pub with_those_behind :
    (List ℕ → List NetlinkMessage) → List ℕ → Option (NetlinkMessage × ℕ) → List NetlinkMessage
with_those_behind cut bytes None = []
with_those_behind cut bytes (Some (m, used)) = m ∷ cut (drop used bytes)

-- the messages that bytes begin with, one after the other, but no more than so many
abbrev pub cut_in : ℕ → List ℕ → List NetlinkMessage
cut_in zero bytes = []
cut_in (suc looks) bytes = with_those_behind (cut_in looks) bytes (first_message bytes)

-- the messages of a datagram; each uses a byte at least
abbrev pub messages_in : List ℕ → List NetlinkMessage
messages_in bytes = cut_in (length bytes) bytes

-- the bytes of an ask, sent as the port's message with this number
abbrev pub bytes_of : ℕ → ℕ → AskWords → List ℕ
bytes_of port call (Plain request) = spelling port call request
bytes_of port call (Raw bytes) = bytes

-- the payload that a message asks for, if it asks for one, is no longer than one attribute may be
abbrev pub AsksWell : NetlinkMessage → Type 0
AsksWell m = AskedFits (decoded m)
