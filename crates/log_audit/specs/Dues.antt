-- For proofs alone: what a port has to do next, as the code holds it.
use Rattle.std.specs.Prelude.{◌≡◌, ◌≤◌, ℕ, List, [], ◌∷◌, ◌++◌, map, drop, length, All, Option}
use Rattle.std.specs.Prelude.{Some, None, Bool, true, false, ◌<◌}
use Rattle.netlink_codec.specs.Messages.{NetlinkMessage}
use Rattle.nfqa_msgs.specs.declared.request.Decoded.{Decoded}
use Rattle.nfqa_msgs.specs.declared.request.Decoded.TheVariants.{Nothing, Refused, Asked}
use Rattle.nfqa_msgs.specs.RequestReading.{decoded}
use Rattle.nfqa_msgs.specs.RequestWriting.{spelling}
use Rattle.histories.specs.declared.log.AskWords.{AskWords}
use Rattle.packet_moves.specs.Messages.{words_of}
use Rattle.script_lines.specs.Limits.{IsAsk}
use Rattle.script_lines.specs.declared.ask.Ask.{Ask}
use Rattle.script_lines.specs.declared.ask.Ask.TheVariants.{Words}
use Rattle.run_parts.specs.Datagrams.{messages_in}
use Rattle.run_parts.specs.Log.{Due, Message, all_due, first_due}
use Rattle.log_audit.specs.Walking.{IsLoggedAs, settled}
use Rattle.log_audit.specs.declared.duties.Duties.{Duties}

-- the messages in what is left of the bytes that were taken up last, and the asks behind them
abbrev pub dues_of : Duties → List Due
dues_of d = map Message (messages_in (drop d.used d.bytes)) ++ all_due d.asks

-- as much of the bytes was used as there is, and the asks are a script's
pub record AreHeld (d : Duties) : Type 0 where
  pub used : d.used ≤ length d.bytes
  pub asks : All IsAsk d.asks

-- An ask was taken up, or passed over; or there is none before the first message.
abbrev pub TakesUp : ℕ → ℕ → Duties → Duties → Bool → Type 0
TakesUp port call old new true =
    (settled port call (dues_of new) ≡ settled port call (dues_of old))
    × (length new.asks < length old.asks)
TakesUp port call old new false = dues_of new ≡ settled port call (dues_of old)

-- a message is due first; or none of the bytes is left that is one
abbrev pub HasMessage : Duties → Bool → Type 0
HasMessage d true = (m : NetlinkMessage) × (ds : List Due) × (dues_of d ≡ Message m ∷ ds)
HasMessage d false = dues_of d ≡ all_due d.asks

-- the first ask sends something; or there is none, or it is that the port closes
abbrev pub BeginWithWords : List Ask → Bool → Type 0
BeginWithWords asks true = (words : AskWords) × (rest : List Ask) × (asks ≡ Words words ∷ rest)
BeginWithWords asks false = (port call : ℕ) → settled port call (all_due asks) ≡ all_due asks

-- The first thing that is due is the message that was logged so, and is done; or it isn't.
abbrev pub Speaks : ℕ → ℕ → AskWords → List Due → List Due → Option Decoded → Type 0
Speaks port call ask old new None = IsLoggedAs port call ask (first_due old []) → ⊥
Speaks port call ask old new (Some d) =
    (m : NetlinkMessage)
    × (old ≡ Message m ∷ new)
    × (words_of port call m.whole (decoded m) ≡ ask)
    × (d ≡ decoded m)

-- a message is the spelling of what it is decoded to
abbrev pub IsSpelled : ℕ → ℕ → List ℕ → Decoded → Type 0
IsSpelled port call whole Nothing = ⊥
IsSpelled port call whole (Refused errno) = ⊥
IsSpelled port call whole (Asked request) = whole ≡ spelling port call request
