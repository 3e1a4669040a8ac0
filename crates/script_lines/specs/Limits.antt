-- The limits that what a line says keeps.
use Rattle.std.specs.Prelude.{ℕ, ◌≤◌, List, length, All, IfSome}
use Rattle.nfqa_msgs.specs.declared.request.Request.{Request}
use Rattle.nfqa_msgs.specs.declared.request.Request.TheVariants as request
use Rattle.histories.specs.declared.log.AskWords.{AskWords}
use Rattle.histories.specs.declared.log.AskWords.TheVariants as words
use Rattle.script_lines.specs.declared.ask.Ask.{Ask}
use Rattle.script_lines.specs.declared.ask.Ask.TheVariants as ask
use Rattle.script_lines.specs.declared.answering.OnLine.{OnLine}
use Rattle.script_lines.specs.declared.template.Template.{Template}
use Rattle.script_lines.specs.declared.template.Template.TheVariants.{Config, Verdict, Batch, Raw}
use Rattle.script_lines.specs.declared.line.Line.{Line}
use Rattle.script_lines.specs.declared.line.Line.TheVariants as line
use Rattle.script_lines.specs.declared.line.BlockLine.{BlockLine}
use Rattle.script_lines.specs.declared.line.BlockLine.TheVariants.{Open, On, End, Close}
use Rattle.script_lines.specs.Numbers.{largest_mail, most_asks, most_payload_bytes, most_raw_bytes}

-- a payload isn't too long
abbrev pub IsPayload : List ℕ → Type 0
IsPayload bytes = length bytes ≤ most_payload_bytes

-- a datagram has a byte, and isn't too long
abbrev pub IsRaw : List ℕ → Type 0
IsRaw bytes = (1 ≤ length bytes) × (length bytes ≤ most_raw_bytes)

abbrev pub IsRequest : Request → Type 0
IsRequest (request.Config queue command params maxlen flags mask) = Unit {0}
IsRequest (request.Verdict queue head mark payload priority) = IfSome payload IsPayload
IsRequest (request.Batch queue head mark priority) = Unit {0}

abbrev pub IsWords : AskWords → Type 0
IsWords (words.Plain request) = IsRequest request
IsWords (words.Raw bytes) = IsRaw bytes

-- what a script may ask for
abbrev pub IsAsk : Ask → Type 0
IsAsk (ask.Words words) = IsWords words
IsAsk ask.Close = Unit {0}

abbrev pub IsTemplate : Template → Type 0
IsTemplate (Config queue settings) = Unit {0}
IsTemplate (Verdict judgement payload) = IfSome payload IsPayload
IsTemplate (Batch judgement) = Unit {0}
IsTemplate (Raw bytes) = IsRaw bytes

-- a line has a condition and an ask, and not too many asks
pub record IsOnLine (line : OnLine) : Type 0 where
  pub conditions : 1 ≤ length line.conditions
  pub some_ask : 1 ≤ length line.asks
  pub asks : length line.asks ≤ most_asks
  pub each : All IsTemplate line.asks

-- what each line inside a block keeps
abbrev pub IsBlockLine : BlockLine → Type 0
IsBlockLine (Open words) = IsWords words
IsBlockLine (On on) = IsOnLine on
IsBlockLine (End words) = IsWords words
IsBlockLine Close = Unit {0}

-- what each line keeps
abbrev pub IsLine : Line → Type 0
IsLine line.Nothing = Unit {0}
IsLine (line.Mail mail) = (1 ≤ mail) × (mail ≤ largest_mail)
IsLine (line.Pace pace) = Unit {0}
IsLine (line.Key key) = Unit {0}
IsLine (line.Down down) = Unit {0}
IsLine (line.Port port) = 1 ≤ port
IsLine (line.Inside line) = IsBlockLine line
