-- What inspectors ask for: closings only at the end.
use Rattle.std.proofs.Common.{◌≡◌, ℕ, List, [], ◌∷◌, Option, Some, None, subst, sym}
use Rattle.packet_entry.specs.declared.letter.Letter.{Letter}
use Rattle.nfqa_msgs.specs.NoticeWriting.{Told}
use Rattle.histories.specs.declared.log.Did.{Did}
use Rattle.script_lines.specs.declared.ask.Ask.{Ask}
use Rattle.script_lines.specs.declared.ask.Ask.TheVariants.{Words, Close}
use Rattle.inspector_script.specs.Scripts.{ScriptValue}
use Rattle.packet_moves.specs.World.{World, Port}
use Rattle.solo_schedule.specs.Schedule.{received_in}
use Rattle.run_parts.specs.Log.{answer_to, asks_for}
use Rattle.nfqa_msgs.specs.NoticeTexts.{told_exactly}
use Rattle.port_scripts.specs.Words.{AreWords, ClosesLast}
use Rattle.solo_run.specs.RunState.{ReceivesFirst}

pub last_of_words : (asks : List Ask) → AreWords asks → ClosesLast asks
last_of_words [] words = tt
last_of_words (Words w ∷ asks) words = last_of_words asks words
last_of_words (Close ∷ asks) words = absurd words

-- what holds of what is asked for holds of the same under another name
pub same_words : (asks other : List Ask) → asks ≡ other → AreWords other → AreWords asks
same_words asks other same words = subst (λ (l : List Ask). AreWords l) (sym same) words

pub same_last : (asks other : List Ask) → asks ≡ other → ClosesLast other → ClosesLast asks
same_last asks other same last = subst (λ (l : List Ask). ClosesLast l) (sym same) last

-- ---- in answer to a notice

abbrev pub AnswersInWords : ScriptValue → Type 0
AnswersInWords script =
    (place : ℕ) (dids : List Did) (told : Option Told) → AreWords (answer_to script place dids told)

asked_words : (script : ScriptValue) (place : ℕ) (p : Option Port) (told : Option Told) →
    AnswersInWords script → AreWords (asks_for script place (received_in p) told)
asked_words script place p None words = tt
asked_words script place None (Some told) words = words place [] (Some told)
asked_words script place (Some p) (Some told) words = words place p.dids (Some told)

abbrev some : List Ask → Option (List Ask)
some asks = Some asks

in_some : (asks other : List Ask) → some asks ≡ some other → AreWords other → AreWords asks
in_some asks other same words = let is : asks ≡ other = cc in same_words asks other is words

pub received_words : (script : ScriptValue) (place port : ℕ) (letters : List Letter)
    (asks : List Ask) (old new : World) →
    ReceivesFirst script place port letters (Some asks) old new → AnswersInWords script →
    AreWords asks
received_words script place port [] asks old new is words = let wrong = is.0 in absurd (cc)
received_words script place port (l ∷ ls) asks old new is words =
    in_some asks (asks_for script place (received_in (new.ports port)) (told_exactly l.bytes)) is.0
    (asked_words script place (new.ports port) (told_exactly l.bytes) words)
