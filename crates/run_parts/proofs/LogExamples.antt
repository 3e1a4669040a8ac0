-- Logs, written out.
use Rattle.std.specs.Prelude.{Bool, ◌≢◌, if◌then◌else◌}
use Rattle.std.specs.Str.{bytes_eq}
use Rattle.std.proofs.Common.{ℕ, ◌≡◌, List, [], ◌∷◌, Option, Some, None, true, false, refl, ap}
use Rattle.std.proofs.Common.{sym, ◌∙◌, subst}
use Rattle.packet_entry.specs.declared.letter.Letter.{Letter}
use Rattle.netlink_codec.specs.Messages.{NetlinkMessage, first_message}
use Rattle.nfqa_msgs.specs.declared.request.Decoded.{Decoded}
use Rattle.nfqa_msgs.specs.declared.request.Decoded.TheVariants.{Nothing, Refused, Asked}
use Rattle.nfqa_msgs.specs.RequestReading.{decoded}
use Rattle.nfqa_msgs.specs.RequestWriting.{spelling}
use Rattle.nfqa_msgs.specs.NoticeWriting.{Told}
use Rattle.histories.specs.declared.log.AskWords.{AskWords}
use Rattle.histories.specs.declared.log.AskWords.TheVariants.{Plain, Raw}
use Rattle.histories.specs.declared.log.Did.{Did}
use Rattle.histories.specs.declared.log.Did.TheVariants.{Received, Sent, Closed}
use Rattle.script_lines.specs.declared.ask.Ask.TheVariants.{Close}
use Rattle.packet_moves.specs.Messages.{words_of}
use Rattle.nfqa_msgs.specs.NoticeTexts.{told_exactly}
use Rattle.run_parts.specs.Log.{Note, Got, Turned, Begun, Spoke, Shut, Still, Message, IsLog}
use Rattle.run_parts.specs.Log.{IsAskDue, all_due, answer_to, first_due}
use Rattle.run_parts.specs.Examples.{closing_script}
use Rattle.run_parts.specs.LoggedExamples.{header, message, opening_script, ending_script}
use Rattle.run_parts.specs.LoggedExamples.{every_second}

no_turn : false ≡ true → ⊥
no_turn wrong = cc

-- a message that is logged as bytes has these
raw_whole : (port call : ℕ) (whole bytes : List ℕ) (d : Decoded) →
    words_of port call whole d ≡ Raw bytes → whole ≡ bytes
raw_whole port call whole bytes Nothing is = cc
raw_whole port call whole bytes (Refused errno) is = cc
raw_whole port call whole bytes (Asked request) is =
    by (bytes_eq whole (spelling port call request)) is
  where
    by : (b : Bool) → (if b then Plain request else Raw whole) ≡ Raw bytes → whole ≡ bytes
    by true wrong = absurd (cc)
    by false same = cc

-- what a port does that answers no notice
no_answer : (dids : List Did) (told : Option Told) → answer_to closing_script 0 dids told ≡ []
no_answer dids None = refl
no_answer dids (Some told) = refl

due_then : (dids : List Did) (told : Option Told) →
    first_due (all_due (answer_to closing_script 0 dids told)) (Still Close ∷ [])
    ≡ Some (Still Close)
due_then dids told =
    ap (λ asks. first_due (all_due asks) (Still Close ∷ [])) (no_answer dids told)

pub wrong_answer : (queue number visit call : ℕ) (ask : AskWords) (answer : Option ℕ)
    (notes : List Note) → IsLog 1 closing_script 0 7 notes
    (Received queue number visit ∷ Sent call ask answer ∷ Closed ∷ []) → ⊥
wrong_answer queue number visit call ask answer [] is = let wrong = is.noted in cc
wrong_answer queue number visit call ask answer (Begun ∷ ns) is = is.next.0.1
wrong_answer queue number visit call ask answer (Turned ∷ ns) is = no_turn is.next.0.0
wrong_answer queue number visit call ask answer (Spoke c m errno ∷ ns) is =
    let wrong = is.noted in cc
wrong_answer queue number visit call ask answer (Shut ∷ ns) is = let wrong = is.noted in cc
wrong_answer queue number visit call ask answer (Got l ∷ []) is = let wrong = is.noted in cc
wrong_answer queue number visit call ask answer (Got l ∷ Got m ∷ ns) is =
    let wrong = is.noted in cc
wrong_answer queue number visit call ask answer (Got l ∷ Begun ∷ ns) is =
    subst IsAskDue
    (due_then (Received l.queue l.number l.visit ∷ []) (told_exactly l.bytes)) is.next.1.0.1
wrong_answer queue number visit call ask answer (Got l ∷ Spoke c m errno ∷ ns) is =
    let due = due_then (Received l.queue l.number l.visit ∷ []) (told_exactly l.bytes) in
    let wrong : Some (Still Close) ≡ Some (Message m) = sym due ∙ is.next.1.0.1 in cc
wrong_answer queue number visit call ask answer (Got l ∷ Turned ∷ ns) is =
    no_turn is.next.1.0.0
wrong_answer queue number visit call ask answer (Got l ∷ Shut ∷ ns) is =
    let wrong = is.noted in cc

pub wrong_call : (call : ℕ) (ask : AskWords) (answer : Option ℕ) (notes : List Note) →
    call ≢ 1 → IsLog 1 opening_script 0 7 notes (Sent call ask answer ∷ []) → ⊥
unfolding first_message
wrong_call call ask answer [] other is = let wrong = is.noted in cc
wrong_call call ask answer (Got l ∷ ns) other is = let wrong = is.noted in cc
wrong_call call ask answer (Spoke c m errno ∷ ns) other is = let wrong = is.next.0.1 in cc
wrong_call call ask answer (Shut ∷ ns) other is = let wrong = is.noted in cc
wrong_call call ask answer (Turned ∷ ns) other is = no_turn is.next.0.0
wrong_call call ask answer (Begun ∷ Turned ∷ ns) other is = no_turn is.next.1.0.0
wrong_call call ask answer (Begun ∷ []) other is = let wrong = is.noted in cc
wrong_call call ask answer (Begun ∷ Got l ∷ ns) other is = let wrong = is.noted in cc
wrong_call call ask answer (Begun ∷ Begun ∷ ns) other is = is.next.1.0.1
wrong_call call ask answer (Begun ∷ Spoke c m errno ∷ ns) other is =
    let first : call ≡ c = let noted = is.noted in cc in
    other (first ∙ is.next.1.0.2)
wrong_call call ask answer (Begun ∷ Shut ∷ ns) other is = let wrong = is.noted in cc

pub wrong_order : (one two : ℕ) (first second : Option ℕ) (notes : List Note) →
    IsLog 1 ending_script 0 7 notes
    (Sent one (Raw (header 2)) first ∷ Sent two (Raw (header 1)) second ∷ []) → ⊥
unfolding first_message
wrong_order one two first second [] is = let wrong = is.noted in cc
wrong_order one two first second (Got l ∷ ns) is = let wrong = is.noted in cc
wrong_order one two first second (Spoke c m errno ∷ ns) is = let wrong = is.next.0.1 in cc
wrong_order one two first second (Shut ∷ ns) is = let wrong = is.noted in cc
wrong_order one two first second (Turned ∷ ns) is = no_turn is.next.0.0
wrong_order one two first second (Begun ∷ Turned ∷ ns) is = no_turn is.next.1.0.0
wrong_order one two first second (Begun ∷ []) is = let wrong = is.noted in cc
wrong_order one two first second (Begun ∷ Got l ∷ ns) is = let wrong = is.noted in cc
wrong_order one two first second (Begun ∷ Begun ∷ ns) is = is.next.1.0.1
wrong_order one two first second (Begun ∷ Spoke c m errno ∷ ns) is =
    let same : message 1 ≡ m = let due = is.next.1.0.1 in cc in
    let words : words_of 7 c m.whole (decoded m) ≡ Raw (header 2) =
    let noted = is.noted in cc in
    let bytes : header 1 ≡ header 2 =
    ap (λ (k : NetlinkMessage). k.whole) same
    ∙ raw_whole 7 c m.whole (header 2) (decoded m) words in
    cc
wrong_order one two first second (Begun ∷ Shut ∷ ns) is = let wrong = is.noted in cc

pub notice_between : (l : Letter) (notes : List Note) (dids : List Did) →
    IsLog 1 ending_script 0 7 (Begun ∷ Got l ∷ notes) dids → ⊥
unfolding first_message
notice_between l notes dids is = let wrong = is.next.1.0.2 in cc

-- the first notice isn't answered
pub not_the_first : (l : Letter) (told : Told) → told_exactly l.bytes ≡ Some told →
    IsLog 1 every_second 0 7 (Got l ∷ []) (Received l.queue l.number l.visit ∷ [])
not_the_first l told is = record {
  noted = refl;
  next = ((refl, refl, refl), tt);
  owed = ap (λ t. all_due (answer_to every_second 0 (Received l.queue l.number l.visit ∷ []) t)) is;
  answered = refl;
  ended = refl;
}

pub opening_logged : IsLog 1 opening_script 0 7 (Begun ∷ Spoke 1 (message 1) 0 ∷ [])
    (Sent 1 (Raw (header 1)) None ∷ [])
unfolding first_message decoded
opening_logged = record {
  noted = refl;
  next = ((refl, tt), ((refl, refl, refl), tt));
  owed = refl;
  answered = refl;
  ended = refl;
}

pub ends_logged : IsLog 1 ending_script 0 7
    (Begun ∷ Spoke 1 (message 1) 0 ∷ Begun ∷ Spoke 2 (message 2) 0 ∷ [])
    (Sent 1 (Raw (header 1)) None ∷ Sent 2 (Raw (header 2)) None ∷ [])
unfolding first_message decoded
ends_logged = record {
  noted = refl;
  next = ((refl, tt), ((refl, refl, refl), ((refl, tt), ((refl, refl, refl), tt))));
  owed = refl;
  answered = refl;
  ended = refl;
}
