-- The words between parts, `and`, `do` and `;`, stand in no condition and in no ask.
use Rattle.std.proofs.Common.{◌≡◌, ℕ, false, inl, inr, List, [], ◌∷◌, ◌++◌, Option, Some, None}
use Rattle.std.proofs.Common.{refl, sym, subst}
use Rattle.std.specs.Prelude.{bytes_eq, codes}
use Rattle.std.proofs.lemmas.List.Elements.{All-append, All-cons, All-nil}
use Rattle.text_lines.specs.Digits.{decimal, digits_onto, number}
use Rattle.text_lines.specs.Hexadecimal.{bytes_of}
use Rattle.text_lines.specs.Numerals.{IsNumeral}
use Rattle.nfqa_headers.specs.declared.params.Params.{Params}
use Rattle.script_lines.specs.declared.template.OrThis.{OrThis}
use Rattle.script_lines.specs.declared.template.Judgement.{Judgement}
use Rattle.script_lines.specs.declared.template.Settings.{Settings}
use Rattle.script_lines.specs.declared.template.Template.{Template}
use Rattle.script_lines.specs.declared.template.Template.TheVariants as ask
use Rattle.script_lines.specs.declared.condition.Condition.{Condition}
use Rattle.script_lines.specs.declared.condition.Condition.TheVariants as test
use Rattle.script_lines.specs.AskLine.{command_named, id_of, mode_of, numbered_verdict, queue_of}
use Rattle.script_lines.specs.AskLine.{verdict_word}
use Rattle.script_lines.specs.ConditionLine.{mark_of}
use Rattle.script_lines.specs.Numbers.{most_payload_bytes, most_raw_bytes}
use Rattle.script_lines.specs.Grammar.{AreParts, IsAsk, IsCommandPart, IsCondition, IsConfig}
use Rattle.script_lines.specs.Grammar.{IsJudgement, IsNumberPart, IsParamsPart, IsPayloadPart}
use Rattle.script_lines.proofs.WordLaws.{IsWithout, Laws, is_other, number_again, other_word}
use Rattle.script_lines.proofs.WordForm.{command_again, id_again, mode_again, queue_again}
use Rattle.script_lines.proofs.WordForm.{verdict_again}
use Rattle.script_lines.proofs.ConditionForm.{mark_again}

no_words : (mark : List ℕ) → IsWithout mark []
no_words mark = All-nil (λ v. v ≡ mark → ⊥)

word_before : (mark word : List ℕ) (ws : List (List ℕ)) → bytes_eq word mark ≡ false →
    IsWithout mark ws → IsWithout mark (word ∷ ws)
word_before mark word ws other h =
    All-cons (λ v. v ≡ mark → ⊥) word ws (is_other word mark other) h

words_before : (mark : List ℕ) (xs ys : List (List ℕ)) → IsWithout mark xs → IsWithout mark ys →
    IsWithout mark (xs ++ ys)
words_before mark xs ys h g = All-append (λ v. v ≡ mark → ⊥) xs ys h g

pair : (mark name word : List ℕ) → bytes_eq name mark ≡ false → bytes_eq word mark ≡ false →
    IsWithout mark (name ∷ word ∷ [])
pair mark name word first second =
    word_before mark name (word ∷ []) first (word_before mark word [] second (no_words mark))

without : (mark : List ℕ) (ws vs : List (List ℕ)) → ws ≡ vs → IsWithout mark vs →
    IsWithout mark ws
without mark ws vs e h = subst (IsWithout mark) (sym e) h

-- ---- conditions

-- a word that is no part of a condition
pub record IsNoTest (between : List ℕ) : Type 0 where
  pub any : bytes_eq (codes "any") between ≡ false
  pub id : bytes_eq (codes "id") between ≡ false
  pub queue : bytes_eq (codes "queue") between ≡ false
  pub mark : bytes_eq (codes "mark") between ≡ false
  pub proto : bytes_eq (codes "proto") between ≡ false
  pub every : bytes_eq (codes "every") between ≡ false
  pub longer : bytes_eq (codes "longer") between ≡ false
  pub priority : bytes_eq (codes "priority") between ≡ false
  pub number : decimal between ≡ None
  pub pair : mark_of between ≡ None

number_apart : Laws → (mark word : List ℕ) (n : ℕ) → decimal mark ≡ None → IsNumeral word n →
    bytes_eq word mark ≡ false
number_apart laws mark word n none h =
    other_word decimal word mark n (number_again laws word n h) none

pub condition_without : Laws → (mark : List ℕ) → IsNoTest mark → (words : List (List ℕ))
    (c : Condition) → IsCondition words c → IsWithout mark words
condition_without laws mark none words test.Any h =
    without mark words (codes "any" ∷ []) h
    (word_before mark (codes "any") [] none.any (no_words mark))
condition_without laws mark none words (test.Id n) h =
    without mark words (codes "id" ∷ h.0 ∷ []) h.2
    (pair mark (codes "id") h.0 none.id (number_apart laws mark h.0 n none.number h.1))
condition_without laws mark none words (test.Queue n) h =
    without mark words (codes "queue" ∷ h.0 ∷ []) h.2
    (pair mark (codes "queue") h.0 none.queue (number_apart laws mark h.0 n none.number (h.1).0))
condition_without laws mark none words (test.Mark value mask) h =
    let whole : List ℕ = h.0 ++ (codes "/" ++ h.1) in
    without mark words (codes "mark" ∷ whole ∷ []) h.4
    (pair mark (codes "mark") whole none.mark
    (other_word mark_of whole mark (test.Mark value mask)
    (mark_again laws h.0 h.1 value mask h.2 h.3) none.pair))
condition_without laws mark none words (test.Protocol n) h =
    without mark words (codes "proto" ∷ h.0 ∷ []) h.2
    (pair mark (codes "proto") h.0 none.proto (number_apart laws mark h.0 n none.number (h.1).0))
condition_without laws mark none words (test.Every n) h =
    without mark words (codes "every" ∷ h.0 ∷ []) h.3
    (pair mark (codes "every") h.0 none.every (number_apart laws mark h.0 n none.number h.1))
condition_without laws mark none words (test.Longer n) h =
    without mark words (codes "longer" ∷ h.0 ∷ []) h.2
    (pair mark (codes "longer") h.0 none.longer (number_apart laws mark h.0 n none.number h.1))
condition_without laws mark none words (test.Priority n) h =
    without mark words (codes "priority" ∷ h.0 ∷ []) h.2
    (pair mark (codes "priority") h.0 none.priority
    (number_apart laws mark h.0 n none.number h.1))

pub and_is_no_test : IsNoTest (codes "and")
unfolding decimal number digits_onto mark_of
and_is_no_test = record {
  any = refl;
  id = refl;
  queue = refl;
  mark = refl;
  proto = refl;
  every = refl;
  longer = refl;
  priority = refl;
  number = refl;
  pair = refl;
}

do_is_no_test : IsNoTest (codes "do")
unfolding decimal number digits_onto mark_of
do_is_no_test = record {
  any = refl;
  id = refl;
  queue = refl;
  mark = refl;
  proto = refl;
  every = refl;
  longer = refl;
  priority = refl;
  number = refl;
  pair = refl;
}

-- what stands in no part, and isn't the word between them, stands nowhere
parts_without : {A : Type 0} (Is : List (List ℕ) → A → Type 0) (between mark : List ℕ) →
    bytes_eq between mark ≡ false →
    ((ws : List (List ℕ)) (x : A) → Is ws x → IsWithout mark ws) → (xs : List A)
    (ws : List (List ℕ)) → AreParts Is between ws xs → IsWithout mark ws
parts_without Is between mark other each [] ws h = absurd h
parts_without Is between mark other each (x ∷ []) ws h = each ws x h
parts_without Is between mark other each (x ∷ y ∷ more) ws h =
    without mark ws (h.0 ++ between ∷ h.1) h.4
    (words_before mark h.0 (between ∷ h.1) (each h.0 x h.2)
    (word_before mark between h.1 other
    (parts_without Is between mark other each (y ∷ more) h.1 h.3)))

pub conditions_without_do : Laws → (cs : List Condition) (ws : List (List ℕ)) →
    AreParts IsCondition (codes "and") ws cs → IsWithout (codes "do") ws
conditions_without_do laws cs ws h =
    parts_without IsCondition (codes "and") (codes "do") refl
    (condition_without laws (codes "do") do_is_no_test) cs ws h

-- ---- asks

abbrev semicolon : List ℕ
semicolon = codes ";"

unnumbered : decimal semicolon ≡ None
unfolding decimal number digits_onto
unnumbered = refl

no_queue : queue_of semicolon ≡ None
unfolding decimal number digits_onto
no_queue = refl

no_id : id_of semicolon ≡ None
unfolding decimal number digits_onto
no_id = refl

no_verdict : verdict_word semicolon ≡ None
unfolding verdict_word numbered_verdict decimal number digits_onto
no_verdict = refl

no_mode : mode_of semicolon ≡ None
unfolding mode_of decimal number digits_onto
no_mode = refl

no_name : command_named semicolon ≡ None
unfolding command_named
no_name = refl

no_payload : bytes_of most_payload_bytes semicolon ≡ None
unfolding bytes_of
no_payload = refl

no_raw : bytes_of most_raw_bytes semicolon ≡ None
unfolding bytes_of
no_raw = refl

number_part_without : Laws → (name : List ℕ) (words : List (List ℕ)) (o : Option ℕ) →
    bytes_eq name semicolon ≡ false → IsNumberPart name words o → IsWithout semicolon words
number_part_without laws name words None other h = without semicolon words [] h (no_words semicolon)
number_part_without laws name words (Some n) other h =
    without semicolon words (name ∷ h.0 ∷ []) h.2
    (pair semicolon name h.0 other (number_apart laws semicolon h.0 n unnumbered h.1))

command_without : Laws → (words : List (List ℕ)) (o : Option ℕ) → IsCommandPart words o →
    IsWithout semicolon words
command_without laws words None h = without semicolon words [] h (no_words semicolon)
command_without laws words (Some c) (inl h) =
    without semicolon words (h.0 ∷ []) h.2
    (word_before semicolon h.0 []
    (other_word command_named h.0 semicolon c (command_again h.0 c h.1) no_name)
    (no_words semicolon))
command_without laws words (Some c) (inr h) =
    without semicolon words (codes "cmd" ∷ h.0 ∷ []) h.2
    (pair semicolon (codes "cmd") h.0 refl
    (number_apart laws semicolon h.0 c unnumbered (h.1).0))

params_without : Laws → (words : List (List ℕ)) (o : Option Params) → IsParamsPart words o →
    IsWithout semicolon words
params_without laws words None h = without semicolon words [] h (no_words semicolon)
params_without laws words (Some p) h =
    without semicolon words (codes "params" ∷ h.0 ∷ h.1 ∷ []) h.4
    (word_before semicolon (codes "params") (h.0 ∷ h.1 ∷ []) refl
    (pair semicolon h.0 h.1
    (other_word mode_of h.0 semicolon p.mode (mode_again laws h.0 p.mode h.2) no_mode)
    (number_apart laws semicolon h.1 p.range unnumbered h.3)))

payload_without : Laws → (words : List (List ℕ)) (o : Option (List ℕ)) → IsPayloadPart words o →
    IsWithout semicolon words
payload_without laws words None h = without semicolon words [] h (no_words semicolon)
payload_without laws words (Some bytes) h =
    without semicolon words (codes "payload" ∷ h.0 ∷ []) h.2
    (pair semicolon (codes "payload") h.0 refl
    (other_word (bytes_of most_payload_bytes) h.0 semicolon bytes
    ((laws.bytes most_payload_bytes h.0 bytes).1 h.1) no_payload))

judgement_without : Laws → (words : List (List ℕ)) (j : Judgement) (bytes : Option (List ℕ)) →
    IsJudgement words j bytes → IsWithout semicolon words
judgement_without laws words j bytes h =
    let payload = words_before semicolon h.payload h.priority
    (payload_without laws h.payload bytes h.payload_is)
    (number_part_without laws (codes "priority") h.priority j.priority refl h.priority_is) in
    let mark = words_before semicolon h.mark (h.payload ++ h.priority)
    (number_part_without laws (codes "mark") h.mark j.mark refl h.mark_is) payload in
    let back : List (List ℕ) = h.mark ++ (h.payload ++ h.priority) in
    without semicolon words (h.queue ∷ h.verdict ∷ h.id ∷ back) h.words_are
    (word_before semicolon h.queue (h.verdict ∷ h.id ∷ back)
    (other_word queue_of h.queue semicolon j.queue (queue_again laws h.queue j.queue h.queue_is)
    no_queue)
    (word_before semicolon h.verdict (h.id ∷ back)
    (other_word verdict_word h.verdict semicolon j.verdict
    (verdict_again laws h.verdict j.verdict h.verdict_is) no_verdict)
    (word_before semicolon h.id back
    (other_word id_of h.id semicolon j.id (id_again laws h.id j.id h.id_is) no_id) mark)))

config_without : Laws → (words : List (List ℕ)) (queue : OrThis ℕ) (s : Settings) →
    IsConfig words queue s → IsWithout semicolon words
config_without laws words queue s h =
    let flags = words_before semicolon h.flags h.mask
    (number_part_without laws (codes "flags") h.flags s.flags refl h.flags_are)
    (number_part_without laws (codes "mask") h.mask s.mask refl h.mask_is) in
    let maxlen = words_before semicolon h.maxlen (h.flags ++ h.mask)
    (number_part_without laws (codes "maxlen") h.maxlen s.maxlen refl h.maxlen_is) flags in
    let params = words_before semicolon h.params (h.maxlen ++ (h.flags ++ h.mask))
    (params_without laws h.params s.params h.params_are) maxlen in
    let command = words_before semicolon h.command (h.params ++ (h.maxlen ++ (h.flags ++ h.mask)))
    (command_without laws h.command s.command h.command_is) params in
    without semicolon words
    (h.queue_word ∷ (h.command ++ (h.params ++ (h.maxlen ++ (h.flags ++ h.mask))))) h.words_are
    (word_before semicolon h.queue_word
    (h.command ++ (h.params ++ (h.maxlen ++ (h.flags ++ h.mask))))
    (other_word queue_of h.queue_word semicolon queue
    (queue_again laws h.queue_word queue h.queue_is) no_queue) command)

pub ask_without : Laws → (words : List (List ℕ)) (t : Template) → IsAsk words t →
    IsWithout (codes ";") words
ask_without laws words (ask.Config queue s) h =
    without semicolon words (codes "config" ∷ h.0) h.2
    (word_before semicolon (codes "config") h.0 refl (config_without laws h.0 queue s h.1))
ask_without laws words (ask.Verdict j payload) h =
    without semicolon words (codes "verdict" ∷ h.0) h.2
    (word_before semicolon (codes "verdict") h.0 refl (judgement_without laws h.0 j payload h.1))
ask_without laws words (ask.Batch j) h =
    without semicolon words (codes "batch" ∷ h.0) h.2
    (word_before semicolon (codes "batch") h.0 refl (judgement_without laws h.0 j None h.1))
ask_without laws words (ask.Raw bytes) h =
    without semicolon words (codes "raw" ∷ h.0 ∷ []) h.3
    (pair semicolon (codes "raw") h.0 refl
    (other_word (bytes_of most_raw_bytes) h.0 semicolon bytes
    ((laws.bytes most_raw_bytes h.0 bytes).1 h.1) no_raw))
