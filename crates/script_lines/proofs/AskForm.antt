-- An ask is read from exactly the words that the grammar has for it.
use Rattle.std.proofs.Common.{◌≡◌, ℕ, cond, true, false, eqb, inl, inr, List, [], ◌∷◌, ◌++◌}
use Rattle.std.proofs.Common.{length, append-nil, Option, Some, None, ◌∙◌, refl, sym, ap, subst}
use Rattle.std.proofs.Common.{◌≤◌, arith}
use Rattle.std.specs.Prelude.{bytes_eq, codes}
use Rattle.std.proofs.lemmas.Bool.{eqb-true, false_from_ne_true, false≢true}
use Rattle.std.proofs.lemmas.Option.{cond_some, none-some, same_Some}
use Rattle.text_lines.specs.Words.{◌>>=◌, first_word}
use Rattle.text_lines.specs.Hexadecimal.{IsSpelled, bytes_of}
use Rattle.nfqa_headers.specs.declared.params.Params.{Params}
use Rattle.script_lines.specs.declared.template.OrThis.{OrThis}
use Rattle.script_lines.specs.declared.template.Judgement.{Judgement}
use Rattle.script_lines.specs.declared.template.Settings.{Settings}
use Rattle.script_lines.specs.declared.template.Template.{Template}
use Rattle.script_lines.specs.declared.template.Template.TheVariants as ask
use Rattle.script_lines.specs.Numbers.{most_payload_bytes, most_raw_bytes}
use Rattle.script_lines.specs.AskLine.{ask_of, batch_of, command_named, command_part, config_of}
use Rattle.script_lines.specs.AskLine.{id_of, judged, number_part, only_word, params_part}
use Rattle.script_lines.specs.AskLine.{payload_part, queue_of, raw_of, verdict_of, verdict_word}
use Rattle.script_lines.specs.AskLine.{with_priority}
use Rattle.script_lines.specs.Grammar.{IsAsk, IsConfig, IsId, IsJudgement, IsNumberPart}
use Rattle.script_lines.specs.Grammar.{IsParamsPart, IsPayloadPart, IsQueue, IsVerdict}
use Rattle.script_lines.proofs.WordLaws.{Laws, bind_some, chosen, first_word_some}
use Rattle.script_lines.proofs.WordLaws.{none_left, only_word_some, passed, same_word}
use Rattle.script_lines.proofs.WordForm.{id_again, id_some, queue_again, queue_some, verdict_again}
use Rattle.script_lines.proofs.WordForm.{verdict_some}
use Rattle.script_lines.proofs.AskPartForm.{Begins, command_part_again, command_part_some}
use Rattle.script_lines.proofs.AskPartForm.{number_apart, number_apart_last}
use Rattle.script_lines.proofs.AskPartForm.{number_last, number_some}
use Rattle.script_lines.proofs.AskPartForm.{number_part_again, params_again, params_some}
use Rattle.script_lines.proofs.AskPartForm.{payload_reads, value_again, value_apart, value_some}

-- ---- config

pub config_some : Laws → (words : List (List ℕ)) (t : Template) → config_of words ≡ Some t →
    IsAsk (codes "config" ∷ words) t
unfolding config_of
config_some laws words t e =
    let first = bind_some (first_word words) _ t e in
    let queue = bind_some (queue_of (first.0).0) _ t first.2 in
    let command = bind_some (command_part (first.0).1) _ t queue.2 in
    let params = bind_some (params_part (command.0).1) _ t command.2 in
    let maxlen = bind_some (number_part (codes "maxlen") (params.0).1) _ t params.2 in
    let flags = bind_some (number_part (codes "flags") (maxlen.0).1) _ t maxlen.2 in
    let mask = bind_some (number_part (codes "mask") (flags.0).1) _ t flags.2 in
    let parts = cond_some (eqb (length (mask.0).1) 0) _ t mask.2 in
    let c = command_part_some laws (first.0).1 command.0 command.1 in
    let p = params_some laws (command.0).1 params.0 params.1 in
    let m = number_some laws (codes "maxlen") (params.0).1 maxlen.0 maxlen.1 in
    let f = number_some laws (codes "flags") (maxlen.0).1 flags.0 flags.1 in
    let k = number_some laws (codes "mask") (flags.0).1 mask.0 mask.1 in
    let last : (flags.0).1 ≡ k.0 =
    k.2 ∙ ap (λ ws. k.0 ++ ws) (none_left (mask.0).1 parts.0) ∙ append-nil k.0 in
    subst (IsAsk (codes "config" ∷ words)) parts.1 (
      words,
      record {
        queue_word = (first.0).0;
        command = c.0;
        params = p.0;
        maxlen = m.0;
        flags = f.0;
        mask = k.0;
        queue_is = queue_some laws (first.0).0 queue.0 queue.1;
        command_is = c.1;
        params_are = p.1;
        maxlen_is = m.1;
        flags_are = f.1;
        mask_is = k.1;
        words_are = first_word_some words first.0 first.1 ∙ ap (λ ws. (first.0).0 ∷ ws)
            (c.2 ∙ ap (λ ws. c.0 ++ ws) (p.2 ∙ ap (λ ws. p.0 ++ ws)
            (m.2 ∙ ap (λ ws. m.0 ++ ws) (f.2 ∙ ap (λ ws. f.0 ++ ws) last))));
      },
      refl,
    )

-- the parts of a config are no command

-- a line that begins with this word begins with no command
abbrev IsNoCommand : List ℕ → Type 0
IsNoCommand name =
    (rest : List (List ℕ)) → command_part (name ∷ rest) ≡ Some (None, name ∷ rest)

params_no_command : IsNoCommand (codes "params")
unfolding command_part command_named
params_no_command rest = refl

maxlen_no_command : IsNoCommand (codes "maxlen")
unfolding command_part command_named
maxlen_no_command rest = refl

flags_no_command : IsNoCommand (codes "flags")
unfolding command_part command_named
flags_no_command rest = refl

mask_no_command : IsNoCommand (codes "mask")
unfolding command_part command_named
mask_no_command rest = refl

nothing_left : command_part [] ≡ Some (None, [])
unfolding command_part
nothing_left = refl

-- no command stands in front of these words
abbrev Uncommanded : List (List ℕ) → Type 0
Uncommanded words = command_part words ≡ Some (None, words)

no_command_number : (name : List ℕ) (front rest : List (List ℕ)) (o : Option ℕ) →
    IsNoCommand name → IsNumberPart name front o → Uncommanded rest →
    Uncommanded (front ++ rest)
no_command_number name front rest None starts h absent =
    subst (λ (ws : List (List ℕ)). Uncommanded (ws ++ rest)) (sym h) absent
no_command_number name front rest (Some n) starts h absent =
    subst (λ (ws : List (List ℕ)). Uncommanded (ws ++ rest)) (sym h.2) (starts (h.0 ∷ rest))

no_command_mask : (mask : List (List ℕ)) (o : Option ℕ) →
    IsNumberPart (codes "mask") mask o → Uncommanded mask
no_command_mask mask o h =
    subst Uncommanded (append-nil mask)
    (no_command_number (codes "mask") mask [] o mask_no_command h nothing_left)

no_command_params : (params rest : List (List ℕ)) (o : Option Params) → IsParamsPart params o →
    Uncommanded rest → Uncommanded (params ++ rest)
no_command_params params rest None h absent =
    subst (λ (ws : List (List ℕ)). Uncommanded (ws ++ rest)) (sym h) absent
no_command_params params rest (Some p) h absent =
    subst (λ (ws : List (List ℕ)). Uncommanded (ws ++ rest)) (sym h.4)
    (params_no_command (h.0 ∷ h.1 ∷ rest))

config_again : Laws → (words : List (List ℕ)) (queue : OrThis ℕ) (s : Settings) →
    IsConfig words queue s → config_of words ≡ Some (ask.Config queue s)
unfolding config_of
config_again laws words queue s h =
    let back = h.flags ++ h.mask in
    let rest = h.maxlen ++ back in
    let no_flags = number_apart_last (codes "mask") (codes "flags") h.mask s.mask refl h.mask_is in
    let no_maxlen =
    number_apart (codes "flags") (codes "maxlen") h.flags h.mask s.flags refl h.flags_are
    (number_apart_last (codes "mask") (codes "maxlen") h.mask s.mask refl h.mask_is) in
    let no_params =
    number_apart (codes "maxlen") (codes "params") h.maxlen back s.maxlen refl h.maxlen_is
    (number_apart (codes "flags") (codes "params") h.flags h.mask s.flags refl h.flags_are
    (number_apart_last (codes "mask") (codes "params") h.mask s.mask refl h.mask_is)) in
    let no_command =
    no_command_params h.params rest s.params h.params_are
    (no_command_number (codes "maxlen") h.maxlen back s.maxlen maxlen_no_command h.maxlen_is
    (no_command_number (codes "flags") h.flags h.mask s.flags flags_no_command h.flags_are
    (no_command_mask h.mask s.mask h.mask_is))) in
    ap config_of h.words_are
    ∙ ap (λ o. o >>= λ q. command_part (h.command ++ (h.params ++ rest)) >>= λ command.
    params_part command.1 >>= λ params. number_part (codes "maxlen") params.1 >>= λ maxlen.
    number_part (codes "flags") maxlen.1 >>= λ flags. number_part (codes "mask") flags.1 >>=
    λ mask. cond (eqb (length mask.1) 0) (Some (ask.Config q (record {
      command = command.0;
      params = params.0;
      maxlen = maxlen.0;
      flags = flags.0;
      mask = mask.0;
    }))) None) (queue_again laws h.queue_word queue h.queue_is)
    ∙ ap (λ o. o >>= λ command. params_part command.1 >>= λ params.
    number_part (codes "maxlen") params.1 >>= λ maxlen. number_part (codes "flags") maxlen.1 >>=
    λ flags. number_part (codes "mask") flags.1 >>= λ mask. cond (eqb (length mask.1) 0)
    (Some (ask.Config queue (record {
      command = command.0;
      params = params.0;
      maxlen = maxlen.0;
      flags = flags.0;
      mask = mask.0;
    }))) None)
    (command_part_again laws h.command (h.params ++ rest) s.command h.command_is no_command)
    ∙ ap (λ o. o >>= λ params. number_part (codes "maxlen") params.1 >>= λ maxlen.
    number_part (codes "flags") maxlen.1 >>= λ flags. number_part (codes "mask") flags.1 >>=
    λ mask. cond (eqb (length mask.1) 0) (Some (ask.Config queue (record {
      command = s.command;
      params = params.0;
      maxlen = maxlen.0;
      flags = flags.0;
      mask = mask.0;
    }))) None) (params_again laws h.params rest s.params h.params_are no_params)
    ∙ ap (λ o. o >>= λ maxlen. number_part (codes "flags") maxlen.1 >>= λ flags.
    number_part (codes "mask") flags.1 >>= λ mask. cond (eqb (length mask.1) 0)
    (Some (ask.Config queue (record {
      command = s.command;
      params = s.params;
      maxlen = maxlen.0;
      flags = flags.0;
      mask = mask.0;
    }))) None)
    (number_part_again laws (codes "maxlen") h.maxlen back s.maxlen h.maxlen_is no_maxlen)
    ∙ ap (λ o. o >>= λ flags. number_part (codes "mask") flags.1 >>= λ mask.
    cond (eqb (length mask.1) 0) (Some (ask.Config queue (record {
      command = s.command;
      params = s.params;
      maxlen = s.maxlen;
      flags = flags.0;
      mask = mask.0;
    }))) None) (number_part_again laws (codes "flags") h.flags h.mask s.flags h.flags_are no_flags)
    ∙ ap (λ o. o >>= λ mask. cond (eqb (length mask.1) 0) (Some (ask.Config queue (record {
      command = s.command;
      params = s.params;
      maxlen = s.maxlen;
      flags = s.flags;
      mask = mask.0;
    }))) None) (number_last laws (codes "mask") h.mask s.mask h.mask_is)

-- ---- Q VERDICT ID [mark N] [payload BYTES] [priority N]

-- a judgement with this priority
abbrev prioritized : Judgement → Option ℕ → Judgement
prioritized j priority = record {
  queue = j.queue;
  verdict = j.verdict;
  id = j.id;
  mark = j.mark;
  priority = priority;
}

-- what stands before a payload and a priority
record IsFront (words : List (List ℕ)) (j : Judgement) : Type 0 where
  queue : List ℕ
  verdict : List ℕ
  id : List ℕ
  mark : List (List ℕ)
  queue_is : IsQueue queue j.queue
  verdict_is : IsVerdict verdict j.verdict
  id_is : IsId id j.id
  mark_is : IsNumberPart (codes "mark") mark j.mark
  words_are : words ≡ queue ∷ verdict ∷ id ∷ mark

judged_some : Laws → (words : List (List ℕ)) (x : Judgement × List (List ℕ)) →
    judged words ≡ Some x → Begins IsFront words x
unfolding judged
judged_some laws words x e =
    let first = bind_some (first_word words) _ x e in
    let queue = bind_some (queue_of (first.0).0) _ x first.2 in
    let second = bind_some (first_word (first.0).1) _ x queue.2 in
    let verdict = bind_some (verdict_word (second.0).0) _ x second.2 in
    let third = bind_some (first_word (second.0).1) _ x verdict.2 in
    let id = bind_some (id_of (third.0).0) _ x third.2 in
    let mark = bind_some (number_part (codes "mark") (third.0).1) _ x id.2 in
    let m = number_some laws (codes "mark") (third.0).1 mark.0 mark.1 in
    subst (Begins IsFront words) (same_Some _ x mark.2) (
      (first.0).0 ∷ (second.0).0 ∷ (third.0).0 ∷ m.0,
      record {
        queue = (first.0).0;
        verdict = (second.0).0;
        id = (third.0).0;
        mark = m.0;
        queue_is = queue_some laws (first.0).0 queue.0 queue.1;
        verdict_is = verdict_some laws (second.0).0 verdict.0 verdict.1;
        id_is = id_some laws (third.0).0 id.0 id.1;
        mark_is = m.1;
        words_are = refl;
      },
      first_word_some words first.0 first.1 ∙ ap (λ ws. (first.0).0 ∷ ws)
          (first_word_some (first.0).1 second.0 second.1 ∙ ap (λ ws. (second.0).0 ∷ ws)
          (first_word_some (second.0).1 third.0 third.1 ∙ ap (λ ws. (third.0).0 ∷ ws) m.2)),
    )

priority_some : Laws → (j t : Judgement) (words : List (List ℕ)) →
    with_priority j words ≡ Some t →
    (o : Option ℕ) × IsNumberPart (codes "priority") words o × (prioritized j o ≡ t)
unfolding with_priority
priority_some laws j t words e =
    let priority = bind_some (number_part (codes "priority") words) _ t e in
    let parts = cond_some (eqb (length (priority.0).1) 0) _ t priority.2 in
    let p = number_some laws (codes "priority") words priority.0 priority.1 in
    let all : p.0 ≡ words =
    sym (p.2 ∙ ap (λ ws. p.0 ++ ws) (none_left (priority.0).1 parts.0) ∙ append-nil p.0) in (
      (priority.0).0,
      subst (λ (ws : List (List ℕ)). IsNumberPart (codes "priority") ws (priority.0).0) all p.1,
      parts.1,
    )

-- the parts of a line that was read, all together
judgement_is : (words front payload priority back : List (List ℕ)) (j : Judgement)
    (bytes : Option (List ℕ)) (o : Option ℕ) → IsFront front j → IsPayloadPart payload bytes →
    IsNumberPart (codes "priority") priority o → words ≡ front ++ back →
    back ≡ payload ++ priority → IsJudgement words (prioritized j o) bytes
judgement_is words front payload priority back j bytes o h g f words_are back_is = record {
  queue = h.queue;
  verdict = h.verdict;
  id = h.id;
  mark = h.mark;
  payload = payload;
  priority = priority;
  queue_is = h.queue_is;
  verdict_is = h.verdict_is;
  id_is = h.id_is;
  mark_is = h.mark_is;
  payload_is = g;
  priority_is = f;
  words_are = words_are ∙ ap (λ ws. ws ++ back) h.words_are
      ∙ ap (λ ws. h.queue ∷ h.verdict ∷ h.id ∷ (h.mark ++ ws)) back_is;
}

judged_again : Laws → (words : List (List ℕ)) (j : Judgement) (bytes : Option (List ℕ))
    (h : IsJudgement words j bytes) →
    judged words ≡ Some (prioritized j None, h.payload ++ h.priority)
unfolding judged
judged_again laws words j bytes h =
    let rest = h.payload ++ h.priority in
    let no_mark = value_apart (IsSpelled most_payload_bytes) (codes "payload") (codes "mark")
    h.payload h.priority bytes refl h.payload_is
    (number_apart_last (codes "priority") (codes "mark") h.priority j.priority refl
    h.priority_is) in
    ap judged h.words_are
    ∙ ap (λ o. o >>= λ queue. verdict_word h.verdict >>= λ verdict. id_of h.id >>= λ id.
    number_part (codes "mark") (h.mark ++ rest) >>= λ mark. Some (
      record {
        queue = queue;
        verdict = verdict;
        id = id;
        mark = mark.0;
        priority = None;
      },
      mark.1,
    )) (queue_again laws h.queue j.queue h.queue_is)
    ∙ ap (λ o. o >>= λ verdict. id_of h.id >>= λ id.
    number_part (codes "mark") (h.mark ++ rest) >>= λ mark. Some (
      record {
        queue = j.queue;
        verdict = verdict;
        id = id;
        mark = mark.0;
        priority = None;
      },
      mark.1,
    )) (verdict_again laws h.verdict j.verdict h.verdict_is)
    ∙ ap (λ o. o >>= λ id. number_part (codes "mark") (h.mark ++ rest) >>= λ mark. Some (
      record {
        queue = j.queue;
        verdict = j.verdict;
        id = id;
        mark = mark.0;
        priority = None;
      },
      mark.1,
    )) (id_again laws h.id j.id h.id_is)
    ∙ ap (λ o. o >>= λ mark. Some (
      record {
        queue = j.queue;
        verdict = j.verdict;
        id = j.id;
        mark = mark.0;
        priority = None;
      },
      mark.1,
    )) (number_part_again laws (codes "mark") h.mark rest j.mark h.mark_is no_mark)

priority_again : Laws → (j : Judgement) (words : List (List ℕ)) (o : Option ℕ) →
    IsNumberPart (codes "priority") words o →
    with_priority (prioritized j None) words ≡ Some (prioritized j o)
unfolding with_priority
priority_again laws j words o h =
    ap (λ o. o >>= λ priority. cond (eqb (length priority.1) 0)
    (Some (prioritized j priority.0)) None) (number_last laws (codes "priority") words o h)

-- ---- verdict, batch, raw

some_byte : (bytes : List ℕ) → eqb (length bytes) 0 ≡ false → 1 ≤ length bytes
some_byte [] e = absurd (false≢true (sym e))
some_byte (b ∷ bs) e = omega arith

not_empty : (bytes : List ℕ) → 1 ≤ length bytes → eqb (length bytes) 0 ≡ false
not_empty bytes some =
    false_from_ne_true (eqb (length bytes) 0)
    (λ e. let none : length bytes ≡ 0 = eqb-true (length bytes) 0 e in omega arith)

pub verdict_line_some : Laws → (words : List (List ℕ)) (t : Template) → verdict_of words ≡ Some t →
    IsAsk (codes "verdict" ∷ words) t
unfolding verdict_of
verdict_line_some laws words t e =
    let j = bind_some (judged words) _ t e in
    let payload = bind_some (payload_part (j.0).1) _ t j.2 in
    let whole = bind_some (with_priority (j.0).0 (payload.0).1) _ t payload.2 in
    let front = judged_some laws words j.0 j.1 in
    let bytes = value_some (bytes_of most_payload_bytes) (IsSpelled most_payload_bytes)
    (payload_reads laws) (codes "payload") (j.0).1 payload.0 payload.1 in
    let priority = priority_some laws (j.0).0 whole.0 (payload.0).1 whole.1 in
    let is = judgement_is words front.0 bytes.0 (payload.0).1 (j.0).1 (j.0).0 (payload.0).0
    priority.0 front.1 bytes.1 priority.1 front.2 bytes.2 in
    subst (IsAsk (codes "verdict" ∷ words)) (same_Some _ t whole.2)
    (words, subst (λ x. IsJudgement words x (payload.0).0) priority.2 is, refl)

verdict_line_again : Laws → (words : List (List ℕ)) (j : Judgement)
    (bytes : Option (List ℕ)) → IsJudgement words j bytes →
    verdict_of words ≡ Some (ask.Verdict j bytes)
unfolding verdict_of
verdict_line_again laws words j bytes h =
    let no_payload = number_apart_last (codes "priority") (codes "payload") h.priority j.priority
    refl h.priority_is in
    ap (λ o. o >>= λ (x : Judgement × List (List ℕ)). payload_part x.1 >>= λ payload.
    with_priority x.0 payload.1 >>= λ judgement. Some (ask.Verdict judgement payload.0))
    (judged_again laws words j bytes h)
    ∙ ap (λ o. o >>= λ (payload : Option (List ℕ) × List (List ℕ)).
    with_priority (prioritized j None) payload.1 >>= λ judgement.
    Some (ask.Verdict judgement payload.0))
    (value_again (bytes_of most_payload_bytes) (IsSpelled most_payload_bytes)
    (payload_reads laws) (codes "payload") h.payload h.priority bytes h.payload_is no_payload)
    ∙ ap (λ o. o >>= λ judgement. Some (ask.Verdict judgement bytes))
    (priority_again laws j h.priority j.priority h.priority_is)

pub batch_some : Laws → (words : List (List ℕ)) (t : Template) → batch_of words ≡ Some t →
    IsAsk (codes "batch" ∷ words) t
unfolding batch_of
batch_some laws words t e =
    let j = bind_some (judged words) _ t e in
    let whole = bind_some (with_priority (j.0).0 (j.0).1) _ t j.2 in
    let front = judged_some laws words j.0 j.1 in
    let priority = priority_some laws (j.0).0 whole.0 (j.0).1 whole.1 in
    let is = judgement_is words front.0 [] (j.0).1 (j.0).1 (j.0).0 None priority.0 front.1 refl
    priority.1 front.2 refl in
    subst (IsAsk (codes "batch" ∷ words)) (same_Some _ t whole.2)
    (words, subst (λ x. IsJudgement words x None) priority.2 is, refl)

batch_again : Laws → (words : List (List ℕ)) (j : Judgement) → IsJudgement words j None →
    batch_of words ≡ Some (ask.Batch j)
unfolding batch_of
batch_again laws words j h =
    ap (λ o. o >>= λ (x : Judgement × List (List ℕ)). with_priority x.0 x.1 >>= λ judgement.
    Some (ask.Batch judgement)) (judged_again laws words j None h)
    ∙ ap (λ ws. with_priority (prioritized j None) (ws ++ h.priority) >>= λ judgement.
    Some (ask.Batch judgement)) h.payload_is
    ∙ ap (λ o. o >>= λ judgement. Some (ask.Batch judgement))
    (priority_again laws j h.priority j.priority h.priority_is)

pub raw_some : Laws → (words : List (List ℕ)) (t : Template) → raw_of words ≡ Some t →
    IsAsk (codes "raw" ∷ words) t
unfolding raw_of
raw_some laws words t e =
    let word = bind_some (only_word words) _ t e in
    let bytes = bind_some (bytes_of most_raw_bytes word.0) _ t word.2 in
    elim (chosen (eqb (length bytes.0) 0) None (Some (ask.Raw bytes.0)) (Some t) bytes.2) [
      | inl h ↦ absurd (none-some t h.1)
      | inr h ↦
          subst (IsAsk (codes "raw" ∷ words)) (same_Some (ask.Raw bytes.0) t h.1) (
            word.0,
            (laws.bytes most_raw_bytes word.0 bytes.0).0 bytes.1,
            some_byte bytes.0 h.0,
            ap (λ ws. codes "raw" ∷ ws) (only_word_some words word.0 word.1),
          )
    ]

raw_again : Laws → (word bytes : List ℕ) → bytes_of most_raw_bytes word ≡ Some bytes →
    1 ≤ length bytes → raw_of (word ∷ []) ≡ Some (ask.Raw bytes)
unfolding raw_of
raw_again laws word bytes is some =
    ap (λ o. o >>= λ bytes. cond (eqb (length bytes) 0) None (Some (ask.Raw bytes))) is
    ∙ passed (eqb (length bytes) 0) None (Some (ask.Raw bytes)) (not_empty bytes some)

-- ---- all asks

pub ask_some : Laws → (words : List (List ℕ)) (t : Template) → ask_of words ≡ Some t →
    IsAsk words t
unfolding ask_of
ask_some laws words t e =
    let word = bind_some (first_word words) _ t e in
    let Means : List (List ℕ) → Type 0 = λ ws. IsAsk ws t in
    let first = first_word_some words word.0 word.1 in
    let with_word : (name : List ℕ) → bytes_eq (word.0).0 name ≡ true → words ≡ name ∷ (word.0).1 =
    λ name is. first ∙ ap (λ w. w ∷ (word.0).1) (same_word (word.0).0 name is) in
    elim (chosen (bytes_eq (word.0).0 (codes "config")) _ _ (Some t) word.2) [
      | inl h ↦ subst Means (sym (with_word (codes "config") h.0))
          (config_some laws (word.0).1 t h.1)
      | inr h ↦ elim (chosen (bytes_eq (word.0).0 (codes "verdict")) _ _ (Some t) h.1) [
        | inl g ↦ subst Means (sym (with_word (codes "verdict") g.0))
            (verdict_line_some laws (word.0).1 t g.1)
        | inr g ↦ elim (chosen (bytes_eq (word.0).0 (codes "batch")) _ _ (Some t) g.1) [
          | inl f ↦ subst Means (sym (with_word (codes "batch") f.0))
              (batch_some laws (word.0).1 t f.1)
          | inr f ↦ elim (chosen (bytes_eq (word.0).0 (codes "raw")) _ None (Some t) f.1) [
            | inl d ↦ subst Means (sym (with_word (codes "raw") d.0))
                (raw_some laws (word.0).1 t d.1)
            | inr d ↦ absurd (none-some t d.1)
          ]
        ]
      ]
    ]

pub ask_again : Laws → (words : List (List ℕ)) (t : Template) → IsAsk words t →
    ask_of words ≡ Some t
unfolding ask_of
ask_again laws words (ask.Config queue settings) h =
    ap ask_of h.2 ∙ config_again laws h.0 queue settings h.1
ask_again laws words (ask.Verdict j payload) h =
    ap ask_of h.2 ∙ verdict_line_again laws h.0 j payload h.1
ask_again laws words (ask.Batch j) h = ap ask_of h.2 ∙ batch_again laws h.0 j h.1
ask_again laws words (ask.Raw bytes) h =
    ap ask_of h.3
    ∙ raw_again laws h.0 bytes ((laws.bytes most_raw_bytes h.0 bytes).1 h.1) h.2

-- an ask isn't `close`
pub starts_apart : (words : List (List ℕ)) (t : Template) → IsAsk words t →
    (first : List ℕ) × (rest : List (List ℕ)) × (words ≡ first ∷ rest)
    × (bytes_eq first (codes "close") ≡ false)
starts_apart words (ask.Config queue settings) h = (codes "config", h.0, h.2, refl)
starts_apart words (ask.Verdict j payload) h = (codes "verdict", h.0, h.2, refl)
starts_apart words (ask.Batch j) h = (codes "batch", h.0, h.2, refl)
starts_apart words (ask.Raw bytes) h = (codes "raw", h.0 ∷ [], h.3, refl)
