-- The parts of an ask that may be missing are read exactly where the grammar has them.
use Rattle.std.proofs.Common.{◌≡◌, ℕ, false, inl, inr, List, [], ◌∷◌, ◌++◌, append-nil}
use Rattle.std.proofs.Common.{Option, Some, None, ◌∙◌, refl, sym, ap, subst}
use Rattle.std.specs.Prelude.{◌↔◌, ◌^◌, bytes_eq, codes}
use Rattle.std.specs.Option.{option_map_or}
use Rattle.std.proofs.lemmas.Option.{same_Some}
use Rattle.text_lines.specs.Words.{◌>>=◌, first_word, words_after}
use Rattle.text_lines.specs.Digits.{decimal, decimal_below}
use Rattle.text_lines.specs.Hexadecimal.{IsSpelled, bytes_of}
use Rattle.text_lines.specs.Numerals.{IsNumeral}
use Rattle.nfqa_headers.specs.declared.params.Params.{Params}
use Rattle.script_lines.specs.AskLine.{command_named, command_part, mode_of, number_part}
use Rattle.script_lines.specs.AskLine.{params_part, value_part}
use Rattle.script_lines.specs.Grammar.{IsCommandPart, IsNumberPart, IsParamsPart, IsValuePart}
use Rattle.script_lines.specs.Grammar.{command_names}
use Rattle.script_lines.specs.Numbers.{most_payload_bytes}
use Rattle.script_lines.proofs.WordLaws.{Laws, below_again, below_some, bind_some, chosen}
use Rattle.script_lines.proofs.WordLaws.{first_word_some, name_differs, number_again, passed}
use Rattle.script_lines.proofs.WordLaws.{same_word, taken, word_is, words_after_some}
use Rattle.script_lines.proofs.WordForm.{command_again, command_some, mode_again, mode_some}

-- a part of a line, and the words after it
abbrev pub Begins : {V : Type 0} → (List (List ℕ) → V → Type 0) → List (List ℕ) →
    (V × List (List ℕ)) → Type 0
Begins Is words x = (front : List (List ℕ)) × Is front x.0 × (words ≡ front ++ x.1)

-- ---- [NAME VALUE]

-- what is read of a word is what its production has
abbrev pub Reads : {V : Type 0} → (List ℕ → Option V) → (List ℕ → V → Type 0) → Type 0
Reads {V} read Is = (word : List ℕ) (x : V) → (read word ≡ Some x) ↔ Is word x

pub payload_reads : Laws → Reads (bytes_of most_payload_bytes) (IsSpelled most_payload_bytes)
payload_reads laws = laws.bytes most_payload_bytes

value_there : {V : Type 0} (read : List ℕ → Option V) (Is : List ℕ → V → Type 0) →
    Reads read Is → (name : List ℕ) (words rest : List (List ℕ)) (x : Option V × List (List ℕ)) →
    words ≡ name ∷ rest →
    (first_word rest >>= λ word. read word.0 >>= λ value. Some (Some value, word.1)) ≡ Some x →
    Begins (IsValuePart Is name) words x
value_there read Is reads name words rest x is e =
    let word = bind_some (first_word rest) _ x e in
    let value = bind_some (read (word.0).0) _ x word.2 in
    subst (Begins (IsValuePart Is name) words) (same_Some _ x value.2) (
      name ∷ (word.0).0 ∷ [],
      ((word.0).0, (reads (word.0).0 value.0).0 value.1, refl),
      is ∙ ap (λ ws. name ∷ ws) (first_word_some rest word.0 word.1),
    )

pub value_some : {V : Type 0} (read : List ℕ → Option V) (Is : List ℕ → V → Type 0) →
    Reads read Is → (name : List ℕ) (words : List (List ℕ)) (x : Option V × List (List ℕ)) →
    value_part read name words ≡ Some x → Begins (IsValuePart Is name) words x
unfolding value_part
value_some read Is reads name words x e =
    elim (words_after name words) as
    (λ o. words_after name words ≡ o → option_map_or (λ rest. first_word rest >>= λ word.
    read word.0 >>= λ value. Some (Some value, word.1)) o (Some (None, words)) ≡ Some x →
    Begins (IsValuePart Is name) words x) [
      | None ↦ λ is f. subst (Begins (IsValuePart Is name) words) (same_Some _ x f)
          ([], refl, refl)
      | Some rest ↦ λ is f. value_there read Is reads name words rest x
          (words_after_some name words rest is) f
    ] refl e

pub value_again : {V : Type 0} (read : List ℕ → Option V) (Is : List ℕ → V → Type 0) →
    Reads read Is → (name : List ℕ) (front rest : List (List ℕ)) (o : Option V) →
    IsValuePart Is name front o → words_after name rest ≡ None →
    value_part read name (front ++ rest) ≡ Some (o, rest)
unfolding value_part
value_again read Is reads name front rest None h absent =
    ap (λ ws. value_part read name (ws ++ rest)) h
    ∙ ap (λ o. option_map_or (λ ws. first_word ws >>= λ word. read word.0 >>= λ value.
    Some (Some value, word.1)) o (Some (None, rest))) absent
value_again read Is reads name front rest (Some x) h absent =
    ap (λ ws. value_part read name (ws ++ rest)) h.2
    ∙ ap (λ o. option_map_or (λ ws. first_word ws >>= λ word. read word.0 >>= λ value.
    Some (Some value, word.1)) o (Some (None, name ∷ h.0 ∷ rest)))
    (taken (bytes_eq name name) (Some (h.0 ∷ rest)) None (word_is name name refl))
    ∙ ap (λ o. o >>= λ value. Some (Some value, rest)) ((reads h.0 x).1 h.1)

-- another name isn't the first word there
pub value_apart : {V : Type 0} (Is : List ℕ → V → Type 0) (name other : List ℕ)
    (front rest : List (List ℕ)) (o : Option V) → bytes_eq name other ≡ false →
    IsValuePart Is name front o → words_after other rest ≡ None →
    words_after other (front ++ rest) ≡ None
value_apart Is name other front rest None differ h absent =
    ap (λ ws. words_after other (ws ++ rest)) h ∙ absent
value_apart Is name other front rest (Some x) differ h absent =
    ap (λ ws. words_after other (ws ++ rest)) h.2
    ∙ passed (bytes_eq name other) (Some (h.0 ∷ rest)) None differ

-- ---- [NAME N]

pub number_some : Laws → (name : List ℕ) (words : List (List ℕ)) (x : Option ℕ × List (List ℕ)) →
    number_part name words ≡ Some x → Begins (IsNumberPart name) words x
number_some laws name words x e = value_some decimal IsNumeral laws.numerals name words x e

pub number_part_again : Laws → (name : List ℕ) (front rest : List (List ℕ)) (o : Option ℕ) →
    IsNumberPart name front o → words_after name rest ≡ None →
    number_part name (front ++ rest) ≡ Some (o, rest)
number_part_again laws name front rest o h absent =
    value_again decimal IsNumeral laws.numerals name front rest o h absent

-- the last part of a line
pub number_last : Laws → (name : List ℕ) (front : List (List ℕ)) (o : Option ℕ) →
    IsNumberPart name front o → number_part name front ≡ Some (o, [])
number_last laws name front o h =
    ap (number_part name) (sym (append-nil front)) ∙ number_part_again laws name front [] o h refl

pub number_apart : (name other : List ℕ) (front rest : List (List ℕ)) (o : Option ℕ) →
    bytes_eq name other ≡ false → IsNumberPart name front o → words_after other rest ≡ None →
    words_after other (front ++ rest) ≡ None
number_apart name other front rest o differ h absent =
    value_apart IsNumeral name other front rest o differ h absent

pub number_apart_last : (name other : List ℕ) (front : List (List ℕ)) (o : Option ℕ) →
    bytes_eq name other ≡ false → IsNumberPart name front o → words_after other front ≡ None
number_apart_last name other front o differ h =
    ap (words_after other) (sym (append-nil front))
    ∙ number_apart name other front [] o differ h refl

-- ---- [params MODE RANGE]

params_there : Laws → (words rest : List (List ℕ)) (x : Option Params × List (List ℕ)) →
    words ≡ codes "params" ∷ rest →
    (first_word rest >>= λ mode. mode_of mode.0 >>= λ mode_number. first_word mode.1 >>= λ range.
    decimal range.0 >>= λ number.
    Some (Some (record { range = number; mode = mode_number }), range.1)) ≡ Some x →
    Begins IsParamsPart words x
params_there laws words rest x is e =
    let mode = bind_some (first_word rest) _ x e in
    let mode_is = bind_some (mode_of (mode.0).0) _ x mode.2 in
    let range = bind_some (first_word (mode.0).1) _ x mode_is.2 in
    let range_is = bind_some (decimal (range.0).0) _ x range.2 in
    subst (Begins IsParamsPart words) (same_Some _ x range_is.2) (
      codes "params" ∷ (mode.0).0 ∷ (range.0).0 ∷ [],
      (
        (mode.0).0,
        (range.0).0,
        mode_some laws (mode.0).0 mode_is.0 mode_is.1,
        (laws.numerals (range.0).0 range_is.0).0 range_is.1,
        refl,
      ),
      is ∙ ap (λ ws. codes "params" ∷ ws) (first_word_some rest mode.0 mode.1
          ∙ ap (λ ws. (mode.0).0 ∷ ws) (first_word_some (mode.0).1 range.0 range.1)),
    )

pub params_some : Laws → (words : List (List ℕ)) (x : Option Params × List (List ℕ)) →
    params_part words ≡ Some x → Begins IsParamsPart words x
unfolding params_part
params_some laws words x e =
    elim (words_after (codes "params") words) as
    (λ o. words_after (codes "params") words ≡ o → option_map_or (λ rest. first_word rest >>=
    λ mode. mode_of mode.0 >>= λ mode_number. first_word mode.1 >>= λ range. decimal range.0 >>=
    λ number. Some (Some (record { range = number; mode = mode_number }), range.1)) o
    (Some (None, words)) ≡ Some x → Begins IsParamsPart words x) [
      | None ↦ λ is f. subst (Begins IsParamsPart words) (same_Some _ x f) ([], refl, refl)
      | Some rest ↦ λ is f. params_there laws words rest x
          (words_after_some (codes "params") words rest is) f
    ] refl e

pub params_again : Laws → (front rest : List (List ℕ)) (o : Option Params) →
    IsParamsPart front o → words_after (codes "params") rest ≡ None →
    params_part (front ++ rest) ≡ Some (o, rest)
unfolding params_part
params_again laws front rest None h absent =
    ap (λ ws. params_part (ws ++ rest)) h
    ∙ ap (λ o. option_map_or (λ ws. first_word ws >>= λ mode. mode_of mode.0 >>= λ mode_number.
    first_word mode.1 >>= λ range. decimal range.0 >>= λ number. Some
    (Some (record { range = number; mode = mode_number }), range.1)) o (Some (None, rest))) absent
params_again laws front rest (Some p) h absent =
    ap (λ ws. params_part (ws ++ rest)) h.4
    ∙ ap (λ o. o >>= λ mode_number. decimal h.1 >>= λ number. Some
    (Some (record { range = number; mode = mode_number }), rest)) (mode_again laws h.0 p.mode h.2)
    ∙ ap (λ o. o >>= λ number. Some (Some (record { range = number; mode = p.mode }), rest))
    (number_again laws h.1 p.range h.3)

-- ---- [bind | unbind | pfbind | pfunbind | cmd N]

command_by : (word : List ℕ) (rest : List (List ℕ)) (o : Option ℕ)
    (x : Option ℕ × List (List ℕ)) → command_named word ≡ o →
    option_map_or (λ command. (Some command, rest)) o (None, word ∷ rest) ≡ x →
    Begins IsCommandPart (word ∷ rest) x
command_by word rest None x is e = subst (Begins IsCommandPart (word ∷ rest)) e ([], refl, refl)
command_by word rest (Some c) x is e =
    subst (Begins IsCommandPart (word ∷ rest)) e
    (word ∷ [], inl (word, command_some word c is, refl), refl)

command_number : Laws → (word : List ℕ) (rest : List (List ℕ)) (x : Option ℕ × List (List ℕ)) →
    word ≡ codes "cmd" →
    (first_word rest >>= λ value. decimal_below (2 ^ 8) value.0 >>= λ number.
    Some (Some number, value.1)) ≡ Some x → Begins IsCommandPart (word ∷ rest) x
command_number laws word rest x is e =
    let value = bind_some (first_word rest) _ x e in
    let number = bind_some (decimal_below (2 ^ 8) (value.0).0) _ x value.2 in
    subst (Begins IsCommandPart (word ∷ rest)) (same_Some _ x number.2) (
      codes "cmd" ∷ (value.0).0 ∷ [],
      inr ((value.0).0, below_some laws (2 ^ 8) (value.0).0 number.0 number.1, refl),
      ap (λ w. w ∷ rest) is
          ∙ ap (λ ws. codes "cmd" ∷ ws) (first_word_some rest value.0 value.1),
    )

pub command_part_some : Laws → (words : List (List ℕ)) (x : Option ℕ × List (List ℕ)) →
    command_part words ≡ Some x → Begins IsCommandPart words x
unfolding command_part
command_part_some laws [] x e =
    subst (Begins IsCommandPart []) (same_Some _ x e) ([], refl, refl)
command_part_some laws (word ∷ rest) x e =
    elim (chosen (bytes_eq word (codes "cmd")) _ _ (Some x) e) [
      | inl h ↦ command_number laws word rest x (same_word word (codes "cmd") h.0) h.1
      | inr h ↦ command_by word rest (command_named word) x refl (same_Some _ x h.1)
    ]

pub command_part_again : Laws → (front rest : List (List ℕ)) (o : Option ℕ) →
    IsCommandPart front o → command_part rest ≡ Some (None, rest) →
    command_part (front ++ rest) ≡ Some (o, rest)
unfolding command_part
command_part_again laws front rest None h absent =
    ap (λ ws. command_part (ws ++ rest)) h ∙ absent
command_part_again laws front rest (Some c) (inl h) absent =
    ap (λ ws. command_part (ws ++ rest)) h.2
    ∙ passed (bytes_eq h.0 (codes "cmd")) _ _
    (name_differs command_names h.0 (codes "cmd") c refl h.1)
    ∙ ap (λ o. Some (option_map_or (λ command. (Some command, rest)) o (None, h.0 ∷ rest)))
    (command_again h.0 c h.1)
command_part_again laws front rest (Some c) (inr h) absent =
    ap (λ ws. command_part (ws ++ rest)) h.2
    ∙ ap (λ o. o >>= λ number. Some (Some number, rest)) (below_again laws (2 ^ 8) h.0 c h.1)
