-- The single words of a line are read exactly where the grammar has them.
use Rattle.std.proofs.Common.{◌≡◌, ℕ, ◌+◌, cond, true, ◌⊎◌, inl, inr, List}
use Rattle.std.proofs.Common.{◌∷◌, ◌++◌, Some, None, ◌∙◌, refl, sym, ap, subst}
use Rattle.std.specs.Prelude.{◌^◌, bytes_eq, codes, option_map}
use Rattle.std.specs.Option.{option_map_or}
use Rattle.std.proofs.lemmas.Option.{none-some, same_Some}
use Rattle.text_lines.specs.Words.{byte, cut_at}
use Rattle.text_lines.specs.Digits.{decimal, decimal_below, digits_onto, number}
use Rattle.queue_core.specs.Numbers.{bypass_bit}
use Rattle.script_lines.specs.declared.template.OrThis.{OrThis}
use Rattle.script_lines.specs.declared.template.OrThis.TheVariants.{This, Number}
use Rattle.script_lines.specs.AskLine.{command_named, id_of, mode_of, numbered_verdict, queue_of}
use Rattle.script_lines.specs.AskLine.{queue_verdict, to_queue, verdict_word}
use Rattle.script_lines.specs.Grammar.{IsId, IsMode, IsName, IsOnward, IsQueue, IsVerdict}
use Rattle.script_lines.specs.Grammar.{command_names, mode_names, verdict_names}
use Rattle.text_lines.specs.Numerals.{IsNumeral}
use Rattle.script_lines.proofs.WordLaws.{Laws, below_again, below_some, chosen}
use Rattle.script_lines.proofs.WordLaws.{cut_front, cut_some, map_some, named_again, named_read}
use Rattle.script_lines.proofs.WordLaws.{named_some, none_read, number_again, number_uncut}
use Rattle.script_lines.proofs.WordLaws.{other_word, passed, same_word}

-- ---- no keyword is a number

this_unread : decimal (codes "this") ≡ None
unfolding decimal number digits_onto
this_unread = refl

verdicts_unread : none_read decimal verdict_names ≡ true
unfolding decimal number digits_onto
verdicts_unread = refl

modes_unread : none_read decimal mode_names ≡ true
unfolding decimal number digits_onto
modes_unread = refl

-- ---- a number or `this`

pub queue_some : Laws → (word : List ℕ) (q : OrThis ℕ) → queue_of word ≡ Some q → IsQueue word q
queue_some laws word q e =
    elim (chosen (bytes_eq word (codes "this")) (Some This) _ (Some q) e) [
      | inl h ↦ subst (IsQueue word) (same_Some This q h.1) (same_word word (codes "this") h.0)
      | inr h ↦ let n = map_some Number (decimal_below (2 ^ 16) word) q h.1 in
          subst (IsQueue word) n.2 (below_some laws (2 ^ 16) word n.0 n.1)
    ]

pub queue_again : Laws → (word : List ℕ) (q : OrThis ℕ) → IsQueue word q → queue_of word ≡ Some q
queue_again laws word This h = ap queue_of h
queue_again laws word (Number n) h =
    passed (bytes_eq word (codes "this")) _ _
    (other_word decimal word (codes "this") n (number_again laws word n h.0) this_unread)
    ∙ ap (λ o. option_map Number o) (below_again laws (2 ^ 16) word n h)

pub id_some : Laws → (word : List ℕ) (i : OrThis ℕ) → id_of word ≡ Some i → IsId word i
id_some laws word i e =
    elim (chosen (bytes_eq word (codes "this")) (Some This) _ (Some i) e) [
      | inl h ↦ subst (IsId word) (same_Some This i h.1) (same_word word (codes "this") h.0)
      | inr h ↦ let n = map_some Number (decimal word) i h.1 in
          subst (IsId word) n.2 ((laws.numerals word n.0).0 n.1)
    ]

pub id_again : Laws → (word : List ℕ) (i : OrThis ℕ) → IsId word i → id_of word ≡ Some i
id_again laws word This h = ap id_of h
id_again laws word (Number n) h =
    passed (bytes_eq word (codes "this")) _ _
    (other_word decimal word (codes "this") n (number_again laws word n h) this_unread)
    ∙ ap (λ o. option_map Number o) (number_again laws word n h)

-- ---- verdicts

plain_queue : Laws → (word : List ℕ) (v : ℕ) →
    option_map to_queue (decimal_below (2 ^ 16) word) ≡ Some v →
    IsOnward (codes "queue:" ++ word) v
plain_queue laws word v e =
    let queue = map_some to_queue (decimal_below (2 ^ 16) word) v e in
    (word, queue.0, below_some laws (2 ^ 16) word queue.0 queue.1, inl (refl, sym queue.2))

with_bypass : Laws → (word option : List ℕ) (v : ℕ) → option ≡ codes "bypass" →
    option_map (λ queue. to_queue queue + bypass_bit) (decimal_below (2 ^ 16) word) ≡ Some v →
    IsOnward (codes "queue:" ++ (word ++ byte ":" ∷ option)) v
with_bypass laws word option v is e =
    let queue =
    map_some (λ queue. to_queue queue + bypass_bit) (decimal_below (2 ^ 16) word) v e in (
      word,
      queue.0,
      below_some laws (2 ^ 16) word queue.0 queue.1,
      inr (ap (λ o. codes "queue:" ++ (word ++ byte ":" ∷ o)) is, sym queue.2),
    )

onward_some : Laws → (word : List ℕ) (v : ℕ) → queue_verdict word ≡ Some v →
    IsOnward (codes "queue:" ++ word) v
unfolding queue_verdict
onward_some laws word v e =
    elim (cut_at (byte ":") word) as
    (λ o. cut_at (byte ":") word ≡ o → option_map_or (λ parts.
    cond (bytes_eq parts.1 (codes "bypass"))
    (option_map (λ queue. to_queue queue + bypass_bit) (decimal_below (2 ^ 16) parts.0)) None) o
    (option_map to_queue (decimal_below (2 ^ 16) word)) ≡ Some v →
    IsOnward (codes "queue:" ++ word) v) [
      | None ↦ λ cut f. plain_queue laws word v f
      | Some parts ↦ λ cut f.
          elim (chosen (bytes_eq parts.1 (codes "bypass")) _ None (Some v) f) [
            | inl h ↦ subst (λ w. IsOnward (codes "queue:" ++ w) v)
                (sym (cut_some (byte ":") word parts cut))
                (with_bypass laws parts.0 parts.1 v (same_word parts.1 (codes "bypass") h.0) h.1)
            | inr h ↦ absurd (none-some v h.1)
          ]
    ] refl e

numbered_some : Laws → (word : List ℕ) (v : ℕ) → numbered_verdict word ≡ Some v →
    IsOnward word v ⊎ IsNumeral word v
unfolding numbered_verdict
numbered_some laws word v e =
    elim (cut_at (byte ":") word) as
    (λ o. cut_at (byte ":") word ≡ o → option_map_or (λ parts.
    cond (bytes_eq parts.0 (codes "queue")) (queue_verdict parts.1) None) o (decimal word)
    ≡ Some v → IsOnward word v ⊎ IsNumeral word v) [
      | None ↦ λ cut f. inr ((laws.numerals word v).0 f)
      | Some parts ↦ λ cut f.
          elim (chosen (bytes_eq parts.0 (codes "queue")) _ None (Some v) f) [
            | inl h ↦ inl (subst (λ w. IsOnward w v)
                (sym (cut_some (byte ":") word parts cut
                ∙ ap (λ w. w ++ byte ":" ∷ parts.1) (same_word parts.0 (codes "queue") h.0)))
                (onward_some laws parts.1 v h.1))
            | inr h ↦ absurd (none-some v h.1)
          ]
    ] refl e

pub verdict_some : Laws → (word : List ℕ) (v : ℕ) → verdict_word word ≡ Some v → IsVerdict word v
unfolding verdict_word
verdict_some laws word v e =
    elim (named_some verdict_names word (numbered_verdict word) v e)
    [ inl h ↦ inl h | inr h ↦ inr (numbered_some laws word v h) ]

uncut : Laws → (word : List ℕ) (n : ℕ) → IsNumeral word n → cut_at (byte ":") word ≡ None
uncut laws word n h = number_uncut (byte ":") word n refl (number_again laws word n h)

plain_again : Laws → (word : List ℕ) (queue : ℕ) → IsQueue word (Number queue) →
    verdict_word (codes "queue:" ++ word) ≡ Some (to_queue queue)
unfolding verdict_word numbered_verdict queue_verdict
plain_again laws word queue h =
    ap (λ o. option_map_or (λ (parts : List ℕ × List ℕ).
    cond (bytes_eq parts.1 (codes "bypass"))
    (option_map (λ queue. to_queue queue + bypass_bit) (decimal_below (2 ^ 16) parts.0)) None) o
    (option_map to_queue (decimal_below (2 ^ 16) word))) (uncut laws word queue h.0)
    ∙ ap (λ o. option_map to_queue o) (below_again laws (2 ^ 16) word queue h)

bypass_again : Laws → (word : List ℕ) (queue : ℕ) → IsQueue word (Number queue) →
    verdict_word (codes "queue:" ++ (word ++ codes ":bypass")) ≡ Some (to_queue queue + bypass_bit)
unfolding verdict_word numbered_verdict queue_verdict
bypass_again laws word queue h =
    ap (λ o. option_map_or (λ (parts : List ℕ × List ℕ).
    cond (bytes_eq parts.1 (codes "bypass"))
    (option_map (λ queue. to_queue queue + bypass_bit) (decimal_below (2 ^ 16) parts.0)) None) o
    (option_map to_queue (decimal_below (2 ^ 16) (word ++ codes ":bypass"))))
    (cut_front (byte ":") word (codes "bypass") (uncut laws word queue h.0))
    ∙ ap (λ o. option_map (λ queue. to_queue queue + bypass_bit) o)
    (below_again laws (2 ^ 16) word queue h)

numeral_again : Laws → (word : List ℕ) (v : ℕ) → IsNumeral word v → verdict_word word ≡ Some v
unfolding verdict_word numbered_verdict
numeral_again laws word v h =
    named_read decimal verdict_names word (numbered_verdict word) v verdicts_unread
    (number_again laws word v h)
    ∙ ap (λ o. option_map_or (λ (parts : List ℕ × List ℕ).
    cond (bytes_eq parts.0 (codes "queue")) (queue_verdict parts.1) None) o (decimal word))
    (uncut laws word v h)
    ∙ number_again laws word v h

pub verdict_again : Laws → (word : List ℕ) (v : ℕ) → IsVerdict word v → verdict_word word ≡ Some v
unfolding verdict_word
verdict_again laws word v (inl h) =
    named_again verdict_names word (numbered_verdict word) v refl h
verdict_again laws word v (inr (inl h)) =
    elim h.3 [
      | inl g ↦ ap verdict_word g.0 ∙ plain_again laws h.0 h.1 h.2 ∙ ap (λ n. Some n) (sym g.1)
      | inr g ↦ ap verdict_word g.0 ∙ bypass_again laws h.0 h.1 h.2 ∙ ap (λ n. Some n) (sym g.1)
    ]
verdict_again laws word v (inr (inr h)) = numeral_again laws word v h

-- ---- copy modes and commands

pub mode_some : Laws → (word : List ℕ) (m : ℕ) → mode_of word ≡ Some m → IsMode word m
unfolding mode_of
mode_some laws word m e =
    elim (named_some mode_names word (decimal_below (2 ^ 8) word) m e)
    [ inl h ↦ inl h | inr h ↦ inr (below_some laws (2 ^ 8) word m h) ]

pub mode_again : Laws → (word : List ℕ) (m : ℕ) → IsMode word m → mode_of word ≡ Some m
unfolding mode_of
mode_again laws word m (inl h) =
    named_again mode_names word (decimal_below (2 ^ 8) word) m refl h
mode_again laws word m (inr h) =
    named_read decimal mode_names word (decimal_below (2 ^ 8) word) m modes_unread
    (number_again laws word m h.0)
    ∙ below_again laws (2 ^ 8) word m h

pub command_some : (word : List ℕ) (c : ℕ) → command_named word ≡ Some c →
    IsName command_names word c
unfolding command_named
command_some word c e =
    elim (named_some command_names word None c e) [ inl h ↦ h | inr h ↦ absurd (none-some c h) ]

pub command_again : (word : List ℕ) (c : ℕ) → IsName command_names word c →
    command_named word ≡ Some c
unfolding command_named
command_again word c h = named_again command_names word None c refl h
