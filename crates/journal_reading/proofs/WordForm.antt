-- The words of a journal's line are read exactly where they are written.
use Rattle.std.proofs.Common.{◌≡◌, ℕ, ◌<◌, ◌≤◌, Bool, true, false, cond, inl, inr}
use Rattle.std.proofs.Common.{eqb, List, [], ◌∷◌, ◌++◌, length, Option, Some, None, ◌∙◌, refl, sym}
use Rattle.std.proofs.Common.{ap, subst, arith, decimal}
use Rattle.std.specs.Prelude.{◌^◌, bytes_eq, codes, option_map, IfSome}
use Rattle.std.specs.List.{list_all}
use Rattle.std.specs.Option.{option_map_or}
use Rattle.std.proofs.lemmas.Bool.{and_parts, eqb-true, false_from_ne_true, false≢true}
use Rattle.std.proofs.lemmas.Option.{none-some, same_Some}
use Rattle.hex.specs.Hex.{IsBytes, encode_with, lower_digits}
use Rattle.text_lines.specs.Words.{cut_at}
use Rattle.text_lines.specs.Digits as digits
use Rattle.text_lines.specs.Hexadecimal.{are_pairs, bytes_of, hexadecimal, is_lower_digit}
use Rattle.text_lines.specs.Numerals.{IsNumeral}
use Rattle.queue_core.specs.declared.offers.Outcome.{Outcome}
use Rattle.queue_core.specs.declared.offers.Outcome.TheVariants.{Taken, Overflow, OverflowOpen}
use Rattle.queue_core.specs.declared.offers.Outcome.TheVariants.{UserFull, UserFullOpen, NoQueue}
use Rattle.queue_core.specs.declared.offers.Outcome.TheVariants.{Bypassed, CopyNone, Loop}
use Rattle.journals.specs.Format as text
use Rattle.journals.specs.Formed.{FitsOutcome, IsHalf, IsWide}
use Rattle.journal_reading.specs.Reading.{answer_in, bare, bytes_in, field, numbered, outcome_in}
use Rattle.journal_reading.specs.Reading.{said_in}
use Rattle.journal_reading.specs.Reading.{yes_no_in}
use Rattle.journal_reading.proofs.WordCuts.{Laws, below_again, below_some, bind_some, chosen}
use Rattle.journal_reading.proofs.WordCuts.{cut_some}
use Rattle.journal_reading.proofs.WordCuts.{map_some, number_again, number_uncut, passed, same_word}
use Rattle.journal_reading.proofs.WordCuts.{uncut_append}
use Rattle.journal_reading.proofs.Formats.{Any, IsField, IsWord, behind_some, field_is}

-- a test for a word, and what follows from either side of it
pub pick : {A : Type 0} (word name : List ℕ) (x other : Option A) (y : A) (P : Type 0) →
    cond (bytes_eq word name) x other ≡ Some y → (word ≡ name → x ≡ Some y → P) →
    (other ≡ Some y → P) → P
pick word name x other y P e here there =
    elim (chosen (bytes_eq word name) x other (Some y) e) [
      | inl h ↦ here (same_word word name h.0) h.1
      | inr h ↦ there h.1
    ]

-- ---- numbers

numeral : (n : ℕ) → n < 2 ^ 32 → IsNumeral (decimal n) n
numeral n fits = record { spelled = refl; fits = fits }

pub number_word : Laws → IsWord digits.decimal decimal IsWide
number_word laws = record {
  again = λ x fits. number_again laws (decimal x) x (numeral x fits);
  spelled = λ word x e. let n = (laws.numerals word x).0 e in (n.fits, n.spelled);
  one_line = λ x fits. number_uncut 10 (decimal x) x refl
      (number_again laws (decimal x) x (numeral x fits));
}

pub number_unblank : Laws → (x : ℕ) → IsWide x → cut_at 32 (decimal x) ≡ None
number_unblank laws x fits =
    number_uncut 32 (decimal x) x refl (number_again laws (decimal x) x (numeral x fits))

pub below_word : Laws → (limit : ℕ) → limit ≤ 2 ^ 32 →
    IsWord (digits.decimal_below limit) decimal (λ n. n < limit)
below_word laws limit few = record {
  again = λ x fits. below_again laws limit (decimal x) x (numeral x (omega arith), fits);
  spelled = λ word x e. let n = below_some laws limit word x e in (n.1, (n.0).spelled);
  one_line = λ x fits. (number_word laws).one_line x (omega arith);
}

pub number_field : Laws → IsField (field digits.decimal) (λ n. decimal n ++ 32 ∷ []) IsWide Any
number_field laws =
    field_is digits.decimal decimal IsWide (number_word laws) (number_unblank laws)

pub below_field : Laws → (limit : ℕ) → limit ≤ 2 ^ 32 →
    IsField (field (digits.decimal_below limit)) (λ n. decimal n ++ 32 ∷ []) (λ n. n < limit) Any
below_field laws limit few =
    field_is (digits.decimal_below limit) decimal (λ n. n < limit) (below_word laws limit few)
    (λ x fits. number_unblank laws x (omega arith))

-- a number isn't `-`
dash_unread : digits.decimal (codes "-") ≡ None
unfolding digits.decimal digits.number digits.digits_onto
dash_unread = refl

pub number_no_dash : Laws → (x : ℕ) → IsWide x → bytes_eq (decimal x) (codes "-") ≡ false
number_no_dash laws x fits =
    false_from_ne_true (bytes_eq (decimal x) (codes "-"))
    (λ same. none-some x (sym dash_unread ∙ sym (ap digits.decimal
    (same_word (decimal x) (codes "-") same)) ∙ (number_word laws).again x fits))

-- ---- bytes

coded_length : (t bytes : List ℕ) → length bytes ≤ length (encode_with t bytes)
unfolding encode_with
coded_length t [] = omega arith
coded_length t (b ∷ bs) = omega (arith, coded_length t bs)

spelt_length : (bytes : List ℕ) → length bytes ≤ length (hexadecimal bytes)
spelt_length [] = omega arith
spelt_length (b ∷ bs) = coded_length lower_digits (b ∷ bs)

bytes_again : Laws → (x : List ℕ) → IsBytes x → bytes_in (hexadecimal x) ≡ Some x
bytes_again laws x fits =
    (laws.bytes (length (hexadecimal x)) (hexadecimal x) x).1
    (record { spelled = refl; few = spelt_length x; are_bytes = fits })

lower_uncut : (c : ℕ) (word : List ℕ) → is_lower_digit c ≡ false →
    list_all is_lower_digit word ≡ true → cut_at c word ≡ None
lower_uncut c [] other all = refl
lower_uncut c (b ∷ bs) other all =
    let parts = and_parts (is_lower_digit b) (list_all is_lower_digit bs) all in
    passed (eqb b c) _ _ (false_from_ne_true (eqb b c)
    (λ same. false≢true (sym other ∙ sym (ap is_lower_digit (eqb-true b c same)) ∙ parts.0)))
    ∙ ap (λ o. option_map (λ (p : List ℕ × List ℕ). (b ∷ p.0, p.1)) o)
    (lower_uncut c bs other parts.1)

spelt_uncut : (c most : ℕ) (word bytes : List ℕ) → is_lower_digit c ≡ false →
    cut_at c (codes "-") ≡ None → bytes_of most word ≡ Some bytes → cut_at c word ≡ None
unfolding bytes_of
spelt_uncut c most word bytes other dash e =
    pick word (codes "-") (Some []) _ bytes (cut_at c word ≡ None) e
    (λ is x. ap (cut_at c) is ∙ dash)
    (λ f. elim (chosen (are_pairs most word) _ None (Some bytes) f) [
      | inl h ↦ lower_uncut c word other (and_parts _ (list_all is_lower_digit word) h.0).1
      | inr h ↦ absurd (none-some bytes h.1)
    ])

pub bytes_word : Laws → IsWord bytes_in hexadecimal IsBytes
bytes_word laws = record {
  again = bytes_again laws;
  spelled = λ word x e. let s = (laws.bytes (length word) word x).0 e in (s.are_bytes, s.spelled);
  one_line = λ x fits. spelt_uncut 10 (length (hexadecimal x)) (hexadecimal x) x refl refl
      (bytes_again laws x fits);
}

pub bytes_field : Laws → IsField (field bytes_in) (λ bs. hexadecimal bs ++ 32 ∷ []) IsBytes Any
bytes_field laws =
    field_is bytes_in hexadecimal IsBytes (bytes_word laws)
    (λ x fits. spelt_uncut 32 (length (hexadecimal x)) (hexadecimal x) x refl refl
    (bytes_again laws x fits))

-- ---- `y` and `n`

-- any value
abbrev pub Always : {A : Type 0} → A → Type 0
Always x = Unit {0}

yes_no_again : (x : Bool) → yes_no_in (text.yes_no x) ≡ Some x
yes_no_again true = refl
yes_no_again false = refl

yes_no_spelled : (word : List ℕ) (x : Bool) → yes_no_in word ≡ Some x → word ≡ text.yes_no x
yes_no_spelled word x e =
    pick word (codes "y") (Some true) _ x (word ≡ text.yes_no x) e
    (λ is s. is ∙ ap text.yes_no (same_Some true x s))
    (λ f. pick word (codes "n") (Some false) None x (word ≡ text.yes_no x) f
    (λ is s. is ∙ ap text.yes_no (same_Some false x s)) (λ g. absurd (none-some x g)))

yes_no_uncut_32 : (x : Bool) → cut_at 32 (text.yes_no x) ≡ None
yes_no_uncut_32 true = refl
yes_no_uncut_32 false = refl

yes_no_uncut_10 : (x : Bool) → cut_at 10 (text.yes_no x) ≡ None
yes_no_uncut_10 true = refl
yes_no_uncut_10 false = refl

pub yes_no_field : IsField (field yes_no_in) (λ b. text.yes_no b ++ 32 ∷ []) (Always {A = Bool}) Any
yes_no_field =
    field_is yes_no_in text.yes_no (Always {A = Bool}) (record {
      again = λ x fits. yes_no_again x;
      spelled = λ word x e. (tt, yes_no_spelled word x e);
      one_line = λ x fits. yes_no_uncut_10 x;
    }) (λ x fits. yes_no_uncut_32 x)

-- ---- outcomes

abbrev IsOutcomeWord : List ℕ → Outcome → Type 0
IsOutcomeWord word o = FitsOutcome o × (word ≡ text.outcome o)

bare_at : (word name : List ℕ) (x o : Outcome) → FitsOutcome x → name ≡ text.outcome x →
    word ≡ name → Some x ≡ Some o → IsOutcomeWord word o
bare_at word name x o fits named is e =
    subst (IsOutcomeWord word) (same_Some x o e) (fits, is ∙ named)

bare_spelled : (word : List ℕ) (o : Outcome) → bare word ≡ Some o → IsOutcomeWord word o
unfolding bare
bare_spelled word o e =
    pick word (codes "overflow") _ _ o (IsOutcomeWord word o) e
    (bare_at word (codes "overflow") Overflow o tt refl)
    (λ f. pick word (codes "overflow-open") _ _ o (IsOutcomeWord word o) f
    (bare_at word (codes "overflow-open") OverflowOpen o tt refl)
    (λ g. pick word (codes "noqueue") _ _ o (IsOutcomeWord word o) g
    (bare_at word (codes "noqueue") NoQueue o tt refl)
    (λ h. pick word (codes "bypassed") _ _ o (IsOutcomeWord word o) h
    (bare_at word (codes "bypassed") Bypassed o tt refl)
    (λ i. pick word (codes "copynone") _ _ o (IsOutcomeWord word o) i
    (bare_at word (codes "copynone") CopyNone o tt refl)
    (λ j. pick word (codes "loop") _ _ o (IsOutcomeWord word o) j
    (bare_at word (codes "loop") Loop o tt refl) (λ k. absurd (none-some o k)))))))

numbered_at : Laws → (make : ℕ → Outcome) (name : List ℕ) → ((n : ℕ) → IsWide n →
    FitsOutcome (make n)) → ((n : ℕ) → name ++ 58 ∷ decimal n ≡ text.outcome (make n)) →
    (word found number : List ℕ) (o : Outcome) → word ≡ found ++ 58 ∷ number → found ≡ name →
    option_map make (digits.decimal number) ≡ Some o → IsOutcomeWord word o
numbered_at laws make name fits told word found number o is named e =
    let n = map_some make (digits.decimal number) o e in
    let s = (number_word laws).spelled number n.0 n.1 in
    subst (IsOutcomeWord word) n.2 (
      fits n.0 s.0,
      is ∙ ap (λ z. z ++ 58 ∷ number) named ∙ ap (λ z. name ++ 58 ∷ z) s.1 ∙ told n.0,
    )

numbered_spelled : Laws → (word name number : List ℕ) (o : Outcome) →
    word ≡ name ++ 58 ∷ number → numbered name number ≡ Some o → IsOutcomeWord word o
unfolding numbered
numbered_spelled laws word name number o is e =
    pick name (codes "taken") _ _ o (IsOutcomeWord word o) e
    (numbered_at laws Taken (codes "taken") (λ n f. f) (λ n. refl) word name number o is)
    (λ f. pick name (codes "userfull") _ _ o (IsOutcomeWord word o) f
    (numbered_at laws UserFull (codes "userfull") (λ n g. g) (λ n. refl) word name number o is)
    (λ g. pick name (codes "userfull-open") _ _ o (IsOutcomeWord word o) g
    (numbered_at laws UserFullOpen (codes "userfull-open") (λ n h. h) (λ n. refl) word name number
    o is) (λ h. absurd (none-some o h))))

outcome_spelled : Laws → (word : List ℕ) (o : Outcome) → outcome_in word ≡ Some o →
    IsOutcomeWord word o
unfolding outcome_in
outcome_spelled laws word o e =
    elim (cut_at 58 word) as (λ c. cut_at 58 word ≡ c →
    option_map_or {T = List ℕ × List ℕ} {U = Option Outcome} (λ parts. numbered parts.0 parts.1) c
    (bare word) ≡ Some o → IsOutcomeWord word o) [
      | None ↦ λ cut f. bare_spelled word o f
      | Some parts ↦ λ cut f.
          numbered_spelled laws word parts.0 parts.1 o (cut_some 58 word parts cut) f
    ] refl e

outcome_again : Laws → (o : Outcome) → FitsOutcome o → outcome_in (text.outcome o) ≡ Some o
unfolding outcome_in numbered bare
outcome_again laws (Taken id) fits = ap (option_map Taken) ((number_word laws).again id fits)
outcome_again laws Overflow fits = refl
outcome_again laws OverflowOpen fits = refl
outcome_again laws (UserFull id) fits = ap (option_map UserFull) ((number_word laws).again id fits)
outcome_again laws (UserFullOpen id) fits =
    ap (option_map UserFullOpen) ((number_word laws).again id fits)
outcome_again laws NoQueue fits = refl
outcome_again laws Bypassed fits = refl
outcome_again laws CopyNone fits = refl
outcome_again laws Loop fits = refl

outcome_line : Laws → (o : Outcome) → FitsOutcome o → cut_at 10 (text.outcome o) ≡ None
outcome_line laws (Taken id) fits =
    uncut_append 10 (codes "taken:") (decimal id) refl ((number_word laws).one_line id fits)
outcome_line laws Overflow fits = refl
outcome_line laws OverflowOpen fits = refl
outcome_line laws (UserFull id) fits =
    uncut_append 10 (codes "userfull:") (decimal id) refl ((number_word laws).one_line id fits)
outcome_line laws (UserFullOpen id) fits =
    uncut_append 10 (codes "userfull-open:") (decimal id) refl
    ((number_word laws).one_line id fits)
outcome_line laws NoQueue fits = refl
outcome_line laws Bypassed fits = refl
outcome_line laws CopyNone fits = refl
outcome_line laws Loop fits = refl

pub outcome_word : Laws → IsWord outcome_in text.outcome FitsOutcome
outcome_word laws = record {
  again = outcome_again laws;
  spelled = outcome_spelled laws;
  one_line = outcome_line laws;
}

-- ---- the errno of an acknowledgement

-- `= ANSWER`
abbrev pub said_text : Option ℕ → List ℕ
said_text None = codes "= -"
said_text (Some n) = codes "= " ++ decimal n

said_again : Laws → (o : Option ℕ) → IfSome o IsHalf → said_in (said_text o) ≡ Some o
said_again laws None fits = refl
said_again laws (Some n) fits =
    passed (bytes_eq (decimal n) (codes "-")) _ _ (number_no_dash laws n (omega arith))
    ∙ ap (option_map (λ (m : ℕ). Some m)) ((below_word laws (2 ^ 16) (omega arith)).again n fits)

said_spelled : Laws → (word : List ℕ) (o : Option ℕ) → said_in word ≡ Some o →
    IfSome o IsHalf × (word ≡ said_text o)
said_spelled laws word o e =
    let rest = bind_some _ answer_in o e in
    let front = behind_some (codes "=") word rest.0 rest.1 in
    pick rest.0 (codes "-") _ _ o (IfSome o IsHalf × (word ≡ said_text o)) rest.2
    (λ is s. subst (λ (p : Option ℕ). IfSome p IsHalf × (word ≡ said_text p))
    (same_Some None o s) (tt, front ∙ ap (λ z. 61 ∷ 32 ∷ z) is))
    (λ f. let n = map_some (λ (m : ℕ). Some m) (digits.decimal_below (2 ^ 16) rest.0) o f in
    let s = (below_word laws (2 ^ 16) (omega arith)).spelled rest.0 n.0 n.1 in
    subst (λ (p : Option ℕ). IfSome p IsHalf × (word ≡ said_text p)) n.2
    (s.0, front ∙ ap (λ z. 61 ∷ 32 ∷ z) s.1))

said_line : Laws → (o : Option ℕ) → IfSome o IsHalf → cut_at 10 (said_text o) ≡ None
said_line laws None fits = refl
said_line laws (Some n) fits =
    uncut_append 10 (codes "= ") (decimal n) refl
    ((below_word laws (2 ^ 16) (omega arith)).one_line n fits)

pub said_word : Laws → IsWord said_in said_text (λ o. IfSome o IsHalf)
said_word laws = record {
  again = said_again laws;
  spelled = said_spelled laws;
  one_line = said_line laws;
}
