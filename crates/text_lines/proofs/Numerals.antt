-- A word spells exactly the number that is read from it.
use Rattle.std.proofs.Common.{◌≡◌, ℕ, suc, ◌+◌, ◌-◌, ◌*◌, ◌^◌, ◌<◌, ◌≤◌, Bool, true, false, cond}
use Rattle.std.proofs.Common.{◌&&◌, eqb, ltb, inl, inr, List, [], ◌∷◌, length, get_or, Option}
use Rattle.std.proofs.Common.{Some, None, ◌∙◌, refl, sym, ap, arith}
use Rattle.std.specs.Prelude.{decimal}
use Rattle.std.specs.Char.{IsAsciiDigit}
use Rattle.std.specs.List.{list_all}
use Rattle.std.proofs.lemmas.Bool.{and_parts, cases_lt, lt-ltb, ltb-true, ne_eqb}
use Rattle.std.proofs.lemmas.Bool.Decides.{nat_tests}
use Rattle.std.proofs.lemmas.Option.{cond_some, same_Some}
use Rattle.std.proofs.lemmas.Str.Parse.{IsNumeralModel, numerals_by_fold}
use Rattle.std.proofs.lemmas.Fmt.{decimal-digits_value, decimal_nonempty, digits_decimal}
use Rattle.std.proofs.lemmas.Fmt.{digits_value-decimal, first_decimal, length-decimal-le}
use Rattle.text_lines.specs.Words.{◌>>=◌, is_digit, is_from_to}
use Rattle.text_lines.specs.Digits.{below, digit_in, digit_of, digits_onto, number}
use Rattle.text_lines.specs.Digits as reading
use Rattle.text_lines.specs.Numerals.{IsNumeral}

AreDigits : List ℕ → Type 0
AreDigits ds = list_all is_digit ds ≡ true

-- the number that digits make of what stands before them
value_on : ℕ → List ℕ → ℕ
value_on n [] = n
value_on n (c ∷ cs) = value_on (n * 10 + (c - 48)) cs

is_range : (c : ℕ) → is_digit c ≡ true → IsAsciiDigit c
is_range c h = grind (arith, nat_tests)

is_test : (c : ℕ) → IsAsciiDigit c → is_digit c ≡ true
is_test c h = grind (arith, nat_tests)

own : IsNumeralModel AreDigits (value_on 0)
unfolding value_on AreDigits
own =
    numerals_by_fold AreDigits
    (record {
      empty = refl;
      parts = λ c cs h.
          let both = and_parts (is_digit c) (list_all is_digit cs) h in (is_range c both.0, both.1);
      more = λ c cs digit digits. rw (is_test c digit, digits) refl;
    })
    value_on (record { empty = λ n. refl; more = λ n c cs h. refl })

digit_read : (c : ℕ) → is_digit c ≡ true → digit_in 10 c ≡ Some (c - 48)
digit_read c h =
    let small : c - 48 < 10 = grind (arith, nat_tests) in
    rw (h, lt-ltb (c - 48) 10 small) refl

letter_large : (c base : ℕ) (d : ℕ) → below 10 (c - base + 10) ≡ Some d → ⊥
letter_large c base d e =
    let parts = cond_some (ltb (c - base + 10) 10) (c - base + 10) d e in
    let less : c - base + 10 < 10 = ltb-true (c - base + 10) 10 parts.0 in omega arith

no_number : (d : ℕ) → ◌≡◌ {A = Option ℕ} None (Some d) → ⊥
no_number d e = cc

letter_is_none : (c d : ℕ) (small large : Bool) →
    (cond small (Some (c - 97 + 10)) (cond large (Some (c - 65 + 10)) None) >>= below 10) ≡ Some d →
    ⊥
letter_is_none c d true large e = letter_large c 97 d e
letter_is_none c d false true e = letter_large c 65 d e
letter_is_none c d false false e = no_number d e

letters : ℕ → Option ℕ
letters c =
    cond (is_from_to "a" "f" c) (Some (c - 97 + 10))
    (cond (is_from_to "A" "F" c) (Some (c - 65 + 10)) None)

digit_by : (c d : ℕ) (is : Bool) → is_digit c ≡ is → digit_in 10 c ≡ Some d → is_digit c ≡ true
unfolding letters
digit_by c d true is e = is
digit_by c d false is e =
    absurd (letter_is_none c d (is_from_to "a" "f" c) (is_from_to "A" "F" c)
    (sym (ap (λ b. cond b (Some (c - 48)) (letters c) >>= below 10) is) ∙ e))

digits_read : (n : ℕ) (ds : List ℕ) → list_all is_digit ds ≡ true →
    digits_onto 10 n ds ≡ Some (value_on n ds)
unfolding digits_onto value_on
digits_read n [] h = refl
digits_read n (c ∷ cs) h =
    let both = and_parts (is_digit c) (list_all is_digit cs) h in
    ap (λ o. o >>= λ d. digits_onto 10 (n * 10 + d) cs) (digit_read c both.0)
    ∙ digits_read (n * 10 + (c - 48)) cs both.1

bind_some : (o : Option ℕ) (f : ℕ → Option ℕ) (y : ℕ) → (o >>= f) ≡ Some y →
    (x : ℕ) × (o ≡ Some x) × (f x ≡ Some y)
bind_some None f y e = absurd (no_number y e)
bind_some (Some x) f y e = (x, refl, e)

all_digits : (n m : ℕ) (ds : List ℕ) → digits_onto 10 n ds ≡ Some m → list_all is_digit ds ≡ true
unfolding digits_onto
all_digits n m [] e = refl
all_digits n m (c ∷ cs) e =
    let step = bind_some (digit_in 10 c) _ m e in
    rw (digit_by c step.0 (is_digit c) refl step.1, all_digits (n * 10 + step.0) m cs step.2) refl

not_empty : (c : ℕ) (cs : List ℕ) → eqb (length (c ∷ cs)) 0 ≡ false
not_empty c cs = ne_eqb (suc (length cs)) 0 (λ e. omega arith)

number_read : (n : ℕ) (word : List ℕ) → number 10 word ≡ Some n →
    (0 < length word) × (list_all is_digit word ≡ true) × (value_on 0 word ≡ n) × (n < 2 ^ 32)
unfolding number
number_read n [] e = absurd (no_number n e)
number_read n (c ∷ cs) e =
    let step = bind_some (digits_onto 10 0 (c ∷ cs)) (below (2 ^ 32)) n
    (rw (not_empty c cs) at e) in
    let fits = cond_some (ltb step.0 (2 ^ 32)) step.0 n step.2 in
    let small : step.0 < 2 ^ 32 = ltb-true step.0 (2 ^ 32) fits.0 in
    let all : list_all is_digit (c ∷ cs) ≡ true = all_digits 0 step.0 (c ∷ cs) step.1 in
    let value : value_on 0 (c ∷ cs) ≡ step.0 =
    same_Some (value_on 0 (c ∷ cs)) step.0 (sym (digits_read 0 (c ∷ cs) all) ∙ step.1) in
    (omega arith, all, value ∙ fits.1, rw (← fits.1) small)

read_number : (word : List ℕ) → 0 < length word → list_all is_digit word ≡ true →
    value_on 0 word < 2 ^ 32 → number 10 word ≡ Some (value_on 0 word)
unfolding number
read_number [] some all small = absurd (omega arith)
read_number (c ∷ cs) some all small =
    let fits = lt-ltb (value_on 0 (c ∷ cs)) (2 ^ 32) small in
    rw (not_empty c cs, digits_read 0 (c ∷ cs) all, fits) refl

chosen : (b : Bool) (x : Option ℕ) (n : ℕ) → cond b None x ≡ Some n → (b ≡ false) × (x ≡ Some n)
chosen true x n e = absurd (no_number n e)
chosen false x n e = (refl, e)

leads : List ℕ → Bool
leads word = ltb 1 (length word) && eqb (get_or word 0 0) 48

one_digit : (word : List ℕ) → 0 < length word → leads word ≡ false → get_or word 0 0 ≡ 48 →
    length word ≡ 1
unfolding leads
one_digit word some single first = grind (arith, nat_tests)

no_zero : (word : List ℕ) → (get_or word 0 0 ≡ 48 → length word ≤ 1) → leads word ≡ false
unfolding leads
no_zero word h = grind (arith, nat_tests)

-- what is read is spelled
pub is_numeral : (word : List ℕ) (n : ℕ) → reading.decimal word ≡ Some n → IsNumeral word n
unfolding reading.decimal leads AreDigits
is_numeral word n e =
    let parts = chosen (leads word) (number 10 word) n e in
    let read = number_read n word parts.1 in
    let small : value_on 0 word < 2 ^ 64 = omega (arith, read.2, read.3) in
    record {
      spelled = sym (ap decimal (sym read.2)
          ∙ decimal-digits_value own word read.1 read.0 (one_digit word read.0 parts.0) small);
      fits = read.3;
    }

lone_zero : (n : ℕ) → n < 2 ^ 32 → get_or (decimal n) 0 0 ≡ 48 → length (decimal n) ≤ 1
lone_zero n small first =
    elim (cases_lt 0 n) [
      | inl lt ↦
          let big = first_decimal n lt (omega arith) in absurd (omega arith)
      | inr le ↦ length-decimal-le 1 n (omega arith) (omega arith) (omega arith)
    ]

read_again : (n : ℕ) → n < 2 ^ 32 → reading.decimal (decimal n) ≡ Some n
unfolding reading.decimal leads AreDigits
read_again n small =
    let wide : n < 2 ^ 64 = omega arith in
    let value : value_on 0 (decimal n) ≡ n = digits_value-decimal own n wide in
    let read : number 10 (decimal n) ≡ Some (value_on 0 (decimal n)) =
    read_number (decimal n) (decimal_nonempty n wide) (digits_decimal own n wide)
    (omega (arith, value)) in
    ap (λ b. cond b None (number 10 (decimal n))) (no_zero (decimal n) (lone_zero n small))
    ∙ read ∙ ap Some value

-- what is spelled is read
pub is_number : (word : List ℕ) (n : ℕ) → IsNumeral word n → reading.decimal word ≡ Some n
is_number word n h = rw h.spelled (read_again n h.fits)
