-- A word of lower-case hexadecimal spells exactly the bytes that are decoded from it.
use Rattle.std.proofs.Common.{◌≡◌, ℕ, zero, suc, ◌+◌, ◌*◌, ◌/◌, ◌%◌, ◌<◌, ◌≤◌, Bool, true, false}
use Rattle.std.proofs.Common.{◌&&◌, ◌||◌, not, cond, eqb, leb, ltb, ◌⊎◌, inl, inr, List, [], ◌∷◌}
use Rattle.std.proofs.Common.{length, Option, Some, None, Result, Ok, Err, unwrap_or, ◌∙◌, refl}
use Rattle.std.proofs.Common.{sym, ap, subst, arith, le-leb, eq-eqb}
use Rattle.std.specs.Prelude.{bytes_eq, codes, slice_index}
use Rattle.std.specs.List.{list_all}
use Rattle.std.proofs.Math.Bool.{and-false}
use Rattle.std.proofs.lemmas.Bool.{and_parts, eqb-true, leb-true, false≢true, cases_lt, ltb-true}
use Rattle.std.proofs.lemmas.Bool.Decides.{nat_tests}
use Rattle.std.proofs.lemmas.Slice.Eq.{bytes_eq-Decides}
use Rattle.hex.specs.declared.error.FromHexError.{FromHexError}
use Rattle.hex.specs.Hex.{IsBytes, decode_of, decode_pairs, encode_lower, encode_with, lower_digits}
use Rattle.hex.specs.Hex.{digit_or_error, hex_digit_value, pair_value, value_at, ◌>>=◌}
use Rattle.hex.proofs.HexLemmas.{decode_of-even, decode_of-ok, decode_of-encode_lower}
use Rattle.hex.proofs.HexLemmas.{length-encode_with}
use Rattle.text_lines.specs.Hexadecimal.{IsSpelled, are_pairs, bytes_of, decoded, hexadecimal}
use Rattle.text_lines.specs.Hexadecimal.{is_lower_digit}

-- a digit stands in the table at the place of its value
stands_at : ℕ → Option ℕ → Bool
stands_at c o = ltb (unwrap_or o 99) 16 && eqb (slice_index lower_digits (unwrap_or o 99)) c

reads_back : ℕ → Bool
reads_back c = not (is_lower_digit c) || stands_at c (hex_digit_value c)

-- the table has these digits alone
is_table_digit : ℕ → Bool
is_table_digit d = is_lower_digit (slice_index lower_digits d)

all_below : (ℕ → Bool) → ℕ → Bool
all_below p zero = true
all_below p (suc n) = p n && all_below p n

all_below-at : (p : ℕ → Bool) (n k : ℕ) → all_below p n ≡ true → k < n → p k ≡ true
unfolding all_below
all_below-at p zero k h lt = absurd (omega arith)
all_below-at p (suc n) k h lt =
    let parts = and_parts (p n) (all_below p n) h in
    elim (cases_lt k n) [
      | inl below ↦ all_below-at p n k parts.1 below
      | inr top ↦ let e : k ≡ n = omega arith in rw e parts.0
    ]

few_digits : (c : ℕ) → is_lower_digit c ≡ true → c < 103
few_digits c h = grind (arith, nat_tests)

table_digit : (d : ℕ) → d < 16 → is_lower_digit (slice_index lower_digits d) ≡ true
unfolding is_table_digit all_below
table_digit d lt = all_below-at is_table_digit 16 d refl lt

or_true : (a b : Bool) → a ≡ true → (not a || b) ≡ true → b ≡ true
or_true true b e h = h
or_true false b e h = absurd (false≢true e)

stands : (c : ℕ) → is_lower_digit c ≡ true → stands_at c (hex_digit_value c) ≡ true
unfolding reads_back all_below stands_at
stands c h =
    or_true (is_lower_digit c) (stands_at c (hex_digit_value c)) h
    (all_below-at reads_back 103 c refl (few_digits c h))

same_Ok : (a b : ℕ) → ◌≡◌ {A = Result ℕ FromHexError} (Ok a) (Ok b) → a ≡ b
same_Ok a b e = cc

digit_by : (c i v : ℕ) (o : Option ℕ) → digit_or_error c i o ≡ Ok v → stands_at c o ≡ true →
    (v < 16) × (slice_index lower_digits v ≡ c)
unfolding stands_at
digit_by c i v None e h = absurd (let never : ⊥ = cc in never)
digit_by c i v (Some w) e h =
    let same : w ≡ v = same_Ok w v e in
    let parts = and_parts (ltb w 16) (eqb (slice_index lower_digits w) c) h in
    let stands : slice_index lower_digits w ≡ c =
    eqb-true (slice_index lower_digits w) c parts.1 in
    (rw (← same) (ltb-true w 16 parts.0), rw (← same) stands)

-- what a digit was read as has that digit
digit_back : (c i v : ℕ) → is_lower_digit c ≡ true → value_at c i ≡ Ok v →
    (v < 16) × (slice_index lower_digits v ≡ c)
digit_back c i v h e = digit_by c i v (hex_digit_value c) e (stands c h)

bind_ok : {A B : Type 0} (r : Result A FromHexError) (f : A → Result B FromHexError) (y : B) →
    (r >>= f) ≡ Ok y → (x : A) × (r ≡ Ok x) × (f x ≡ Ok y)
bind_ok (Ok x) f y h = (x, refl, h)
bind_ok (Err e) f y h = absurd (let never : ⊥ = cc in never)

same_list : (a b : List ℕ) → ◌≡◌ {A = Result (List ℕ) FromHexError} (Ok a) (Ok b) → a ≡ b
same_list a b e = cc

two_digits : (high low h l : ℕ) (rest : List ℕ) → l < 16 → slice_index lower_digits h ≡ high →
    slice_index lower_digits l ≡ low →
    slice_index lower_digits ((h * 16 + l) / 16) ∷ slice_index lower_digits ((h * 16 + l) % 16)
    ∷ rest ≡ high ∷ low ∷ rest
two_digits high low h l rest lt eh el =
    let top : (h * 16 + l) / 16 ≡ h = omega arith in
    let bottom : (h * 16 + l) % 16 ≡ l = omega arith in rw (top, bottom, eh, el) refl

pair_back : (high low h l b : ℕ) (read rest bytes : List ℕ) → l < 16 →
    slice_index lower_digits h ≡ high → slice_index lower_digits l ≡ low → h * 16 + l ≡ b →
    b ∷ read ≡ bytes → encode_lower read ≡ rest → encode_lower bytes ≡ high ∷ low ∷ rest
unfolding encode_with
pair_back high low h l b read rest bytes lt eh el is whole back =
    rw (← whole, ← is)
    (two_digits high low h l (encode_lower read) lt eh el ∙ ap (λ text. high ∷ low ∷ text) back)

-- the text of what was decoded from lower-case digits is that text
text_back : (i : ℕ) (s bytes : List ℕ) → list_all is_lower_digit s ≡ true →
    decode_pairs i s ≡ Ok bytes → encode_lower bytes ≡ s
unfolding decode_pairs encode_with
text_back i [] bytes all e = rw (← same_list [] bytes e) refl
text_back i (c ∷ []) bytes all e = absurd (let never : ⊥ = cc in never)
text_back i (high ∷ low ∷ rest) bytes all e =
    let first = and_parts (is_lower_digit high) (list_all is_lower_digit (low ∷ rest)) all in
    let second = and_parts (is_lower_digit low) (list_all is_lower_digit rest) first.1 in
    let pair = bind_ok (pair_value high low i) _ bytes e in
    let more = bind_ok (decode_pairs (i + 2) rest) _ bytes pair.2 in
    let h = bind_ok (value_at high i) _ pair.0 pair.1 in
    let l = bind_ok (value_at low (i + 1)) _ pair.0 h.2 in
    let high_back = digit_back high i h.0 first.0 h.1 in
    let low_back = digit_back low (i + 1) l.0 second.0 l.1 in
    pair_back high low h.0 l.0 pair.0 more.0 rest bytes low_back.0 high_back.1 low_back.1
    (same_Ok (h.0 * 16 + l.0) pair.0 l.2) (same_list (pair.0 ∷ more.0) bytes more.2)
    (text_back (i + 2) rest more.0 second.1 more.1)

-- the text of bytes has lower-case digits alone
text_digits : (bytes : List ℕ) → IsBytes bytes → list_all is_lower_digit (encode_lower bytes) ≡ true
unfolding encode_with
text_digits [] fit = refl
text_digits (b ∷ rest) fit =
    let small : b < 256 = fit 0 in
    let high : b / 16 < 16 = omega arith in
    let low : b % 16 < 16 = omega arith in
    let more : list_all is_lower_digit (encode_lower rest) ≡ true =
    text_digits rest (λ i. fit (suc i)) in
    rw (table_digit (b / 16) high, table_digit (b % 16) low, more) refl

chosen : {A : Type 0} (b : Bool) (x y z : A) → cond b x y ≡ z →
    ((b ≡ true) × (x ≡ z)) ⊎ ((b ≡ false) × (y ≡ z))
chosen true x y z e = inl (refl, e)
chosen false x y z e = inr (refl, e)

no_bytes : (bytes : List ℕ) → ◌≡◌ {A = Option (List ℕ)} None (Some bytes) → ⊥
no_bytes bytes e = cc

these_bytes : (a b : List ℕ) → ◌≡◌ {A = Option (List ℕ)} (Some a) (Some b) → a ≡ b
these_bytes a b e = cc

decoded_some : (r : Result (List ℕ) FromHexError) (bytes : List ℕ) → decoded r ≡ Some bytes →
    r ≡ Ok bytes
decoded_some (Ok read) bytes e = ap Ok (these_bytes read bytes e)
decoded_some (Err fault) bytes e = absurd (no_bytes bytes e)

spelled_by : (bytes : List ℕ) → 0 < length bytes → hexadecimal bytes ≡ encode_lower bytes
spelled_by [] h = absurd (omega arith)
spelled_by (b ∷ bs) h = refl

pub pairs_spell : (most : ℕ) (word bytes : List ℕ) → are_pairs most word ≡ true →
    decode_of word ≡ Ok bytes → IsSpelled most word bytes
pairs_spell most word bytes h e =
    let outer =
    and_parts (leb 1 (length word) && eqb (length word % 2) 0 && leb (length word / 2) most)
    (list_all is_lower_digit word) h in
    let middle =
    and_parts (leb 1 (length word) && eqb (length word % 2) 0) (leb (length word / 2) most) outer.0
    in
    let inner = and_parts (leb 1 (length word)) (eqb (length word % 2) 0) middle.0 in
    let some : 1 ≤ length word = leb-true 1 (length word) inner.0 in
    let few : length word / 2 ≤ most = leb-true (length word / 2) most middle.1 in
    let ok = decode_of-ok word bytes e in
    let twice : length word ≡ 2 * length bytes = ok.2 in
    let pairs : decode_pairs 0 word ≡ Ok bytes = sym (decode_of-even word ok.0) ∙ e in
    let back : encode_lower bytes ≡ word = text_back 0 word bytes outer.1 pairs in
    record {
      spelled = sym (spelled_by bytes (omega arith) ∙ back);
      few = omega arith;
      are_bytes = ok.3;
    }

-- what is read is spelled
pub is_spelled : (most : ℕ) (word bytes : List ℕ) → bytes_of most word ≡ Some bytes →
    IsSpelled most word bytes
unfolding bytes_of
is_spelled most word bytes e =
    elim (chosen (bytes_eq word (codes "-")) (Some []) _ (Some bytes) e) [
      | inl h ↦
          let same : [] ≡ bytes = these_bytes [] bytes h.1 in
          let word_is : word ≡ codes "-" = (bytes_eq-Decides word (codes "-")).0 h.0 in
          subst (IsSpelled most word) same
          (record { spelled = word_is; few = omega arith; are_bytes = λ i. omega arith })
      | inr h ↦ elim (chosen (are_pairs most word) _ None (Some bytes) h.1) [
        | inl g ↦ pairs_spell most word bytes g.0 (decoded_some (decode_of word) bytes g.1)
        | inr g ↦ absurd (no_bytes bytes g.1)
      ]
    ]

spelling_pairs : (most : ℕ) (b : ℕ) (bs : List ℕ) → length (b ∷ bs) ≤ most → IsBytes (b ∷ bs) →
    are_pairs most (encode_lower (b ∷ bs)) ≡ true
spelling_pairs most b bs few fit =
    let twice : length (encode_lower (b ∷ bs)) ≡ 2 * length (b ∷ bs) =
    length-encode_with lower_digits (b ∷ bs) in
    let some : 1 ≤ length (encode_lower (b ∷ bs)) = omega arith in
    let even : length (encode_lower (b ∷ bs)) % 2 ≡ 0 = omega arith in
    let half : length (encode_lower (b ∷ bs)) / 2 ≤ most = omega arith in
    rw (
      le-leb 1 (length (encode_lower (b ∷ bs))) some,
      eq-eqb (length (encode_lower (b ∷ bs)) % 2) 0 even,
      le-leb (length (encode_lower (b ∷ bs)) / 2) most half,
      text_digits (b ∷ bs) fit,
    ) refl

no_dash : (b : ℕ) (bs : List ℕ) → bytes_eq (encode_lower (b ∷ bs)) (codes "-") ≡ false
unfolding encode_with
no_dash b bs = and-false (eqb (slice_index lower_digits (b / 16)) 45)

read_again : (most : ℕ) (bytes : List ℕ) → length bytes ≤ most → IsBytes bytes →
    bytes_of most (hexadecimal bytes) ≡ Some bytes
unfolding bytes_of
read_again most [] few fit = refl
read_again most (b ∷ bs) few fit =
    rw (
      no_dash b bs,
      spelling_pairs most b bs few fit,
      decode_of-encode_lower (b ∷ bs) fit,
    ) refl

-- what is spelled is read
pub is_read : (most : ℕ) (word bytes : List ℕ) → IsSpelled most word bytes →
    bytes_of most word ≡ Some bytes
is_read most word bytes h = rw h.spelled (read_again most bytes h.few h.are_bytes)
