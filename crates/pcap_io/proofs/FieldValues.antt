-- A number that is read is spelled by its bytes, and a number that is spelled is read again.
use Rattle.std.proofs.Common.{◌≡◌, ℕ, ◌+◌, ◌-◌, ◌^◌, ◌<◌, ◌≤◌, Bool, true, false, cond, not, eqb}
use Rattle.std.proofs.Common.{List, [], ◌∷◌, ◌++◌, length, get_or, take, drop, Result, Ok, Err}
use Rattle.std.proofs.Common.{refl, sym, ap, ◌∙◌, arith, inl, inr}
use Rattle.std.specs.Prelude.{slice_range, ◌&&◌}
use Rattle.std.specs.Int.{Width, w16, w32, byte_len}
use Rattle.std.proofs.lemmas.Bool.{cases_lt, eqb-true, and_parts, not-false}
use Rattle.std.proofs.lemmas.List.{take-append-drop, take-take, drop-take, length-take, length-drop}
use Rattle.std.proofs.lemmas.List.{get_or-drop, get_or-take, get_or_past}
use Rattle.std.proofs.lemmas.Nat.{be_bytes_2, be_bytes_4, le_bytes_2, le_bytes_4}
use Rattle.std.proofs.lemmas.Nat.{from_be_bytes-to_be_bytes_4, from_le_bytes-to_le_bytes_4}
use Rattle.pcap_io.specs.declared.fault.CaptureFault.{CaptureFault}
use Rattle.pcap_io.specs.Text.{field}
use Rattle.pcap_io.specs.Reading.{◌>>=◌, field_value, number_at}

-- ---- bytes, and parts of a text

abbrev pub IsBytes : List ℕ → Type 0
IsBytes bytes = (i : ℕ) → get_or bytes i 0 < 256

pub IsBytes-drop : (n : ℕ) (bytes : List ℕ) → IsBytes bytes → IsBytes (drop n bytes)
IsBytes-drop n bytes h i = rw get_or-drop (h (n + i))

pub IsBytes-take : (n : ℕ) (bytes : List ℕ) → IsBytes bytes → IsBytes (take n bytes)
IsBytes-take n bytes h i =
    elim (cases_lt i n) [
      | inl lt ↦ rw (get_or-take n bytes i 0 lt) (h i)
      | inr le ↦ rw (get_or_past (take n bytes) i 0 (omega (arith, length-take n bytes)))
          (omega arith)
    ]

pub length-range : (text : List ℕ) (a b : ℕ) → a ≤ b → b ≤ length text →
    length (slice_range text a b) ≡ b - a
length-range text a b le long = omega (arith, length-take (b - a) (drop a text), length-drop a text)

-- a front and the part behind it
pub joined : (text : List ℕ) (a b : ℕ) → a ≤ b → take a text ++ slice_range text a b ≡ take b text
joined text a b le =
    let whole : a + (b - a) ≡ b = omega arith in
    let longer : a ≤ a + (b - a) = omega arith in
    let parts : take a text ++ take (b - a) (drop a text) ≡ take (a + (b - a)) text =
    ap (λ (front : List ℕ). front ++ take (b - a) (drop a text))
    (sym (take-take a (a + (b - a)) text longer))
    ∙ ap (λ (back : List ℕ). take a (take (a + (b - a)) text) ++ back)
    (sym (drop-take a (b - a) text))
    ∙ take-append-drop a (take (a + (b - a)) text) in
    parts ∙ ap (λ (n : ℕ). take n text) whole

-- ---- numbers

field_takes32 : (big : Bool) (bytes : List ℕ) → length bytes ≡ 4 → IsBytes bytes →
    field big w32 (field_value big w32 bytes) ≡ bytes
field_takes32 true bytes len fits = be_bytes_4 bytes _ len fits refl
field_takes32 false bytes len fits = le_bytes_4 bytes _ len fits refl

field_takes16 : (big : Bool) (bytes : List ℕ) → length bytes ≡ 2 → IsBytes bytes →
    field big w16 (field_value big w16 bytes) ≡ bytes
field_takes16 true bytes len fits = be_bytes_2 bytes _ len fits refl
field_takes16 false bytes len fits = le_bytes_2 bytes _ len fits refl

number_below : (big : Bool) (bytes : List ℕ) → IsBytes bytes → field_value big w32 bytes < 2 ^ 32
number_below true bytes fits = omega (arith, fits 0, fits 1, fits 2, fits 3)
number_below false bytes fits = omega (arith, fits 0, fits 1, fits 2, fits 3)

-- the four bytes of a number, one by one: over them places compute, whatever the byte order
abbrev pub four : Bool → ℕ → List ℕ
four big n =
    get_or (field big w32 n) 0 0 ∷ get_or (field big w32 n) 1 0 ∷ get_or (field big w32 n) 2 0
    ∷ get_or (field big w32 n) 3 0 ∷ []

pub four_is : (big : Bool) (n : ℕ) → field big w32 n ≡ four big n
four_is true n = refl
four_is false n = refl

pub number_again : (big : Bool) (n : ℕ) → n < 2 ^ 32 → field_value big w32 (four big n) ≡ n
number_again true n lt = from_be_bytes-to_be_bytes_4 n lt
number_again false n lt = from_le_bytes-to_le_bytes_4 n lt

-- the two bytes of a shorter one
abbrev pub two : Bool → ℕ → List ℕ
two big n = get_or (field big w16 n) 0 0 ∷ get_or (field big w16 n) 1 0 ∷ []

pub two_is : (big : Bool) (n : ℕ) → field big w16 n ≡ two big n
two_is true n = refl
two_is false n = refl

pub short_again : (big : Bool) (n : ℕ) → n < 2 ^ 16 → field_value big w16 (two big n) ≡ n
short_again true n lt = omega arith
short_again false n lt = omega arith

IsBytes-range : (text : List ℕ) (a b : ℕ) → IsBytes text → IsBytes (slice_range text a b)
IsBytes-range text a b fits = IsBytes-take (b - a) (drop a text) (IsBytes-drop a text fits)

-- a field behind a front of the text makes a longer front
field_behind : (big : Bool) (w : Width) → ((bytes : List ℕ) → length bytes ≡ byte_len w →
    IsBytes bytes → field big w (field_value big w bytes) ≡ bytes) → (text : List ℕ) (at : ℕ) →
    IsBytes text → at + byte_len w ≤ length text →
    take at text ++ field big w (number_at big w at text) ≡ take (at + byte_len w) text
field_behind big w takes text at fits long =
    let part = slice_range text at (at + byte_len w) in
    let is : field big w (number_at big w at text) ≡ part =
    takes part (omega (arith, length-range text at (at + byte_len w)))
    (IsBytes-range text at (at + byte_len w) fits) in
    ap (λ (back : List ℕ). take at text ++ back) is
    ∙ joined text at (at + byte_len w) (omega arith)

pub behind32 : (big : Bool) (text : List ℕ) (at : ℕ) → IsBytes text → at + 4 ≤ length text →
    take at text ++ field big w32 (number_at big w32 at text) ≡ take (at + 4) text
behind32 big text at fits long = field_behind big w32 (field_takes32 big) text at fits long

pub behind16 : (big : Bool) (text : List ℕ) (at : ℕ) → IsBytes text → at + 2 ≤ length text →
    take at text ++ field big w16 (number_at big w16 at text) ≡ take (at + 2) text
behind16 big text at fits long = field_behind big w16 (field_takes16 big) text at fits long

pub at_below : (big : Bool) (text : List ℕ) (at : ℕ) → IsBytes text →
    number_at big w32 at text < 2 ^ 32
at_below big text at fits =
    number_below big (slice_range text at (at + 4)) (IsBytes-range text at (at + 4) fits)

-- ---- tests

pub same_numbers : (a b m n : ℕ) → not (eqb a m && eqb b n) ≡ false → (a ≡ m) × (b ≡ n)
same_numbers a b m n e =
    let both = and_parts (eqb a m) (eqb b n) (not-false (eqb a m && eqb b n) e) in
    (eqb-true a m both.0, eqb-true b n both.1)

abbrev done : {A : Type 0} → A → Result A CaptureFault
done x = Ok x

pub ok_is : {A : Type 0} (x y : A) → done x ≡ done y → x ≡ y
ok_is x y e = cc

-- the value of a step that did not fail
pub guarded : {A : Type 0} (b : Bool) (fault : CaptureFault) (r : Result A CaptureFault) (x : A) →
    cond b (Err fault) r ≡ Ok x → (b ≡ false) × (r ≡ Ok x)
guarded true fault r x e = absurd cc
guarded false fault r x e = (refl, e)

pub bound : {A B : Type 0} (r : Result A CaptureFault) (f : A → Result B CaptureFault) (y : B) →
    (r >>= f) ≡ Ok y → (x : A) × (r ≡ Ok x) × (f x ≡ Ok y)
bound (Ok x) f y e = (x, refl, e)
bound (Err fault) f y e = absurd cc
