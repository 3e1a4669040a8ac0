-- The walk over a body: its steps, and what it finds where attributes were written.
use Rattle.std.proofs.Common.{◌≡◌, ℕ, zero, suc, ◌+◌, ◌-◌, ◌%◌, ◌^◌, ◌<◌, ◌≤◌, true, false}
use Rattle.std.proofs.Common.{List, [], ◌∷◌, ◌++◌, length, take, drop, refl, sym, ap, ap₂}
use Rattle.std.proofs.Common.{subst, ◌∙◌, append_assoc, append-nil, arith, inl, inr}
use Rattle.std.proofs.Math.Nat.{mod-eq_of_lt}
use Rattle.std.proofs.lemmas.Bool.{cases_Bool}
use Rattle.std.proofs.lemmas.List.{take-append-drop, take-take, take_at, drop_at, length-append}
use Rattle.std.proofs.lemmas.List.{length-drop, length-replicate, length-take-le}
use Rattle.byteorder.specs.Endian.{little_bytes, little_number}
use Rattle.byteorder.specs.Numbers.{little_from-lt, little_number-reads_back}
use Rattle.netlink_codec.specs.Fields.{told}
use Rattle.netlink_codec.specs.Numbers.{attribute_header_length, attribute_kind, kind_limit}
use Rattle.netlink_codec.proofs.Bytes.{AreBytes-drop, field_behind}
use Rattle.netlink_codec.proofs.Whole.{is_whole-true, is_whole-false, Limits, limits, why_not_whole}
use Rattle.netlink_codec.specs.Messages.{AreBytes, pad}
use Rattle.netlink_codec.specs.Attributes.{Attribute, AttributeFront, HasNoAttribute, Holds}
use Rattle.netlink_codec.specs.Attributes.{attribute_header_text, FitsAttribute, AllFit}
use Rattle.netlink_codec.specs.Attributes.{zero_padding, attribute_text, attributes_text}
use Rattle.netlink_codec.specs.Attributes.{attribute_length, has_attribute, first_attribute}
use Rattle.netlink_codec.specs.Attributes.{after_attribute, attributes_up_to, attributes}

abbrev pub attribute : ℕ → List ℕ → Attribute
attribute kind content = record { kind = kind; content = content }

-- what the test tells
abbrev Known : List ℕ → Type 0
Known bytes = Limits attribute_header_length (attribute_length bytes) (length bytes)

known_of : (bytes : List ℕ) → has_attribute bytes ≡ true → Known bytes
known_of bytes stands =
    limits attribute_header_length (attribute_length bytes) (length bytes) stands

-- where the bytes begin with an attribute, fewer bytes follow it
after-shorter : (bytes : List ℕ) → has_attribute bytes ≡ true →
    length (after_attribute bytes) < length bytes
after-shorter bytes e =
    let known = known_of bytes e in
    omega (arith, length-drop (pad (attribute_length bytes)) bytes)

-- more steps than there are bytes change nothing
up_to-more : (n m : ℕ) (bytes : List ℕ) → length bytes ≤ n → length bytes ≤ m →
    attributes_up_to n bytes ≡ attributes_up_to m bytes
unfolding attributes_up_to
up_to-more zero zero bytes a b = refl
up_to-more zero (suc m) [] a b = refl
up_to-more zero (suc m) (x ∷ bytes) a b = absurd (omega arith)
up_to-more (suc n) zero [] a b = refl
up_to-more (suc n) zero (x ∷ bytes) a b = absurd (omega arith)
up_to-more (suc n) (suc m) bytes a b =
    elim (cases_Bool (has_attribute bytes)) [
      | inl stands ↦
          let shorter = after-shorter bytes stands in
          rw stands (ap (λ (xs : List Attribute). first_attribute bytes ∷ xs)
          (up_to-more n m (after_attribute bytes) (omega arith) (omega arith)))
      | inr ends ↦ rw ends refl
    ]

-- the walk at an attribute, and at its end
pub attributes-step : (bytes : List ℕ) → has_attribute bytes ≡ true →
    attributes bytes ≡ first_attribute bytes ∷ attributes (after_attribute bytes)
unfolding attributes attributes_up_to
attributes-step [] e = absurd cc
attributes-step (x ∷ bytes) e =
    let shorter = after-shorter (x ∷ bytes) e in
    rw e (ap (λ (xs : List Attribute). first_attribute (x ∷ bytes) ∷ xs)
    (up_to-more (length bytes) (length (after_attribute (x ∷ bytes))) (after_attribute (x ∷ bytes))
    (omega arith) (omega arith)))

pub attributes-end : (bytes : List ℕ) → has_attribute bytes ≡ false → attributes bytes ≡ []
unfolding attributes attributes_up_to
attributes-end [] e = refl
attributes-end (x ∷ bytes) e = rw e refl

-- the attribute that the bytes begin with is the one that reading finds, with its length
record ReadsFirst (bytes : List ℕ) (a : Attribute) : Type 0 where
  stands : has_attribute bytes ≡ true
  first : first_attribute bytes ≡ a
  total : attribute_length bytes ≡ attribute_header_length + length a.content

AttributeFront-first : (bytes : List ℕ) (a : Attribute) → AttributeFront bytes a →
    ReadsFirst bytes a
AttributeFront-first bytes a front =
    let total : ℕ = attribute_header_length + length a.content in
    let rest : List ℕ = front.behind.0 in
    let tail : List ℕ = a.content ++ rest in
    let head : List ℕ = attribute_header_text front.told_kind total ++ a.content in
    let is : bytes ≡ head ++ rest = front.behind.1 in
    let tells : attribute_length (head ++ rest) ≡ total =
    little_number-reads_back 2 total (little_bytes 2 front.told_kind ++ tail)
    front.fits_length in
    let k : little_number 2 (drop 2 (head ++ rest)) ≡ front.told_kind =
    little_number-reads_back 2 front.told_kind tail front.fits_kind in
    let size : length head ≡ total = omega arith in
    let content : drop 4 (take total (head ++ rest)) ≡ a.content =
    ap (drop 4) (take_at head rest total size) in
    let room : length (head ++ rest) ≡ total + length rest = length-append head rest
    ∙ ap (λ (n : ℕ). n + length rest) size in
    let yes =
    is_whole-true attribute_header_length (attribute_length (head ++ rest)) (length (head ++ rest))
    (omega arith) (omega arith) (omega arith) in
    let parts =
    ap₂ attribute (ap (λ (n : ℕ). n % kind_limit) k ∙ front.kind)
    (ap (λ (n : ℕ). drop 4 (take n (head ++ rest))) tells ∙ content) in
    record {
      stands = ap has_attribute is ∙ yes;
      first = ap first_attribute is ∙ parts;
      total = ap attribute_length is ∙ tells;
    }

-- the row that a body holds is the one that the walk gives
pub Holds-attributes : (row : List Attribute) (body : List ℕ) → Holds body row →
    attributes body ≡ row
Holds-attributes [] body ends =
    attributes-end body
    (is_whole-false attribute_header_length (attribute_length body) (length body) ends)
Holds-attributes (a ∷ row) body held =
    let reads = AttributeFront-first body a held.0 in
    attributes-step body reads.stands
    ∙ ap₂ ◌∷◌ reads.first (ap (λ (n : ℕ). attributes (drop (pad n) body)) reads.total
    ∙ Holds-attributes row _ held.1)

content-size : (bytes : List ℕ) → has_attribute bytes ≡ true →
    attribute_header_length + length (first_attribute bytes).content ≡ attribute_length bytes
content-size bytes stands =
    let known = known_of bytes stands in
    omega (
      arith,
      length-drop 4 (take (attribute_length bytes) bytes),
      length-take-le (attribute_length bytes) bytes known.most,
    )

-- where the test holds, the bytes begin with the attribute that reading finds
told-AttributeFront : (bytes : List ℕ) → AreBytes bytes → has_attribute bytes ≡ true →
    AttributeFront bytes (first_attribute bytes)
told-AttributeFront bytes h stands =
    let known = known_of bytes stands in
    let total : ℕ = attribute_length bytes in
    let told_kind : ℕ = told attribute_kind bytes in
    let whole : List ℕ = take total bytes in
    let size = content-size bytes stands in
    let below : total < 2 ^ 16 = little_from-lt 0 2 bytes h in
    let fields : attribute_header_text told_kind total ≡ take 4 bytes =
    ap (λ (front : List ℕ). front ++ little_bytes 2 told_kind)
    (field_behind 0 2 bytes h (omega arith))
    ∙ field_behind 2 2 bytes h (omega arith) in
    let header = take-take 4 total bytes known.least ∙ sym fields
    ∙ ap (attribute_header_text told_kind) (sym size) in
    let parts = sym (take-append-drop 4 whole) ∙ ap (λ (x : List ℕ). x ++ drop 4 whole) header in
    record {
      told_kind = told_kind;
      fits_kind = little_from-lt 0 2 (drop 2 bytes) (AreBytes-drop 2 bytes h);
      fits_length = omega arith;
      kind = refl;
      behind = (
        drop total bytes,
        sym (take-append-drop total bytes)
            ∙ ap (λ (x : List ℕ). x ++ drop total bytes) parts,
      );
    }

fails-HasNoAttribute : (bytes : List ℕ) → has_attribute bytes ≡ false → HasNoAttribute bytes
fails-HasNoAttribute bytes fails =
    why_not_whole attribute_header_length (attribute_length bytes) (length bytes) fails

-- a body of bytes holds what the walk gives
attributes-held : (n : ℕ) (body : List ℕ) → length body ≤ n → AreBytes body →
    Holds body (attributes body)
attributes-held zero body most h =
    elim (cases_Bool (has_attribute body)) [
      | inl stands ↦ let known = known_of body stands in absurd (omega arith)
      | inr fails ↦ let P : List Attribute → Type 0 = λ row. Holds body row in
          subst P (sym (attributes-end body fails)) (fails-HasNoAttribute body fails)
    ]
attributes-held (suc n) body most h =
    elim (cases_Bool (has_attribute body)) [
      | inl stands ↦
          let shorter = after-shorter body stands in
          let row : List Attribute = attributes (after_attribute body) in
          let others : Holds (after_attribute body) row =
          attributes-held n (after_attribute body) (omega arith)
          (AreBytes-drop (pad (attribute_length body)) body h) in
          let Q : ℕ → Type 0 = λ total. Holds (drop (pad total) body) row in
          let P : List Attribute → Type 0 = λ xs. Holds body xs in
          subst P (sym (attributes-step body stands))
          (told-AttributeFront body h stands, subst Q (sym (content-size body stands)) others)
      | inr fails ↦ let P : List Attribute → Type 0 = λ row. Holds body row in
          subst P (sym (attributes-end body fails)) (fails-HasNoAttribute body fails)
    ]

pub attributes-Holds : (body : List ℕ) → AreBytes body → Holds body (attributes body)
attributes-Holds body h = attributes-held (length body) body (omega arith) h

-- what was written begins with the attribute, whatever follows
attribute_text-front : (a : Attribute) (behind : List ℕ) → FitsAttribute a →
    AttributeFront (attribute_text a ++ behind) a
unfolding attribute_text
attribute_text-front a behind fits = record {
  told_kind = a.kind;
  fits_kind = omega (arith, fits.kind);
  fits_length = omega (arith, fits.content);
  kind = mod-eq_of_lt fits.kind;
  behind = (
    zero_padding (attribute_header_length + length a.content) ++ behind,
    append_assoc (attribute_header_text a.kind (attribute_header_length + length a.content)
        ++ a.content) (zero_padding (attribute_header_length + length a.content)) behind,
  );
}

-- the text of an attribute is its length rounded up
pub length-attribute_text : (a : Attribute) →
    length (attribute_text a) ≡ pad (attribute_header_length + length a.content)
unfolding attribute_text
length-attribute_text a =
    let total : ℕ = attribute_header_length + length a.content in
    let head : List ℕ = attribute_header_text a.kind total ++ a.content in
    let size : length head ≡ total = omega arith in
    omega (
      arith,
      length-append head (zero_padding total),
      length-replicate {A = ℕ} (pad total - total) 0,
    )

-- an attribute that was written is the first that the walk finds, whatever follows
attributes-text : (a : Attribute) (behind : List ℕ) → FitsAttribute a →
    attributes (attribute_text a ++ behind) ≡ a ∷ attributes behind
attributes-text a behind fits =
    let bytes : List ℕ = attribute_text a ++ behind in
    let reads = AttributeFront-first bytes a (attribute_text-front a behind fits) in
    let after = ap (λ (n : ℕ). drop (pad n) bytes) reads.total
    ∙ drop_at (attribute_text a) behind (pad (attribute_header_length + length a.content))
    (length-attribute_text a) in
    attributes-step bytes reads.stands ∙ ap₂ ◌∷◌ reads.first (ap attributes after)

-- the row that was written, and then what follows
pub attributes-row : (row : List Attribute) (behind : List ℕ) → AllFit row →
    attributes (attributes_text row ++ behind) ≡ row ++ attributes behind
attributes-row [] behind fits = refl
attributes-row (a ∷ row) behind fits =
    ap attributes (append_assoc (attribute_text a) (attributes_text row) behind)
    ∙ attributes-text a (attributes_text row ++ behind) fits.0
    ∙ ap (λ (xs : List Attribute). a ∷ xs) (attributes-row row behind fits.1)

-- the row that was written, and nothing more
pub attributes-row_alone : (row : List Attribute) → AllFit row →
    attributes (attributes_text row) ≡ row
attributes-row_alone row fits =
    ap attributes (sym (append-nil (attributes_text row))) ∙ attributes-row row [] fits
    ∙ ap (λ (xs : List Attribute). row ++ xs) (attributes-end [] refl) ∙ append-nil row
