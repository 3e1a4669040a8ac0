-- Fields that are read exactly where they are written.
use Rattle.std.proofs.Common.{◌≡◌, ℕ, inl, inr, List, [], ◌∷◌, ◌++◌, Option, Some, None, cond}
use Rattle.std.proofs.Common.{◌∙◌, refl, sym, ap, subst, append_assoc}
use Rattle.std.specs.Prelude.{bytes_eq, option_map, IfSome}
use Rattle.std.specs.Option.{option_map_or}
use Rattle.std.proofs.lemmas.Option.{none-some, same_Some, some_pair_parts}
use Rattle.text_lines.specs.Words.{◌>>=◌, cut_at}
use Rattle.journal_reading.specs.Reading.{field, both, last, made, behind, part}
use Rattle.journal_reading.proofs.WordCuts.{bind_some, map_some, chosen, taken, same_word, word_is}
use Rattle.journal_reading.proofs.WordCuts.{cut_some, cut_front, uncut_append}

-- a whole word, or the end of a line
pub record IsWord {A : Type 0} (read : List ℕ → Option A) (text : A → List ℕ)
    (Fits : A → Type 0) : Type 0 where
  pub again : (x : A) → Fits x → read (text x) ≡ Some x
  pub spelled : (word : List ℕ) (x : A) → read word ≡ Some x → Fits x × (word ≡ text x)
  pub one_line : (x : A) → Fits x → cut_at 10 (text x) ≡ None

-- the front of a text, before such texts
pub record IsField {A : Type 0} (read : List ℕ → Option (A × List ℕ)) (text : A → List ℕ)
    (Fits : A → Type 0) (Before : List ℕ → Type 0) : Type 0 where
  pub again : (x : A) (rest : List ℕ) → Fits x → Before rest →
      read (text x ++ rest) ≡ Some (x, rest)
  pub spelled : (front : List ℕ) (x : A) (rest : List ℕ) → read front ≡ Some (x, rest) →
      Fits x × (front ≡ text x ++ rest)
  pub one_line : (x : A) → Fits x → cut_at 10 (text x) ≡ None

-- before any text
abbrev pub Any : List ℕ → Type 0
Any rest = Unit {0}

-- a field, only before other texts
pub weaker : {A : Type 0} (read : List ℕ → Option (A × List ℕ)) (text : A → List ℕ)
    (Fits : A → Type 0) (Before After : List ℕ → Type 0) → IsField read text Fits Before →
    ((rest : List ℕ) → After rest → Before rest) → IsField read text Fits After
weaker read text Fits Before After h only = record {
  again = λ x rest fits after. h.again x rest fits (only rest after);
  spelled = h.spelled;
  one_line = h.one_line;
}

-- a word and the blank behind it
pub field_is : {A : Type 0} (read : List ℕ → Option A) (text : A → List ℕ) (Fits : A → Type 0) →
    IsWord read text Fits → ((x : A) → Fits x → cut_at 32 (text x) ≡ None) →
    IsField (field read) (λ x. text x ++ 32 ∷ []) Fits Any
field_is {A} read text Fits h uncut = record {
  again = λ x rest fits any. ap (field read) (append_assoc (text x) (32 ∷ []) rest)
      ∙ ap (λ (o : Option (List ℕ × List ℕ)). o >>= λ parts. read parts.0 >>= λ y.
      Some (y, parts.1)) (cut_front 32 (text x) rest (uncut x fits))
      ∙ ap (λ (o : Option A). o >>= λ y. Some (y, rest)) (h.again x fits);
  spelled = λ front x rest e.
      let cut = bind_some (cut_at 32 front) _ (x, rest) e in
      let val = bind_some (read (cut.0).0) _ (x, rest) cut.2 in
      let parts = some_pair_parts val.0 x (cut.0).1 rest val.2 in
      let s = h.spelled (cut.0).0 val.0 val.1 in (
        subst Fits parts.0 s.0,
        cut_some 32 front cut.0 cut.1 ∙ ap (λ z. z ++ 32 ∷ (cut.0).1) (s.1 ∙ ap text parts.0)
            ∙ ap (λ z. text x ++ 32 ∷ z) parts.1 ∙ sym (append_assoc (text x) (32 ∷ []) rest),
      );
  one_line = λ x fits. uncut_append 10 (text x) (32 ∷ []) (h.one_line x fits) refl;
}

-- one field after the other
pub both_is : {A B : Type 0} (first : List ℕ → Option (A × List ℕ))
    (second : List ℕ → Option (B × List ℕ)) (text : A → List ℕ) (behind_it : B → List ℕ)
    (Fits : A → Type 0) (Suits : B → Type 0) (Before After : List ℕ → Type 0) →
    IsField first text Fits Before → IsField second behind_it Suits After →
    ((y : B) (rest : List ℕ) → Suits y → After rest → Before (behind_it y ++ rest)) →
    IsField (both first second) (λ p. text p.0 ++ behind_it p.1) (λ p. Fits p.0 × Suits p.1) After
both_is {A} {B} first second text behind_it Fits Suits Before After h g side = record {
  again = λ p rest fits after.
      ap (both first second) (append_assoc (text p.0) (behind_it p.1) rest)
      ∙ ap (λ (o : Option (A × List ℕ)). o >>= λ x. second x.1 >>= λ y. Some ((x.0, y.0), y.1))
      (h.again p.0 (behind_it p.1 ++ rest) fits.0 (side p.1 rest fits.1 after))
      ∙ ap (λ (o : Option (B × List ℕ)). o >>= λ y. Some ((p.0, y.0), y.1))
      (g.again p.1 rest fits.1 after);
  spelled = λ front p rest e.
      let a = bind_some (first front) _ (p, rest) e in
      let b = bind_some (second (a.0).1) _ (p, rest) a.2 in
      let parts = some_pair_parts ((a.0).0, (b.0).0) p (b.0).1 rest b.2 in
      let f = h.spelled front (a.0).0 (a.0).1 a.1 in
      let s = g.spelled (a.0).1 (b.0).0 (b.0).1 b.1 in
      subst (λ (q : A × B). (Fits q.0 × Suits q.1)
      × (front ≡ (text q.0 ++ behind_it q.1) ++ rest)) parts.0
      (subst (λ (r : List ℕ). (Fits (a.0).0 × Suits (b.0).0)
      × (front ≡ (text (a.0).0 ++ behind_it (b.0).0) ++ r)) parts.1 (
        (f.0, s.0),
        f.1 ∙ ap (λ z. text (a.0).0 ++ z) s.1
            ∙ sym (append_assoc (text (a.0).0) (behind_it (b.0).0) (b.0).1),
      ));
  one_line = λ p fits. uncut_append 10 (text p.0) (behind_it p.1) (h.one_line p.0 fits.0)
      (g.one_line p.1 fits.1);
}

-- fields, and then the last word of a line
pub last_is : {A B : Type 0} (first : List ℕ → Option (A × List ℕ))
    (word : List ℕ → Option B) (text : A → List ℕ) (behind_it : B → List ℕ)
    (Fits : A → Type 0) (Suits : B → Type 0) (Before : List ℕ → Type 0) →
    IsField first text Fits Before → IsWord word behind_it Suits →
    ((y : B) → Suits y → Before (behind_it y)) →
    IsWord (last first word) (λ p. text p.0 ++ behind_it p.1) (λ p. Fits p.0 × Suits p.1)
last_is {A} {B} first word text behind_it Fits Suits Before h g side = record {
  again = λ p fits.
      ap (λ (o : Option (A × List ℕ)). o >>= λ x. word x.1 >>= λ y. Some (x.0, y))
      (h.again p.0 (behind_it p.1) fits.0 (side p.1 fits.1))
      ∙ ap (λ (o : Option B). o >>= λ y. Some (p.0, y)) (g.again p.1 fits.1);
  spelled = λ line p e.
      let a = bind_some (first line) _ p e in
      let b = bind_some (word (a.0).1) _ p a.2 in
      let same = same_Some ((a.0).0, b.0) p b.2 in
      let f = h.spelled line (a.0).0 (a.0).1 a.1 in
      let s = g.spelled (a.0).1 b.0 b.1 in
      subst (λ (q : A × B). (Fits q.0 × Suits q.1) × (line ≡ text q.0 ++ behind_it q.1)) same
      ((f.0, s.0), f.1 ∙ ap (λ z. text (a.0).0 ++ z) s.1);
  one_line = λ p fits. uncut_append 10 (text p.0) (behind_it p.1) (h.one_line p.0 fits.0)
      (g.one_line p.1 fits.1);
}

-- what fields make, where it can be taken apart again
pub made_is : {A B : Type 0} (make : A → B) (parts : B → A) (read : List ℕ → Option (A × List ℕ))
    (text : A → List ℕ) (Fits : A → Type 0) (Before : List ℕ → Type 0) →
    ((b : B) → make (parts b) ≡ b) → ((a : A) → parts (make a) ≡ a) →
    IsField read text Fits Before →
    IsField (made make read) (λ b. text (parts b)) (λ b. Fits (parts b)) Before
made_is {A} {B} make parts read text Fits Before back forth h = record {
  again = λ b rest fits before.
      ap (option_map (λ (x : A × List ℕ). (make x.0, x.1))) (h.again (parts b) rest fits before)
      ∙ ap (λ (y : B). Some (y, rest)) (back b);
  spelled = λ front b rest e.
      let a = map_some _ (read front) (b, rest) e in
      let s = h.spelled front (a.0).0 (a.0).1 a.1 in
      let same : parts b ≡ (a.0).0 =
      sym (ap (λ (x : B × List ℕ). parts x.0) a.2) ∙ forth (a.0).0 in
      let left : (a.0).1 ≡ rest = ap (λ (x : B × List ℕ). x.1) a.2 in (
        subst Fits (sym same) s.0,
        s.1 ∙ ap (λ (x : A). text x ++ (a.0).1) (sym same) ∙ ap (λ z. text (parts b) ++ z) left,
      );
  one_line = λ b fits. h.one_line (parts b) fits;
}

-- ---- words that are told by name

pub behind_again : (name rest : List ℕ) → cut_at 32 name ≡ None →
    behind name (name ++ 32 ∷ rest) ≡ Some rest
behind_again name rest uncut =
    ap (λ (o : Option (List ℕ × List ℕ)). o >>= λ parts. cond (bytes_eq parts.0 name)
    (Some parts.1) None) (cut_front 32 name rest uncut)
    ∙ taken (bytes_eq name name) (Some rest) None (word_is name name refl)

pub behind_some : (name front rest : List ℕ) → behind name front ≡ Some rest →
    front ≡ name ++ 32 ∷ rest
behind_some name front rest e =
    let cut = bind_some (cut_at 32 front) _ rest e in
    elim (chosen (bytes_eq (cut.0).0 name) (Some (cut.0).1) None (Some rest) cut.2) [
      | inl h ↦ cut_some 32 front cut.0 cut.1
          ∙ ap (λ z. z ++ 32 ∷ (cut.0).1) (same_word (cut.0).0 name h.0)
          ∙ ap (λ z. name ++ 32 ∷ z) (same_Some (cut.0).1 rest h.1)
      | inr h ↦ absurd (none-some rest h.1)
    ]

-- a part that may be missing, behind its name
abbrev pub part_text : {A : Type 0} → List ℕ → (A → List ℕ) → Option A → List ℕ
part_text name text None = []
part_text name text (Some x) = name ++ 32 ∷ text x

abbrev pub NotBehind : List ℕ → List ℕ → Type 0
NotBehind name rest = behind name rest ≡ None

part_again : {A : Type 0} (name : List ℕ) (read : List ℕ → Option (A × List ℕ))
    (text : A → List ℕ) (Fits : A → Type 0) → cut_at 32 name ≡ None →
    IsField read text Fits Any → (o : Option A) (rest : List ℕ) → IfSome o Fits →
    NotBehind name rest → part name read (part_text name text o ++ rest) ≡ Some (o, rest)
part_again {A} name read text Fits uncut h None rest fits none =
    ap (λ (o : Option (List ℕ)). option_map_or (λ more. option_map
    (λ (x : A × List ℕ). (Some x.0, x.1)) (read more)) o (Some (None, rest))) none
part_again {A} name read text Fits uncut h (Some x) rest fits none =
    ap (part name read) (append_assoc name (32 ∷ text x) rest)
    ∙ ap (λ (o : Option (List ℕ)). option_map_or (λ more. option_map
    (λ (y : A × List ℕ). (Some y.0, y.1)) (read more)) o
    (Some (None, name ++ 32 ∷ (text x ++ rest)))) (behind_again name (text x ++ rest) uncut)
    ∙ ap (option_map (λ (y : A × List ℕ). (Some y.0, y.1))) (h.again x rest fits tt)

part_spelled : {A : Type 0} (name : List ℕ) (read : List ℕ → Option (A × List ℕ))
    (text : A → List ℕ) (Fits : A → Type 0) → IsField read text Fits Any → (front : List ℕ)
    (o : Option A) (rest : List ℕ) → part name read front ≡ Some (o, rest) →
    IfSome o Fits × (front ≡ part_text name text o ++ rest)
part_spelled {A} name read text Fits h front o rest e =
    elim (behind name front) as (λ b. behind name front ≡ b →
    option_map_or {T = List ℕ} {U = Option (Option A × List ℕ)} (λ more. option_map
    (λ (x : A × List ℕ). (Some x.0, x.1)) (read more)) b (Some (None, front)) ≡ Some (o, rest) →
    IfSome o Fits × (front ≡ part_text name text o ++ rest)) [
      | None ↦ λ is f.
          let parts = some_pair_parts {A = Option A} None o front rest f in
          subst (λ (p : Option A). IfSome p Fits × (front ≡ part_text name text p ++ rest))
          parts.0 (tt, parts.1)
      | Some more ↦ λ is f.
          let x = map_some (λ (y : A × List ℕ). (Some y.0, y.1)) (read more) (o, rest) f in
          let parts = some_pair_parts (Some (x.0).0) o (x.0).1 rest (ap (λ (p : Option A
          × List ℕ). Some p) x.2) in
          let s = h.spelled more (x.0).0 (x.0).1 x.1 in
          subst (λ (p : Option A). IfSome p Fits × (front ≡ part_text name text p ++ rest))
          parts.0 (
            s.0,
            behind_some name front more is ∙ ap (λ z. name ++ 32 ∷ z) (s.1
                ∙ ap (λ z. text (x.0).0 ++ z) parts.1)
                ∙ sym (append_assoc name (32 ∷ text (x.0).0) rest),
          )
    ] refl e

part_one_line : {A : Type 0} (name : List ℕ) (text : A → List ℕ) (Fits : A → Type 0) →
    cut_at 10 name ≡ None → ((x : A) → Fits x → cut_at 10 (text x) ≡ None) → (o : Option A) →
    IfSome o Fits → cut_at 10 (part_text name text o) ≡ None
part_one_line name text Fits line h None fits = refl
part_one_line name text Fits line h (Some x) fits =
    uncut_append 10 name (32 ∷ text x) line
    (uncut_append 10 (32 ∷ []) (text x) refl (h x fits))

pub part_is : {A : Type 0} (name : List ℕ) (read : List ℕ → Option (A × List ℕ))
    (text : A → List ℕ) (Fits : A → Type 0) → cut_at 32 name ≡ None → cut_at 10 name ≡ None →
    IsField read text Fits Any →
    IsField (part name read) (part_text name text) (λ o. IfSome o Fits) (NotBehind name)
part_is name read text Fits uncut line h = record {
  again = part_again name read text Fits uncut h;
  spelled = part_spelled name read text Fits h;
  one_line = part_one_line name text Fits line h.one_line;
}

-- another part doesn't begin with this name
pub apart : {A : Type 0} (name other : List ℕ) (text : A → List ℕ) (o : Option A)
    (rest : List ℕ) → ((z : List ℕ) → NotBehind name (other ++ 32 ∷ z)) → NotBehind name rest →
    NotBehind name (part_text other text o ++ rest)
apart name other text None rest differ none = none
apart name other text (Some x) rest differ none =
    ap (behind name) (append_assoc other (32 ∷ text x) rest) ∙ differ (text x ++ rest)

-- before `= `
abbrev pub BeforeEquals : List ℕ → Type 0
BeforeEquals rest = (z : List ℕ) × (rest ≡ 61 ∷ 32 ∷ z)

pub equals_apart : (name rest : List ℕ) → ((z : List ℕ) → NotBehind name (61 ∷ 32 ∷ z)) →
    BeforeEquals rest → NotBehind name rest
equals_apart name rest differ h = ap (behind name) h.1 ∙ differ h.0
