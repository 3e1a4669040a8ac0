-- A text that is cut at its first separator: its parts, its lines, its words.
use Rattle.std.proofs.Common.{◌≡◌, ℕ, zero, suc, ◌+◌, ◌<◌, ◌≤◌, Bool, true, false, cond, not, eqb}
use Rattle.std.proofs.Common.{List, [], ◌∷◌, length, get_or, take, drop, Some, None, ◌∙◌, refl, sym}
use Rattle.std.proofs.Common.{ap, arith, add-one, length-drop, eq-eqb}
use Rattle.std.proofs.lemmas.List.{length-take-le}
use Rattle.std.proofs.lemmas.Bool.{ne_eqb}
use Rattle.std.specs.Prelude.{filter}
use Rattle.std.specs.List.{slice_split, onto_first}
use Rattle.std.specs.Str.Lines.{lines, lines_of_parts, strip_carriage_return}
use Rattle.std.proofs.lemmas.List.Splits.{slice_split-cons_yes, slice_split-cons_no}
use Rattle.text_lines.specs.Words.{words_of, is_blank, cut_at}

-- the parts after the first one
abbrev pub later_parts : (ℕ → Bool) → List ℕ → List (List ℕ)
later_parts p [] = []
later_parts p (y ∷ ys) = slice_split p ys

-- the first part ends at the first separator
pub slice_split-first : (p : ℕ → Bool) (n : ℕ) (xs : List ℕ) →
    ((k : ℕ) → k < n → p (get_or xs k 0) ≡ false) → (n < length xs → p (get_or xs n 0) ≡ true) →
    n ≤ length xs → slice_split p xs ≡ take n xs ∷ later_parts p (drop n xs)
slice_split-first p zero [] before at le = refl
slice_split-first p zero (x ∷ xs) before at le = slice_split-cons_yes p x xs (at (omega arith))
slice_split-first p (suc n) [] before at le = absurd (omega arith)
slice_split-first p (suc n) (x ∷ xs) before at le =
    slice_split-cons_no p x xs (before 0 (omega arith))
    ∙ ap (onto_first x) (slice_split-first p n xs (λ k h. before (suc k) (omega arith))
    (λ h. at (omega arith)) (omega arith))

-- leading blanks make no word
pub words_of-blanks : (n : ℕ) (xs : List ℕ) → ((k : ℕ) → k < n → is_blank (get_or xs k 0) ≡ true) →
    n ≤ length xs → words_of xs ≡ words_of (drop n xs)
unfolding words_of
words_of-blanks zero xs before le = refl
words_of-blanks (suc n) [] before le = absurd (omega arith)
words_of-blanks (suc n) (x ∷ xs) before le =
    ap (λ parts. filter (λ w. not (eqb (length w) 0)) parts)
    (slice_split-cons_yes is_blank x xs (before 0 (omega arith)))
    ∙ words_of-blanks n xs (λ k h. before (suc k) (omega arith)) (omega arith)

filter-later : (ys : List ℕ) → (0 < length ys → is_blank (get_or ys 0 0) ≡ true) →
    filter (λ w. not (eqb (length w) 0)) (later_parts is_blank ys) ≡ words_of ys
unfolding words_of
filter-later [] h = refl
filter-later (y ∷ ys) h =
    sym (ap (λ parts. filter (λ w. not (eqb (length w) 0)) parts)
    (slice_split-cons_yes is_blank y ys (h (omega arith))))

pub first_of_rest : (n : ℕ) (xs : List ℕ) → (n < length xs → is_blank (get_or xs n 0) ≡ true) →
    0 < length (drop n xs) → is_blank (get_or (drop n xs) 0 0) ≡ true
first_of_rest zero xs at h = at h
first_of_rest (suc n) [] at h = absurd (omega arith)
first_of_rest (suc n) (x ∷ xs) at h = first_of_rest n xs (λ less. at (omega arith)) h

filter_word : (n : ℕ) (xs : List ℕ) (rest : List (List ℕ)) → 0 < n → n ≤ length xs →
    filter (λ w. not (eqb (length w) 0)) (take n xs ∷ rest)
    ≡ take n xs ∷ filter (λ w. not (eqb (length w) 0)) rest
filter_word zero xs rest h le = absurd (omega arith)
filter_word (suc n) [] rest h le = absurd (omega arith)
filter_word (suc n) (x ∷ xs) rest h le =
    rw (ne_eqb (suc (length (take n xs))) 0 (λ e. omega arith)) refl

-- a word ends at the first blank after it
pub words_of-word : (n : ℕ) (xs : List ℕ) → ((k : ℕ) → k < n → is_blank (get_or xs k 0) ≡ false) →
    (n < length xs → is_blank (get_or xs n 0) ≡ true) → 0 < n → n ≤ length xs →
    words_of xs ≡ take n xs ∷ words_of (drop n xs)
unfolding words_of
words_of-word n xs before at some le =
    let later : (0 < length (drop n xs) → is_blank (get_or (drop n xs) 0 0) ≡ true) =
    λ h. first_of_rest n xs at h in
    ap (λ parts. filter (λ w. not (eqb (length w) 0)) parts)
    (slice_split-first is_blank n xs before at le)
    ∙ filter_word n xs (later_parts is_blank (drop n xs)) some le
    ∙ ap (λ ws. take n xs ∷ ws) (filter-later (drop n xs) later)

pub split_some : (p : ℕ → Bool) (ys : List ℕ) →
    (part : List ℕ) × (parts : List (List ℕ)) × (slice_split p ys ≡ part ∷ parts)
split_some p [] = ([], [], refl)
split_some p (y ∷ ys) =
    let found = split_some p ys in
    elim (p y) as (λ b. (part : List ℕ) × (parts : List (List ℕ))
    × (cond b ([] ∷ slice_split p ys) (onto_first y (slice_split p ys)) ≡ part ∷ parts)) [
      | true ↦ ([], slice_split p ys, refl)
      | false ↦ (y ∷ found.0, found.1, ap (onto_first y) found.2)
    ]

one_line : (line : List ℕ) → 0 < length line → lines_of_parts (line ∷ []) ≡ line ∷ []
one_line [] h = absurd (omega arith)
one_line (x ∷ xs) h = rw (ne_eqb (suc (length xs)) 0 (λ e. omega arith)) refl

length_zero : (xs : List ℕ) → length xs ≡ 0 → xs ≡ []
length_zero [] e = refl
length_zero (x ∷ xs) e = absurd (omega arith)

-- a line that nothing ends
pub lines-last : (n : ℕ) (text : List ℕ) → ((k : ℕ) → k < n → eqb (get_or text k 0) 10 ≡ false) →
    n ≤ length text → 0 < length text → length (drop n text) ≡ 0 →
    lines text ≡ take n text ∷ lines (drop n text)
lines-last n text before le some end =
    let short : length text ≤ n = omega (arith, length-drop {A = ℕ}) in
    let none : n < length text → eqb (get_or text n 0) 10 ≡ true = λ h. absurd (omega arith) in
    ap lines_of_parts (slice_split-first (λ b. eqb b 10) n text before none le)
    ∙ rw (length_zero (drop n text) end)
    (one_line (take n text) (omega (arith, length-take-le n text le)))

line_on : (line rest : List ℕ) → 1 ≤ length rest →
    lines_of_parts (line ∷ later_parts (λ b. eqb b 10) rest)
    ≡ strip_carriage_return line ∷ lines (drop 1 rest)
line_on line [] h = absurd (omega arith)
line_on line (y ∷ ys) h =
    let found = split_some (λ b. eqb b 10) ys in
    rw found.2 refl

-- a line that LF ends
pub lines-ended : (n : ℕ) (text : List ℕ) → ((k : ℕ) → k < n → eqb (get_or text k 0) 10 ≡ false) →
    (n < length text → get_or text n 0 ≡ 10) → n ≤ length text → 1 ≤ length (drop n text) →
    lines text ≡ strip_carriage_return (take n text) ∷ lines (drop 1 (drop n text))
lines-ended n text before at le more =
    let feed : n < length text → eqb (get_or text n 0) 10 ≡ true =
    λ h. eq-eqb (get_or text n 0) 10 (at h) in
    ap lines_of_parts (slice_split-first (λ b. eqb b 10) n text before feed le)
    ∙ line_on (take n text) (drop n text) more

-- a word is cut at the first of the bytes
pub cut_at-found : (c n : ℕ) (xs : List ℕ) → ((k : ℕ) → k < n → eqb (get_or xs k 0) c ≡ false) →
    n < length xs → get_or xs n 0 ≡ c → cut_at c xs ≡ Some (take n xs, drop (n + 1) xs)
cut_at-found c n [] before h at = absurd (omega arith)
cut_at-found c zero (x ∷ xs) before h at = rw (eq-eqb x c at) refl
cut_at-found c (suc n) (x ∷ xs) before h at =
    let other : eqb x c ≡ false = before 0 (omega arith) in
    let later : cut_at c xs ≡ Some (take n xs, drop (suc n) xs) =
    rw (← add-one n) (cut_at-found c n xs (λ k less. before (suc k) (omega arith)) (omega arith) at)
    in rw (other, later, add-one) refl

pub cut_at-none : (c : ℕ) (xs : List ℕ) →
    ((k : ℕ) → k < length xs → eqb (get_or xs k 0) c ≡ false) → cut_at c xs ≡ None
cut_at-none c [] before = refl
cut_at-none c (x ∷ xs) before =
    let other : eqb x c ≡ false = before 0 (omega arith) in
    rw (other, cut_at-none c xs (λ k less. before (suc k) (omega arith))) refl

pub words_of-empty : (xs : List ℕ) → length xs ≡ 0 → words_of xs ≡ []
unfolding words_of
words_of-empty [] e = refl
words_of-empty (x ∷ xs) e = absurd (omega arith)

-- the first of what comes after n of them is the one at place n
pub get_or-drop_first : (n : ℕ) (xs : List ℕ) → get_or (drop n xs) 0 0 ≡ get_or xs n 0
get_or-drop_first zero xs = refl
get_or-drop_first (suc n) [] = refl
get_or-drop_first (suc n) (x ∷ xs) = get_or-drop_first n xs
