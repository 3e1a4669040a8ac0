-- A line that is cut between its words.
use Rattle.std.proofs.Common.{◌≡◌, ℕ, ◌+◌, ◌-◌, ◌<◌, ◌≤◌, true, false, not, eqb, List, []}
use Rattle.std.proofs.Common.{◌∷◌, ◌++◌, length, get_or, take, drop, Option, Some, None, ◌∙◌, refl}
use Rattle.std.proofs.Common.{sym, ap, inl, inr, arith, length-drop}
use Rattle.std.specs.Prelude.{filter, option_map, bytes_eq}
use Rattle.std.specs.List.{slice_split, onto_first}
use Rattle.std.proofs.lemmas.Bool.{cases_Bool}
use Rattle.std.proofs.lemmas.Option.{same_Some}
use Rattle.std.proofs.lemmas.List.{append_assoc, append_cancel_right, append-nil, drop-drop}
use Rattle.std.proofs.lemmas.List.{take-append-drop}
use Rattle.std.proofs.lemmas.List.Elements.{filter-append}
use Rattle.std.proofs.lemmas.List.Splits.{slice_split-cons_yes, slice_split-cons_no}
use Rattle.text_lines.specs.Words.{IsAtWordEnd, cut_at_word, first_word, is_blank, words_of}
use Rattle.text_lines.proofs.TextCuts.{first_of_rest, split_some}

-- what stands behind the first word of a line, whose blanks were passed
pub is_word_end : (line words rest : List ℕ) (n : ℕ) → length words ≤ length line →
    words ≡ drop (length line - length words) line → rest ≡ drop n words → n ≤ length words →
    (n < length words → is_blank (get_or words n 0) ≡ true) → IsAtWordEnd line rest
is_word_end line words rest n shorter end is le blank =
    let count : length rest ≡ length words - n = ap length is ∙ length-drop {A = ℕ} n words in
    let place : length line - length words + n ≡ length line - length rest = omega arith in
    record {
      no_longer = omega arith;
      end = is ∙ ap (drop n) end ∙ drop-drop n (length line - length words) line
          ∙ ap (λ k. drop k line) place;
      apart = rw is (first_of_rest n words blank);
    }

onto_both : (x : ℕ) (part : List ℕ) (parts found more : List (List ℕ)) → found ≡ part ∷ parts →
    onto_first x (found ++ more) ≡ onto_first x found ++ more
onto_both x part parts found more is = rw is refl

-- the parts of a line round its blanks, where it is cut at one
split_blank : (xs ys : List ℕ) (y : ℕ) → is_blank y ≡ true →
    slice_split is_blank (xs ++ y ∷ ys) ≡ slice_split is_blank xs ++ slice_split is_blank ys
split_blank [] ys y h = slice_split-cons_yes is_blank y ys h
split_blank (x ∷ xs) ys y h =
    elim (cases_Bool (is_blank x)) [
      | inl yes_blank ↦
          slice_split-cons_yes is_blank x (xs ++ y ∷ ys) yes_blank
          ∙ ap (λ parts. [] ∷ parts) (split_blank xs ys y h)
          ∙ sym (ap (λ parts. parts ++ slice_split is_blank ys)
          (slice_split-cons_yes is_blank x xs yes_blank))
      | inr no_blank ↦
          let found = split_some is_blank xs in
          slice_split-cons_no is_blank x (xs ++ y ∷ ys) no_blank
          ∙ ap (onto_first x) (split_blank xs ys y h)
          ∙ onto_both x found.0 found.1 (slice_split is_blank xs) (slice_split is_blank ys) found.2
          ∙ sym (ap (λ parts. parts ++ slice_split is_blank ys)
          (slice_split-cons_no is_blank x xs no_blank))
    ]

-- a line that is cut before a blank
words_of-cut : (xs ys : List ℕ) → (0 < length ys → is_blank (get_or ys 0 0) ≡ true) →
    words_of (xs ++ ys) ≡ words_of xs ++ words_of ys
unfolding words_of
words_of-cut xs [] h = ap words_of (append-nil xs) ∙ sym (append-nil (words_of xs))
words_of-cut xs (y ∷ ys) h =
    let blank : is_blank y ≡ true = h (omega arith) in
    ap (λ parts. filter (λ w. not (eqb (length w) 0)) parts) (split_blank xs ys y blank)
    ∙ filter-append (λ w. not (eqb (length w) 0)) (slice_split is_blank xs)
    (slice_split is_blank ys)
    ∙ ap (λ words. words_of xs ++ words)
    (sym (ap (λ parts. filter (λ w. not (eqb (length w) 0)) parts)
    (slice_split-cons_yes is_blank y ys blank)))

-- these words before the parts of what comes after them
abbrev pub behind : List (List ℕ) → Option (List (List ℕ) × List (List ℕ)) →
    Option (List (List ℕ) × List (List ℕ))
behind front o = option_map (λ parts. (front ++ parts.0, parts.1)) o

behind_one : (front : List (List ℕ)) (w : List ℕ) (o : Option (List (List ℕ) × List (List ℕ))) →
    behind front (option_map (λ parts. (w ∷ parts.0, parts.1)) o) ≡ behind (front ++ w ∷ []) o
behind_one front w None = refl
behind_one front w (Some parts) =
    ap (λ words. Some (words, parts.1)) (sym (append_assoc front (w ∷ []) parts.0))

-- a place in a line between words, none of which before it is this one
pub record IsPassed (word line rest : List ℕ) : Type 0 where
  pub no_longer : length rest ≤ length line
  pub end : rest ≡ drop (length line - length rest) line
  pub words : words_of line ≡ words_of (take (length line - length rest) line) ++ words_of rest
  pub none : cut_at_word word (words_of line)
      ≡ behind (words_of (take (length line - length rest) line)) (cut_at_word word (words_of rest))

no_words : (words : List (List ℕ)) → words ≡ words_of [] ++ words
unfolding words_of
no_words words = refl

behind_none : (o : Option (List (List ℕ) × List (List ℕ))) → o ≡ behind (words_of []) o
unfolding words_of
behind_none None = refl
behind_none (Some parts) = refl

not_here : (word w : List ℕ) (ws : List (List ℕ)) → bytes_eq w word ≡ false →
    cut_at_word word (w ∷ ws) ≡ option_map (λ parts. (w ∷ parts.0, parts.1)) (cut_at_word word ws)
not_here word w ws other = rw other refl

-- at the beginning of a line
pub none_passed : (word line : List ℕ) → IsPassed word line line
none_passed word line =
    let here : length line - length line ≡ 0 = omega arith in
    record {
      no_longer = omega arith;
      end = rw here refl;
      words = rw here (no_words (words_of line));
      none = rw here (behind_none (cut_at_word word (words_of line)));
    }

same_first : (words more : List (List ℕ)) (w : List ℕ) → Some (w, more) ≡ first_word words →
    words ≡ w ∷ more
same_first [] more w e = absurd (let never : ⊥ = cc in never)
same_first (v ∷ vs) more w e =
    let pair = same_Some (w, more) (v, vs) e in
    rw (ap (λ x. x.0) pair, ap (λ x. x.1) pair) refl

-- one more word, which isn't this one
pub one_passed : (word line rest later w : List ℕ) → IsPassed word line rest →
    IsAtWordEnd rest later → Some (w, words_of later) ≡ first_word (words_of rest) →
    bytes_eq w word ≡ false → IsPassed word line later
one_passed word line rest later w h end first other =
    let n : ℕ = length line - length rest in
    let k : ℕ = length line - length later in
    let front : List ℕ = take n line in
    let front_on : List ℕ = take k line in
    let place : n + (length rest - length later) ≡ k = omega (arith, h.no_longer, end.no_longer) in
    let later_is : later ≡ drop k line =
    end.end ∙ ap (drop (length rest - length later)) h.end ∙ drop-drop _ n line
    ∙ ap (λ j. drop j line) place in
    let line_is : front_on ++ later ≡ line =
    ap (λ xs. front_on ++ xs) later_is ∙ take-append-drop k line in
    let words : words_of line ≡ words_of front_on ++ words_of later =
    sym (ap words_of line_is) ∙ words_of-cut front_on later end.apart in
    let rest_words : words_of rest ≡ w ∷ words_of later =
    same_first (words_of rest) (words_of later) w first in
    let front_words : words_of front_on ≡ words_of front ++ w ∷ [] =
    append_cancel_right (words_of front_on) (words_of front ++ w ∷ []) (words_of later)
    (sym words ∙ h.words ∙ ap (λ ws. words_of front ++ ws) rest_words
    ∙ sym (append_assoc (words_of front) (w ∷ []) (words_of later))) in
    record {
      no_longer = omega (arith, h.no_longer, end.no_longer);
      end = later_is;
      words = words;
      none = h.none ∙ ap (λ ws. behind (words_of front) (cut_at_word word ws)) rest_words
          ∙ ap (behind (words_of front)) (not_here word w (words_of later) other)
          ∙ behind_one (words_of front) w (cut_at_word word (words_of later))
          ∙ ap (λ ws. behind ws (cut_at_word word (words_of later))) (sym front_words);
    }
