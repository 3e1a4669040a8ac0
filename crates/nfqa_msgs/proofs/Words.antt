-- A text that is compared word by word.
use Rattle.std.proofs.Common.{◌≡◌, ℕ, ◌+◌, List, ◌++◌, take, drop, arith, sym, ap, ◌∙◌}
use Rattle.std.proofs.Common.{append_assoc}
use Rattle.std.proofs.lemmas.List.{take-append-drop, take-take, drop-take}

taken_on : (i n : ℕ) (l : List ℕ) → take i l ++ take n (drop i l) ≡ take (i + n) l
taken_on i n l =
    (λ j. sym (take-take i (i + n) l (omega arith)) j ++ sym (drop-take i n l) j)
    ∙ take-append-drop i (take (i + n) l)

-- one more word is the same
pub word_on : (at : ℕ) (xs ys : List ℕ) → take at xs ≡ take at ys →
    take 4 (drop at xs) ≡ take 4 (drop at ys) → take (at + 4) xs ≡ take (at + 4) ys
word_on at xs ys before here =
    sym (taken_on at 4 xs) ∙ (λ i. before i ++ here i) ∙ taken_on at 4 ys

-- what begins the same, and goes on with the rest of the text, begins with the text
pub text_in_front : (at : ℕ) (bytes text rest : List ℕ) → take at bytes ≡ take at text →
    drop at bytes ≡ drop at text ++ rest → bytes ≡ text ++ rest
text_in_front at bytes text rest begun left =
    sym (take-append-drop at bytes) ∙ (λ i. begun i ++ left i)
    ∙ sym (append_assoc (take at text) (drop at text) rest)
    ∙ ap (λ (xs : List ℕ). xs ++ rest) (take-append-drop at text)
