-- Bytes that are compared lane by lane.
use Rattle.std.proofs.Common.{◌≡◌, ◌↔◌, ◌+◌, ◌-◌, ◌*◌, ◌%◌, ◌^◌, ◌≤◌, ◌++◌, ◌∷◌, [], ℕ, List, Bool, true, false, cond, not, eqb, take, drop, length, map, get_or, refl, sym, ap, ◌∙◌, arith, w8}
use Rattle.std.proofs.Math.Seq.{take-length}
use Rattle.std.proofs.lemmas.Bool.{eqb-true, eqb-false}
use Rattle.std.proofs.lemmas.List.{take-append-drop, take-take, drop-take, length-drop, take_rest}
use Rattle.std.proofs.lemmas.Simd.{length-zip2, tops_compared, mask_l-mod}
use Rattle.std.specs.Simd.Lanes.{zip2, mask_l, top}

-- the test of two lanes
abbrev pub differ : ℕ → ℕ → Bool
differ a b = not (eqb a b)

begun : (x y : ℕ) (b : Bool) → eqb x y ≡ b → (m : ℕ) (xs ys : List ℕ) → (m ≡ 0) ↔ (xs ≡ ys) →
    (cond (not b) 1 0 + 2 * m ≡ 0) ↔ (x ∷ xs ≡ y ∷ ys)
begun x y true e m xs ys rest = (
  λ none. λ i. eqb-true x y e i ∷ rest.0 (omega (arith, none)) i,
  λ is. omega (arith, rest.1 (ap (drop 1) is)),
)
begun x y false e m xs ys rest = (
  λ none. absurd (omega (arith, none)),
  λ is. absurd (eqb-false x y e (ap (λ l. get_or l 0 0) is)),
)

-- no lane differs exactly if the lists are the same
none_differs : (xs ys : List ℕ) → length xs ≡ length ys → (mask_l (zip2 differ xs ys) ≡ 0) ↔ (xs ≡ ys)
none_differs [] [] long = (λ _. refl, λ _. refl)
none_differs [] (y ∷ ys) long = absurd (omega (arith, long))
none_differs (x ∷ xs) [] long = absurd (omega (arith, long))
none_differs (x ∷ xs) (y ∷ ys) long =
    begun x y (eqb x y) refl (mask_l (zip2 differ xs ys)) xs ys (none_differs xs ys (omega (arith, long)))

-- so the word that has a bit for each lane is 0
pub empty_word : (xs ys : List ℕ) → length xs ≡ length ys → length xs ≤ 64 →
    (mask_l (map (top 7) (zip2 (λ a b. cond (differ a b) 255 0) xs ys)) % 2 ^ 64 ≡ 0) ↔ (xs ≡ ys)
empty_word xs ys long few =
    let bits : mask_l (map (top 7) (zip2 (λ a b. cond (differ a b) 255 0) xs ys)) % 2 ^ 64
    ≡ mask_l (zip2 differ xs ys)
    = ap (λ ms. mask_l ms % 2 ^ 64) (tops_compared w8 differ xs ys)
    ∙ mask_l-mod (zip2 differ xs ys) 64 (omega (arith, length-zip2 differ xs ys long)) in
    let each = none_differs xs ys long in
    (λ none. each.0 (sym bits ∙ none), λ is. bits ∙ each.1 is)

-- a list with so many more bytes of it
pub taken_on : (i n : ℕ) (l : List ℕ) → take i l ++ take n (drop i l) ≡ take (i + n) l
taken_on i n l =
    (λ j. sym (take-take i (i + n) l (omega arith)) j ++ sym (drop-take i n l) j)
    ∙ take-append-drop i (take (i + n) l)

-- the last n of l, as a slice gives them
abbrev pub last : ℕ → List ℕ → List ℕ
last n l = take n (take (length l - (length l - n)) (drop (length l - n) l))

last_is : (n : ℕ) (l : List ℕ) → n ≤ length l → last n l ≡ drop (length l - n) l
last_is n l le =
    let m = length l - n in
    ap (take n) (take_rest l m)
    ∙ ap (λ j. take j (drop m l)) (omega (arith, le, length-drop m l)) ∙ take-length (drop m l)

-- lists of one length whose first k and whose last n are the same, where these overlap or meet
pub same_in_all : (k n : ℕ) (a b : List ℕ) → length a ≡ length b → n ≤ length a → length a ≤ k + n →
    take k a ≡ take k b → last n a ≡ last n b → a ≡ b
same_in_all k n a b long has over front back =
    let m = length a - n in
    let begun : take m a ≡ take m b
    = sym (take-take m k a (omega (arith, over))) ∙ ap (take m) front
    ∙ take-take m k b (omega (arith, over)) in
    let ended : drop m a ≡ drop m b
    = sym (last_is n a has) ∙ back ∙ last_is n b (omega (arith, has, long))
    ∙ ap (λ j. drop (j - n) b) (sym long) in
    sym (take-append-drop m a) ∙ (λ i. begun i ++ ended i) ∙ take-append-drop m b
