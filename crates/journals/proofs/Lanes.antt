-- Digits that are found lane by lane.
use Rattle.std.proofs.Common.{◌≡◌, ◌+◌, ◌-◌, ◌*◌, ◌%◌, ◌/◌, ◌^◌, ◌<◌, ◌≤◌, ◌++◌, ◌∷◌, [], ℕ, suc}
use Rattle.std.proofs.Common.{zero, bit_and, List, cond, get_or, take, drop, length, map}
use Rattle.std.proofs.Common.{slice_index, refl, sym, ap, ◌∙◌, subst, arith}
use Rattle.std.proofs.lemmas.List.{take-take, take-append-drop, drop-take, take_at, take_all}
use Rattle.std.proofs.lemmas.List.{take_rest, take-append-le, length-take-le, length-drop}
use Rattle.std.proofs.lemmas.List.{length-map}
use Rattle.std.proofs.lemmas.List.{length-replicate}
use Rattle.std.proofs.lemmas.Nat.{and_mask}
use Rattle.std.proofs.lemmas.Simd.{map-map, zip2_splat, take_more_put_chunk}
use Rattle.std.proofs.lemmas.Simd.{length-put_chunk, length-zip2, pick_l_whole}
use lib.Lanes.{Each1, zip2, sel_l, top, put_chunk, pick_l}
use lib.ListN.{replicate}
use Rattle.std.specs.List.{range_with_len}
use Rattle.std.proofs.lemmas.List.FromFn.{get_or-map-range_with_len}
use lib.Dec.{ltb}
use borrow.Rule.Slice.PartMut.{put_mid, post_of, same_len_mid, mid_of}
use Rattle.hex.specs.Hex.{encode_with, encode_lower, lower_digits}

-- the digit of a number below 16
abbrev pub digit : ℕ → ℕ
digit n = slice_index lower_digits n

-- functions that agree at each number below 16
agree : (f g : ℕ → ℕ) → map f (range_with_len 0 16) ≡ map g (range_with_len 0 16) →
    (n : ℕ) → n < 16 → f n ≡ g n
agree f g same n few =
    sym (get_or-map-range_with_len f 0 16 n n 0 few (omega arith))
    ∙ ap (λ l. get_or l n 0) same ∙ get_or-map-range_with_len g 0 16 n n 0 few (omega arith)

one : (x : ℕ) → x < 16 → (x + cond (top 7 (cond (ltb 9 x) 255 0)) 87 48) % 256 ≡ digit x
one x few =
    agree (λ x. (x + cond (top 7 (cond (ltb 9 x) 255 0)) 87 48) % 256) (λ x. digit x) refl x few

-- 48 and the number, or 87 and the number, as the lanes add them
pub shown : (n : ℕ) (xs : List ℕ) → length xs ≡ n → Each1 (λ x. x < 16) xs →
    zip2 (λ a b. (a + b) % 256) xs
    (sel_l (map (top 7) (zip2 (λ a b. cond (ltb a b) 255 0) (replicate n 9) xs)) (replicate n 87)
    (replicate n 48))
    ≡ map (λ x. digit x) xs
shown zero [] long small = refl
shown zero (x ∷ xs) long small = absurd (omega (arith, long))
shown (suc n) [] long small = absurd (omega (arith, long))
shown (suc n) (x ∷ xs) long small =
    λ i. one x small.0 i ∷ shown n xs (omega (arith, long)) small.1 i

-- the digits of each byte
abbrev pub highs : List ℕ → List ℕ
highs v = map (λ b. digit (b / 16)) v

abbrev pub lows : List ℕ → List ℕ
lows v = map (λ b. digit (b % 16)) v

pub shifted : (n : ℕ) (v : List ℕ) → length v ≡ n →
    map (λ x. digit x) (zip2 (λ a b. a / 2 ^ b) v (replicate n 4)) ≡ highs v
shifted n v long =
    ap (map (λ x. digit x)) (zip2_splat (λ a b. a / 2 ^ b) v n 4 long)
    ∙ map-map (λ x. digit x) (λ b. b / 16) v

pub masked : (n : ℕ) (v : List ℕ) → length v ≡ n →
    map (λ x. digit x) (zip2 bit_and v (replicate n 15)) ≡ lows v
masked n v long =
    ap (map (λ x. digit x)) (zip2_splat bit_and v n 15 long)
    ∙ map-map (λ x. digit x) (λ b. bit_and b 15) v ∙ (λ i. map (λ b. digit (and_mask b 4 i)) v)

-- the lanes of the digits, in turn, are the digits of each byte: what a pair of lists of places
-- says
abbrev Weave : ℕ → List ℕ → List ℕ → Type 0
Weave n firsts seconds =
    (v : List ℕ) → length v ≡ n →
    pick_l 0 (highs v ++ lows v) firsts ++ pick_l 0 (highs v ++ lows v) seconds ≡ encode_lower v

-- the places in two lists of 16 in turn
abbrev pub first_16 : List ℕ
first_16 = 0 ∷ 16 ∷ 1 ∷ 17 ∷ 2 ∷ 18 ∷ 3 ∷ 19 ∷ 4 ∷ 20 ∷ 5 ∷ 21 ∷ 6 ∷ 22 ∷ 7 ∷ 23 ∷ []

abbrev pub second_16 : List ℕ
second_16 = 8 ∷ 24 ∷ 9 ∷ 25 ∷ 10 ∷ 26 ∷ 11 ∷ 27 ∷ 12 ∷ 28 ∷ 13 ∷ 29 ∷ 14 ∷ 30 ∷ 15 ∷ 31 ∷ []

pub woven_16 : Weave 16 first_16 second_16
unfolding encode_with
woven_16 v long =
    subst (λ u. pick_l 0 (highs u ++ lows u) first_16 ++ pick_l 0 (highs u ++ lows u) second_16
    ≡ encode_lower u)
    (pick_l_whole 0 v 16 long) refl

-- the places in two lists of 8 in turn
abbrev pub first_8 : List ℕ
first_8 = 0 ∷ 8 ∷ 1 ∷ 9 ∷ 2 ∷ 10 ∷ 3 ∷ 11 ∷ []

abbrev pub second_8 : List ℕ
second_8 = 4 ∷ 12 ∷ 5 ∷ 13 ∷ 6 ∷ 14 ∷ 7 ∷ 15 ∷ []

pub woven_8 : Weave 8 first_8 second_8
unfolding encode_with
woven_8 v long =
    subst (λ u. pick_l 0 (highs u ++ lows u) first_8 ++ pick_l 0 (highs u ++ lows u) second_8
    ≡ encode_lower u)
    (pick_l_whole 0 v 8 long) refl

-- two runs of n that were put one after the other
two_runs : (n : ℕ) (to first second : List ℕ) → length first ≡ n → length second ≡ n →
    n * 2 ≤ length to →
    take (n * 2) (put_chunk n (put_chunk 0 to first) second) ≡ first ++ second
two_runs n to first second long as_long room =
    take_more_put_chunk n (put_chunk 0 to first) second (n * 2) (omega (arith, as_long))
    (omega (arith, room, length-put_chunk 0 to first))
    ∙ ap (λ z. z ++ second)
    (take_more_put_chunk 0 to first n (omega (arith, long)) (omega (arith, room)))

-- the lanes of a shift, of those that are masked: as many as there are bytes
pub masked_long : (n : ℕ) (bytes : List ℕ) → n ≤ length bytes →
    length (zip2 bit_and (take n bytes) (replicate n 15)) ≡ n
masked_long n bytes enough =
    let long = length-take-le n bytes enough in
    length-zip2 bit_and (take n bytes) (replicate n 15) (long ∙ sym (length-replicate n 15)) ∙ long

-- the digits of the first n bytes, put as two runs
pub two_runs_of : (n : ℕ) (bytes to high low firsts seconds : List ℕ) → Weave n firsts seconds →
    length firsts ≡ n → length seconds ≡ n → n ≤ length bytes → n * 2 ≤ length to →
    high ≡ map (λ x. digit x) (zip2 (λ a b. a / 2 ^ b) (take n bytes) (replicate n 4)) →
    low ≡ map (λ x. digit x) (zip2 bit_and (take n bytes) (replicate n 15)) →
    take (n * 2) (put_chunk n (put_chunk 0 to (pick_l 0 (high ++ low) firsts))
    (pick_l 0 (high ++ low) seconds)) ≡ encode_lower (take n bytes)
two_runs_of n bytes to high low firsts seconds woven first_long second_long enough room up down =
    let v = take n bytes in
    let long = length-take-le n bytes enough in
    let up_is = up ∙ shifted n v long in
    let down_is = down ∙ masked n v long in
    two_runs n to (pick_l 0 (high ++ low) firsts) (pick_l 0 (high ++ low) seconds)
    (length-map firsts _ ∙ first_long) (length-map seconds _ ∙ second_long) room
    ∙ (λ i. pick_l 0 (up_is i ++ down_is i) firsts ++ pick_l 0 (up_is i ++ down_is i) seconds)
    ∙ woven v long

-- ---- run by run

encode-append : (xs ys : List ℕ) → encode_lower (xs ++ ys) ≡ encode_lower xs ++ encode_lower ys
unfolding encode_with
encode-append [] ys = refl
encode-append (x ∷ xs) ys = λ i. digit (x / 16) ∷ digit (x % 16) ∷ encode-append xs ys i

length-encode : (xs : List ℕ) → length (encode_lower xs) ≡ length xs * 2
unfolding encode_with
length-encode [] = refl
length-encode (x ∷ xs) = omega (arith, length-encode xs)

taken_past : (p q : List ℕ) (k m : ℕ) → length p ≡ k → take (k + m) (p ++ q) ≡ p ++ take m q
taken_past [] q k m long = let same : k + m ≡ m = omega (arith, long) in ap (λ j. take j q) same
taken_past (x ∷ p) q k m long =
    let same : k + m ≡ suc (length p + m) = omega (arith, long) in
    ap (λ j. take j (x ∷ p ++ q)) same ∙ (λ i. x ∷ taken_past p q (length p) m refl i)

-- a list with so many more bytes of it
taken_on : (i n : ℕ) (l : List ℕ) → take i l ++ take n (drop i l) ≡ take (i + n) l
taken_on i n l =
    (λ j. sym (take-take i (i + n) l (omega arith)) j ++ sym (drop-take i n l) j)
    ∙ take-append-drop i (take (i + n) l)

-- the digits of fewer bytes
fewer : (at done : ℕ) (bytes : List ℕ) → at ≤ done → done ≤ length bytes →
    take (at * 2) (encode_lower (take done bytes)) ≡ encode_lower (take at bytes)
fewer at done bytes few within =
    let front = take at (take done bytes) in
    let short : front ≡ take at bytes = take-take at done bytes few in
    let long : length front ≡ at
    = length-take-le at (take done bytes) (omega (arith, few, length-take-le done bytes within)) in
    ap (λ l. take (at * 2) (encode_lower l)) (sym (take-append-drop at (take done bytes)))
    ∙ ap (take (at * 2)) (encode-append front (drop at (take done bytes)))
    ∙ take_at (encode_lower front) (encode_lower (drop at (take done bytes))) (at * 2)
    (omega (arith, length-encode front, long))
    ∙ ap encode_lower short

-- where the digits of the first bytes are in place, a run that follows them, or begins among them
pub run : (bytes before after : List ℕ) (done at n : ℕ) → at ≤ done → done ≤ length bytes →
    done * 2 ≤ length before → take (done * 2) before ≡ encode_lower (take done bytes) →
    take (n * 2) after ≡ encode_lower (take n (drop at bytes)) →
    take ((at + n) * 2) (take (at * 2) before ++ after) ≡ encode_lower (take (at + n) bytes)
run bytes before after done at n few within room so_far next =
    let begun : take (at * 2) before ≡ encode_lower (take at bytes)
    = sym (take-take (at * 2) (done * 2) before (omega (arith, few)))
    ∙ ap (take (at * 2)) so_far ∙ fewer at done bytes few within in
    let both : (at + n) * 2 ≡ at * 2 + n * 2 = omega arith in
    ap (λ j. take j (take (at * 2) before ++ after)) both
    ∙ taken_past (take (at * 2) before) after (at * 2) (n * 2)
    (length-take-le (at * 2) before (omega (arith, few, room)))
    ∙ (λ i. begun i ++ next i) ∙ sym (encode-append (take at bytes) (take n (drop at bytes)))
    ∙ ap encode_lower (taken_on at n bytes)

-- the first n of those from `at` on, as a slice gives them
slice_of : (at n : ℕ) (bytes : List ℕ) →
    take n (take (length bytes - at) (drop at bytes)) ≡ take n (drop at bytes)
slice_of at n bytes = ap (take n) (take_rest bytes at)

-- the same of a run that was put into a part of a list
pub put_run : (bytes before part : List ℕ) (done at n k : ℕ) → at ≤ done → done ≤ length bytes →
    done * 2 ≤ length before → take (done * 2) before ≡ encode_lower (take done bytes) →
    n * 2 ≤ length part →
    take (n * 2) part ≡ encode_lower (take n (take (length bytes - at) (drop at bytes))) →
    take ((at + n) * 2) (put_mid (at * 2) k before part) ≡ encode_lower (take (at + n) bytes)
put_run bytes before part done at n k few within room so_far fits next =
    let rest = post_of (at * 2) k before in
    run bytes before (part ++ rest) done at n few within room so_far
    (take-append-le (n * 2) part rest fits ∙ next ∙ ap encode_lower (slice_of at n bytes))

-- a last run, with as many digits as there are bytes for
pub last_run : (bytes before part : List ℕ) (done n : ℕ) → done ≤ length bytes →
    n ≤ length bytes → length bytes ≤ done + n → length before ≡ length bytes * 2 →
    take (done * 2) before ≡ encode_lower (take done bytes) →
    length part
    ≡ length (mid_of ((length bytes - n) * 2) (length before - (length bytes - n) * 2) before) →
    take (n * 2) part
    ≡ encode_lower (take n (take (length bytes - (length bytes - n))
    (drop (length bytes - n) bytes))) →
    put_mid ((length bytes - n) * 2) (length before - (length bytes - n) * 2) before part
    ≡ encode_lower bytes
last_run bytes before part done n within long covers room so_far fits next =
    let at = length bytes - n in
    let k = length before - at * 2 in
    let whole = put_mid (at * 2) k before part in
    let as_long : length whole ≡ length bytes * 2
    = same_len_mid (at * 2) k before part fits ∙ room in
    let rest : length (mid_of (at * 2) k before) ≡ n * 2
    = length-take-le k (drop (at * 2) before) (omega (arith, length-drop (at * 2) before))
    ∙ omega (arith, room, long) in
    let all : at + n ≡ length bytes = omega (arith, long) in
    sym (take_all ((at + n) * 2) whole (omega (arith, as_long, all)))
    ∙ put_run bytes before part done at n k (omega (arith, covers)) within
    (omega (arith, room, within)) so_far (omega (arith, fits, rest)) next
    ∙ ap encode_lower (take_all (at + n) bytes (omega (arith, all)))
