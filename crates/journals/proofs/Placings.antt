-- Texts that are put one after the other.
use Rattle.std.proofs.Common.{◌≡◌, ◌+◌, ◌≤◌, ◌++◌, ℕ, List, length, take, arith, ap, ◌∙◌, subst}
use Rattle.std.proofs.Common.{append_assoc, length-append}
use Rattle.journals.specs.Placing.{Placed}

pub then_placed : {a b c xs ys : List ℕ} {i j k : ℕ} → Placed a b i xs j → Placed b c j ys k →
    Placed a c i (xs ++ ys) k
then_placed {a} {b} {c} {xs} {ys} {i} p q =
    record {
      bytes = q.bytes ∙ ap (λ l. l ++ ys) p.bytes ∙ append_assoc (take i a) xs ys;
      moved = omega (arith, p.moved, q.moved, length-append xs ys);
      len = q.len ∙ p.len;
    }

-- the same text, said in another way
pub said_as : {a b xs : List ℕ} {i j : ℕ} (ys : List ℕ) → xs ≡ ys → Placed a b i xs j →
    Placed a b i ys j
said_as {a} {b} {xs} {i} {j} ys same p = subst (λ l. Placed a b i l j) same p

-- the room that is left
pub room_after : {a b xs : List ℕ} {i j : ℕ} (ys : List ℕ) → Placed a b i xs j →
    i + length (xs ++ ys) ≤ length a → j + length ys ≤ length b
room_after {a} {b} {xs} ys p room = omega (arith, p.moved, p.len, length-append xs ys, room)

pub room_of_first : (i n : ℕ) (xs ys : List ℕ) → i + length (xs ++ ys) ≤ n → i + length xs ≤ n
room_of_first i n xs ys room = omega (arith, length-append xs ys, room)
