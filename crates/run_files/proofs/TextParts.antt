-- A text that is written part by part, and grows: see Grows.
use Rattle.std.proofs.Common.{◌≡◌, ℕ, ◌+◌, ◌≤◌, List, [], ◌++◌, length, take, arith, sym, ap, ◌∙◌}
use Rattle.std.proofs.Common.{inr, subst, ⊎_elim, Option, Some, length-append, append_assoc}
use Rattle.std.proofs.lemmas.List.{length-take-le, take_all, append-nil}
use Rattle.host_io.specs.Host.{MayGoOn, bytes_of, written}
use Rattle.run_files.specs.Parts.{Grows}

-- what is written before a part
place_within : (file : Option (List ℕ)) (at : ℕ) → MayGoOn file at → at ≤ length (bytes_of file)
place_within file at behind = ⊎_elim (λ e. omega arith) (λ e. omega arith) behind

length_written : (file : Option (List ℕ)) (at : ℕ) (part : List ℕ) → MayGoOn file at →
    length (written file at part) ≡ at + length part
length_written file at part behind =
    omega (
      arith,
      length-append (take at (bytes_of file)) part,
      length-take-le at (bytes_of file) (place_within file at behind),
    )

-- a part is written, and an empty one comes behind it
pub part_written : (known : Type 0) (before : Option (List ℕ)) (at : ℕ) (part : List ℕ)
    (after : Option (List ℕ)) (next : ℕ) (new : List ℕ) → (known → MayGoOn before at) →
    next ≡ at + length part → new ≡ [] → (known → after ≡ Some (written before at part)) →
    Grows known before at part after next new []
part_written known before at part after next new behind place empty put =
    let whole = written before at part in
    record {
      place = omega (arith, place, ap length empty);
      text =
          λ k.
          ap (λ f. take next (bytes_of f) ++ new) (put k)
          ∙ ap (λ b. take next whole ++ b) empty
          ∙ ap (λ t. t ++ [])
          (take_all next whole (omega (arith, length_written before at part (behind k), place)));
      behind =
          λ k.
          inr (place ∙ sym (length_written before at part (behind k))
          ∙ sym (ap (λ f. length (bytes_of f)) (put k)));
    }

-- a part that has room already
pub same_part : (known : Type 0) (before : Option (List ℕ)) (at : ℕ) (part : List ℕ) →
    (known → MayGoOn before at) → Grows known before at part before at part []
same_part known before at part behind =
    record {
      place = omega arith;
      text = λ k. sym (append-nil _);
      behind = behind;
    }

-- bytes are put into the part
pub put_into : (known : Type 0) (before : Option (List ℕ)) (at : ℕ) (part : List ℕ)
    (after : Option (List ℕ)) (next : ℕ) (new bytes full : List ℕ) →
    Grows known before at part after next new [] → full ≡ new ++ bytes →
    Grows known before at part after next full bytes
put_into known before at part after next new bytes full grown put =
    record {
      place = omega (arith, grown.place, ap length put, length-append new bytes);
      text =
          λ k.
          ap (λ t. take next (bytes_of after) ++ t) put
          ∙ sym (append_assoc (take next (bytes_of after)) new bytes)
          ∙ ap (λ t. t ++ bytes) (grown.text k ∙ append-nil (written before at part));
      behind = grown.behind;
    }

-- the same bytes, told otherwise
pub grown_as : (known : Type 0) (before : Option (List ℕ)) (at : ℕ) (part : List ℕ)
    (after : Option (List ℕ)) (next : ℕ) (new bytes same : List ℕ) → bytes ≡ same →
    Grows known before at part after next new bytes →
    Grows known before at part after next new same
grown_as known before at part after next new bytes same is grown =
    subst (λ (told : List ℕ). Grows known before at part after next new told) is grown

-- the text grows twice
pub grown_twice : (known known_then : Type 0) (before : Option (List ℕ)) (at : ℕ) (part : List ℕ)
    (between : Option (List ℕ)) (then_at : ℕ) (then_part : List ℕ) (after : Option (List ℕ))
    (next : ℕ) (new first second : List ℕ) → (known → known_then) →
    Grows known before at part between then_at then_part first →
    Grows known_then between then_at then_part after next new second →
    Grows known before at part after next new (first ++ second)
grown_twice known known_then before at part between then_at then_part after next new first second
    still one two =
    record {
      place = omega (arith, one.place, two.place, length-append first second);
      text =
          λ k.
          two.text (still k) ∙ ap (λ t. t ++ second) (one.text k)
          ∙ append_assoc (written before at part) first second;
      behind = λ k. two.behind (still k);
    }

-- In a loop: the text so far, and what is left to be put, are what was there before with all that
-- is put.
pub record IsUnderway (known : Type 0) (before : Option (List ℕ)) (at : ℕ) (part : List ℕ)
    (after : Option (List ℕ)) (next : ℕ) (new all left : List ℕ) : Type 0 where
  pub place : next + length new + length left ≡ at + length part + length all
  pub text : known → written after next new ++ left ≡ written before at part ++ all
  pub behind : known → MayGoOn after next

-- after one turn more
pub turned : (known known_then : Type 0) (before : Option (List ℕ)) (at : ℕ) (part : List ℕ)
    (between : Option (List ℕ)) (then_at : ℕ) (then_part : List ℕ) (after : Option (List ℕ))
    (next : ℕ) (new all left bytes rest : List ℕ) → (known → known_then) →
    IsUnderway known before at part between then_at then_part all left →
    left ≡ bytes ++ rest →
    Grows known_then between then_at then_part after next new bytes →
    IsUnderway known before at part after next new all rest
turned known known_then before at part between then_at then_part after next new all left bytes rest
    still so_far step grown =
    record {
      place =
          omega (
            arith,
            so_far.place,
            grown.place,
            ap length step,
            length-append bytes rest,
          );
      text =
          λ k.
          ap (λ t. t ++ rest) (grown.text (still k))
          ∙ append_assoc (written between then_at then_part) bytes rest
          ∙ ap (λ t. written between then_at then_part ++ t) (sym step)
          ∙ so_far.text k;
      behind = λ k. grown.behind (still k);
    }

-- at the end
pub all_put : (known : Type 0) (before : Option (List ℕ)) (at : ℕ) (part : List ℕ)
    (after : Option (List ℕ)) (next : ℕ) (new all left : List ℕ) →
    IsUnderway known before at part after next new all left → left ≡ [] →
    Grows known before at part after next new all
all_put known before at part after next new all left so_far none =
    record {
      place = omega (arith, so_far.place, ap length none);
      text =
          λ k.
          sym (ap (λ t. written after next new ++ t) none
          ∙ append-nil (written after next new)) ∙ so_far.text k;
      behind = so_far.behind;
    }

-- what is put in a turn has its places
pub turn_fits : (known : Type 0) (before : Option (List ℕ)) (at : ℕ) (part : List ℕ)
    (between : Option (List ℕ)) (then_at : ℕ) (then_part all left bytes rest : List ℕ) →
    IsUnderway known before at part between then_at then_part all left →
    left ≡ bytes ++ rest →
    then_at + length then_part + length bytes ≤ at + length part + length all
turn_fits known before at part between then_at then_part all left bytes rest so_far step =
    omega (arith, so_far.place, ap length step, length-append bytes rest)

-- the first part of a text
pub text_begins : (file : Option (List ℕ)) (at : ℕ) (old part bytes : List ℕ) → at ≡ 0 →
    old ≡ [] → part ≡ old ++ bytes → written file at part ≡ bytes
text_begins file at old part bytes first empty put =
    ap (λ n. take n (bytes_of file) ++ part) first ∙ put ∙ ap (λ o. o ++ bytes) empty
