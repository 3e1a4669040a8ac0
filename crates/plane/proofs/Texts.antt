-- The text of the listing of all places.
use Rattle.std.proofs.Common.{◌≡◌, ◌<◌, ◌≤◌, ◌+◌, ℕ, zero, suc, List, ◌++◌}
use Rattle.std.proofs.Common.{sym, refl, ap, ◌∙◌, subst, arith, append_assoc, append-nil}
use Rattle.std.specs.Prelude.{flat_map, Result, Ok, Err, OnOk}
use Rattle.std.specs.List.{range_with_len}
use Rattle.std.specs.BTreeMap.{BTreeMap}
use Rattle.std.proofs.lemmas.Nat.{mod_below}
use Rattle.packet_entry.specs.declared.no_memory.NoMemory.{NoMemory}
use Rattle.packet_entry.specs.declared.packet.Card.{Card}
use Rattle.histories.specs.declared.histories.Lost.{Lost}
use Rattle.histories.specs.Listing.{line_of}
use Rattle.histories.specs.Numbers.{queue_count}
use Rattle.histories.specs.States.{every_number}
use Rattle.histories.specs.Places.{place_for}
use Rattle.packet_moves.specs.declared.setting.Setting.{Setting}
use Rattle.place_history.specs.Lines.{text_at}
use Rattle.locked_place.specs.Turns.{LooksOn}
use Rattle.place_rows.specs.Rows.{Known, TurnedUpTo}
use Rattle.place_rows.specs.Shares.{IsBalanced}
use Rattle.place_turns.specs.Listings.{AreLinesUpTo, state_in}
use Rattle.plane.specs.Listings.{IsListed}

flat_same : (f g : ℕ → List ℕ) (low n : ℕ) →
    ((q : ℕ) → low ≤ q → q < low + n → f q ≡ g q) →
    flat_map f (range_with_len low n) ≡ flat_map g (range_with_len low n)
flat_same f g low zero same = refl
flat_same f g low (suc n) same =
    ap (λ (xs : List ℕ). xs ++ flat_map f (range_with_len (low + 1) n))
    (same low (omega arith) (omega arith))
    ∙ ap (λ (xs : List ℕ). g low ++ xs)
    (flat_same f g (low + 1) n (λ q from below.
    same q (omega (arith, from)) (omega (arith, below))))

all_texts : (places : ℕ) (known : List Known) (lines : BTreeMap ℕ (List ℕ)) → 1 ≤ places →
    AreLinesUpTo places places known lines →
    flat_map (text_at lines) every_number
    ≡ flat_map (λ queue. line_of queue (state_in places known queue)) every_number
unfolding every_number
all_texts places known lines some are =
    flat_same (text_at lines) (λ queue. line_of queue (state_in places known queue)) 0 queue_count
    (λ q low few. are.here q (omega (arith, few)) (within q))
  where
    within : (q : ℕ) → place_for q places < places
    within q = mod_below q places some

-- a pass that looked at places stays balanced
pub listed_balanced : (s : Setting) (entered : List Card) (front : List Lost)
    (olds news : List Known) (lost then_ : List Lost) →
    ((u : Setting) (es : List Card) (ls : List Lost) → IsBalanced u es olds ls →
    IsBalanced u es news ls) → then_ ≡ lost → IsBalanced s entered olds (front ++ lost) →
    IsBalanced s entered news (front ++ then_)
listed_balanced s entered front olds news lost then_ keeps same is =
    subst (λ (l : List Lost). IsBalanced s entered news (front ++ l)) (sym same)
    (keeps s entered (front ++ lost) is)

-- all lines are appended
pub listed_so : (places : ℕ) (olds news : List Known) (lines : BTreeMap ℕ (List ℕ))
    (before after : List ℕ) (r : Result Unit NoMemory) → 1 ≤ places →
    TurnedUpTo places olds news LooksOn → AreLinesUpTo places places news lines →
    OnOk r (after ≡ before ++ flat_map (text_at lines) every_number) →
    OnOk r (IsListed places olds news before after)
listed_so places olds news lines before after (Ok x) some looked are appended = record {
  looked = looked;
  text = appended ∙ ap (λ (t : List ℕ). before ++ t) (all_texts places news lines some are);
}
listed_so places olds news lines before after (Err e) some looked are appended = tt

-- one number more
texts_more : (f : ℕ → List ℕ) (low n : ℕ) →
    flat_map f (range_with_len low (n + 1)) ≡ flat_map f (range_with_len low n) ++ f (low + n)
texts_more f low n =
    subst (λ m. flat_map f (range_with_len low m)
    ≡ flat_map f (range_with_len low n) ++ f (low + n)) on (go low n)
  where
    on : suc n ≡ n + 1
    on = omega arith

    go : (from count : ℕ) → flat_map f (range_with_len from (suc count))
        ≡ flat_map f (range_with_len from count) ++ f (from + count)
    go from zero =
        append-nil (f from) ∙ ap f (omega arith)
    go from (suc count) =
        ap (λ (xs : List ℕ). f from ++ xs) (go (from + 1) count)
        ∙ sym (append_assoc (f from) (flat_map f (range_with_len (from + 1) count))
        (f (from + 1 + count)))
        ∙ ap (λ k. flat_map f (range_with_len from (suc count)) ++ f k) (omega arith)

-- the line of one number more was appended
pub text_more : (lines : BTreeMap ℕ (List ℕ)) (q : ℕ) (text then_ line : List ℕ) →
    text ≡ flat_map (text_at lines) (range_with_len 0 q) → text_at lines q ≡ line →
    then_ ≡ text ++ line → then_ ≡ flat_map (text_at lines) (range_with_len 0 (q + 1))
text_more lines q text then_ line was at appended =
    appended ∙ ap (λ (l : List ℕ). l ++ line) was
    ∙ ap (λ (l : List ℕ). flat_map (text_at lines) (range_with_len 0 q) ++ l)
    (sym at ∙ ap (text_at lines) from)
    ∙ sym (texts_more (text_at lines) 0 q)
  where
    from : q ≡ 0 + q
    from = omega arith
