-- Lines of bound queues, put among others one after the other.
use Rattle.std.proofs.Common.{◌≡◌, ◌≢◌, ◌<◌, ◌≤◌, ◌+◌, ℕ, List, Option, Some, None, refl, sym, ap}
use Rattle.std.proofs.Common.{◌∙◌}
use Rattle.std.proofs.Common.{arith, inl, inr}
use Rattle.std.specs.Prelude.{IsSome, nat_eq}
use Rattle.std.specs.BTreeMap.{BTreeMap, get}
use Rattle.std.specs.Ordering.{nat_cmp}
use Rattle.std.proofs.lemmas.Bool.{cases_Bool, cases_lt, eqb-true, eqb-false}
use Rattle.queue_core.specs.State.{Bound}
use Rattle.histories.specs.declared.entry.Entry.{Entry}
use Rattle.histories.specs.Listing.{line_of}
use Rattle.histories.specs.Numbers.{queue_count}
use Rattle.histories.specs.States.{state_of}
use Rattle.place_history.specs.Lines.{text_of, text_at, AreLinedTo, AreLined}

pub none_lined : (es : List Entry) (lines : BTreeMap ℕ (List ℕ)) → AreLinedTo 0 es lines lines
none_lined es lines = record {
  bound = λ q low some. absurd (omega (arith, low));
  absent = λ q none. refl;
  others = λ q high. refl;
}

is_none : (o : Option Bound) → IsSome o → o ≡ None → ⊥
is_none None some none = cc
is_none (Some b) some none = cc

-- the next bound queue's line was put in
pub next_lined : (es : List Entry) (from number : ℕ) (olds mid news : BTreeMap ℕ (List ℕ))
    (line : List ℕ) → AreLinedTo from es olds mid → from ≤ number →
    IsSome (state_of es number) →
    ((q : ℕ) → from ≤ q → q < number → state_of es q ≡ None) →
    line ≡ line_of number (state_of es number) →
    get nat_cmp news number ≡ Some line →
    ((q : ℕ) → q ≢ number → get nat_cmp news q ≡ get nat_cmp mid q) →
    AreLinedTo (number + 1) es olds news
next_lined es from number olds mid news line is low some between text put others = record {
  bound = λ q below some_q. elim (cases_Bool (nat_eq q number)) [
    | inl same ↦ (let e : q ≡ number = eqb-true q number same in
        ap (text_at news) e ∙ ap text_of put ∙ text ∙ ap (λ n. line_of n (state_of es n)) (sym e))
    | inr other ↦ (let apart = eqb-false q number other in
        ap text_of (others q apart) ∙ earlier q below apart some_q)
  ];
  absent = λ q none. ap text_of (others q (λ e. is_none (state_of es number) some
      (ap (state_of es) (sym e) ∙ none))) ∙ is.absent q none;
  others = λ q high. ap text_of (others q (λ e. absurd (omega (arith, high, e))))
      ∙ is.others q (omega (arith, high, low));
}
  where
    earlier : (q : ℕ) → q < number + 1 → q ≢ number → IsSome (state_of es q) →
        text_at mid q ≡ line_of q (state_of es q)
    earlier q below apart some_q =
        elim (cases_lt q from) [
          | inl before ↦ is.bound q before some_q
          | inr after ↦ absurd (is_none (state_of es q) some_q
              (between q after (omega (arith, below, apart))))
        ]

-- where no more queues are bound, all lines are there
pub all_lined : (es : List Entry) (from : ℕ) (olds news : BTreeMap ℕ (List ℕ)) →
    AreLinedTo from es olds news → from ≤ queue_count →
    ((q : ℕ) → from ≤ q → q < queue_count → state_of es q ≡ None) → AreLined es olds news
all_lined es from olds news is low none = record {
  bound = λ q below some. elim (cases_lt q from) [
    | inl before ↦ is.bound q before some
    | inr after ↦ absurd (is_none (state_of es q) some (none q after below))
  ];
  absent = is.absent;
  others = λ q high. is.others q (omega (arith, high, low));
}
