-- Entries that are sorted by their queue's number: each queue's stay in their order.
use Rattle.std.proofs.Common.{◌≡◌, ℕ, ◌+◌, List, length, true, false, Some, refl}
use Rattle.std.proofs.Common.{arith}
use Rattle.std.specs.Prelude.{◌==◌, not, ◌&&◌}
use Rattle.std.specs.Ordering.{nat_cmp, is_lt, is_le, is_some_and}
use Rattle.std.proofs.lemmas.Bool.Decides.{nat_tests}
use Rattle.queue_core.specs.declared.event.Event.TheVariants.{DeviceDown}
use Rattle.queue_core.specs.declared.event.Reply.TheVariants.{Flushed}
use Rattle.histories.specs.declared.entry.Entry.{Entry}
use Rattle.std.specs.List.{AllAdjacentBelow}
use Rattle.std.proofs.Common.{get_or}
use Rattle.histories.specs.Grouping.{IsGrouped}

-- an entry of a queue
abbrev pub entry_at : ℕ → Entry
entry_at queue = record { queue = queue; event = DeviceDown 0; reply = Flushed 0 }

pub same_number : (a b : ℕ) → (not (is_lt (nat_cmp a b)) && not (is_lt (nat_cmp b a))) ≡ (b == a)
same_number a b = grind (arith, nat_tests)

abbrev pub number_of : Entry → ℕ
number_of e = e.queue

-- no entry has a lower number than the one before it, as a test of each and the next found
abbrev pub Ascends : List Entry → Type 0
Ascends es =
    AllAdjacentBelow (λ x y. true ≡ is_some_and is_le (Some (nat_cmp x.queue y.queue)))
    es (length es)

-- such entries are grouped as they stand
pub grouped_already : (es : List Entry) → Ascends es → IsGrouped es es
grouped_already es ascend = record {
  ascend = λ k d low within.
      in_order (get_or es k d).queue (get_or es (k + 1) d).queue (ascend k d within);
  same = λ queue. refl;
}
  where
    in_order : (a b : ℕ) → true ≡ is_some_and is_le (Some (nat_cmp a b)) →
        is_lt (nat_cmp b a) ≡ false
    in_order a b up = grind (arith, nat_tests)
