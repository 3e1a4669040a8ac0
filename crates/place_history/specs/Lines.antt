-- Lines of queues, by queue number.
use Rattle.std.specs.Prelude.{◌≡◌, ◌<◌, ◌≤◌, ℕ, List, [], Option, Some, None, IsSome}
use Rattle.std.specs.BTreeMap.{BTreeMap, get}
use Rattle.std.specs.Ordering.{nat_cmp}
use Rattle.histories.specs.declared.entry.Entry.{Entry}
use Rattle.histories.specs.Listing.{line_of}
use Rattle.histories.specs.Numbers.{queue_count}
use Rattle.histories.specs.States.{state_of}

abbrev pub text_of : Option (List ℕ) → List ℕ
text_of None = []
text_of (Some line) = line

-- the text of a queue's line; nothing where there is no line
abbrev pub text_at : BTreeMap ℕ (List ℕ) → ℕ → List ℕ
text_at lines queue = text_of (get nat_cmp lines queue)

-- Of the queues before number n, the line of each one that is bound was put among others; all other
-- lines are as they were.
pub record AreLinedTo (n : ℕ) (es : List Entry) (olds news : BTreeMap ℕ (List ℕ)) : Type 0 where
  pub bound : (q : ℕ) → q < n → IsSome (state_of es q) →
      text_at news q ≡ line_of q (state_of es q)
  pub absent : (q : ℕ) → state_of es q ≡ None → text_at news q ≡ text_at olds q
  pub others : (q : ℕ) → n ≤ q → text_at news q ≡ text_at olds q

-- of all queues
abbrev pub AreLined : List Entry → BTreeMap ℕ (List ℕ) → BTreeMap ℕ (List ℕ) → Type 0
AreLined es olds news = AreLinedTo queue_count es olds news
