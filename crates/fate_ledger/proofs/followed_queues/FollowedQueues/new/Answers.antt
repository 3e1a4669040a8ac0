use Rattle.std.proofs.Common.{ℕ, List, ap}
use Rattle.std.specs.BTreeMap.{is_at}
use Rattle.std.specs.Ordering.{nat_cmp}
use Rattle.std.specs.Map.{lookup}
use Rattle.fate_ledger.specs.declared.following.Followed.{Followed}
use Rattle.fate_ledger.proofs.Queues.{new_is}
use Rattle.fate_ledger.proofs.followed_queues.FollowedQueues.new.Goals as goal

pub returns : goal.returns
returns c =
    new_is (record { number = _; at_hand = c.new.result; others = c.new-2.result })
    c.new.ensures.at c.new.ensures.waiting
    (λ queue. ap (λ (es : List (ℕ × Followed)). lookup (is_at (nat_cmp queue)) es)
    c.new-2.ensures.empty)
