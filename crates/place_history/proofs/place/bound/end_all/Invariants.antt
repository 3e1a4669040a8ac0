use Rattle.std.proofs.Common.{◌≡◌, ℕ, None}
use Rattle.std.specs.Prelude.{IfSome}
use Rattle.std.specs.BTreeMap.{btree_map_len}
use Rattle.queue_core.specs.WithOffer.{WithOffer}
use Rattle.place_history.specs.Changes.{queue_at}
use Rattle.place_history.proofs.place.bound.end_all.Given as goal

abbrev pub invariant-loop-number : goal.invariant-loop-number
invariant-loop-number l =
    (q : ℕ) → IfSome (queue_at l.queues q) (λ (w : WithOffer). w.offer ≡ None)

abbrev pub decreases-loop-number : goal.decreases-loop-number
decreases-loop-number l = btree_map_len l.queues
