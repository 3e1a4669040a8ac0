use Rattle.std.proofs.Common.{rules, arith}
use Rattle.std.proofs.lemmas.Fn.{always_returns_same}
use Rattle.histories.specs.Rearrangement.{queue_at}
use Rattle.histories.proofs.PlaceOrder.{sorted_places}
use Rattle.histories.proofs.grouping.places_by_queue.Goals as goal

pub returns : goal.returns
returns c =
    sorted_places c.args.entries.now _ _ c.in-Ok.count c.in_ok-places.ensures
    (omega arith) (omega arith)
    c.in_ok-sort_by_key.ensures.permutation
    (c.in_ok-sort_by_key.ensures.sorted (queue_at c.args.entries.now)
    (always_returns_same _ _ _ (λ a r g called. search rules)))
    (c.in_ok-sort_by_key.ensures.stable (queue_at c.args.entries.now)
    (always_returns_same _ _ _ (λ a r g called. search rules)))
