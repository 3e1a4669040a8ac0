use Rattle.journey_audit.proofs.ArrivalComparison.{other_order}
use Rattle.journey_audit.proofs.tally.Tally.is_even.Goals as goal

pub returns : goal.returns
returns c =
    let order = other_order c.args.self.came.items c.args.self.asked.items
    c.sort_unstable_by_key.new.self.items c.sort_unstable_by_key.ensures.permutation in (
      λ even. order.0 (c.are_as_many.ensures.0 even),
      λ many. c.are_as_many.ensures.1 (order.1 many),
    )
