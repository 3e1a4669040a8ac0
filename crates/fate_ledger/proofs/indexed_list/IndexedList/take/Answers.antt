use Rattle.std.proofs.Common.{sym}
use Rattle.std.specs.Map.{values_of}
use Rattle.fate_ledger.proofs.IdIndex.{indexed_out, none_leaves, none_ahead}
use Rattle.fate_ledger.proofs.indexed_list.IndexedList.take.Goals as goal

pub returns-in_err-place-clause-others : goal.returns-in_err-place-clause-others
returns-in_err-place-clause-others c =
    rw (sym c.self.view_is) (none_leaves (values_of c.self.inside.by_place.entries) c.args.id
    c.in_err-place.ensures)

pub invariant_of-self-2 : goal.invariant_of-self-2
invariant_of-self-2 c = (
  indexed_out _ _ _ _ c.args.id c.in_ok-place.place c.self.invariant.0
      c.in_ok-place.ensures.card c.in_ok-place.ensures.there c.remove.ensures.ordered
      c.remove.ensures.updates.0 c.remove-2.ensures.updates.0,
  none_ahead c.self.inside.by_place c.remove.new.self c.in_ok-place.place c.self.inside.next
      c.remove.ensures.updates.0 c.self.invariant.1,
)
