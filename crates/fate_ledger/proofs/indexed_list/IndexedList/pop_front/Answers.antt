use Rattle.fate_ledger.proofs.IdIndex.{indexed_out, none_ahead}
use Rattle.fate_ledger.proofs.indexed_list.IndexedList.pop_front.Goals as goal

pub invariant_of-self-2 : goal.invariant_of-self-2
invariant_of-self-2 c = (
  indexed_out _ _ _ _ c.in_ok-place.id c.in_ok-place.place c.self.invariant.0
      c.in_ok-place.card c.in_ok-place.ensures.value c.in_ok-place.ensures.ordered
      c.in_ok-place.ensures.updates.0 c.remove.ensures.updates.0,
  none_ahead c.self.inside.by_place c.pop_first.new.self c.in_ok-place.place c.self.inside.next
      c.in_ok-place.ensures.updates.0 c.self.invariant.1,
)
