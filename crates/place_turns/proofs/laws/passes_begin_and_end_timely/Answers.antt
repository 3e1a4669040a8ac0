use Rattle.std.proofs.Common.{sym, subst, ℕ, ◌≤◌, List}
use Rattle.histories.specs.declared.entry.Entry.{Entry}
use Rattle.total_order.specs.Orders.{EachIs}
use Rattle.place_turns.proofs.LogEnds.{closed_timely}
use Rattle.place_turns.proofs.LongerViews.{none_own}
use Rattle.place_turns.proofs.laws.passes_begin_and_end_timely.Goals as goal

pub returns : goal.returns
returns c = record {
  begins = λ row port none. none_own 0 row port
      (λ k v at. subst (λ (l : List (Entry × ℕ)). EachIs (λ x. x.1 ≤ 0) l) (sym (none k v at).0) tt)
      (λ k v at. (none k v at).1);
  closed = closed_timely;
}
