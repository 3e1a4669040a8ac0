use Rattle.std.proofs.Common.{◌∙◌, arith, length}
use Rattle.place_history.specs.PlaceState.{AreHere}
use Rattle.place_rows.specs.Ending.{IsListOf}
use Rattle.place_rows.specs.Joining.{own_at, is_place}
use Rattle.place_rows.proofs.Lists.{all_from_mapped}
use Rattle.place_rows.proofs.EntryOwners.{own_once, owner}
use Rattle.place_rows.proofs.PlaceLists.{flat_at}
use Rattle.place_rows.proofs.laws.each_entry_is_one_rows_own.Goals as goal

pub returns : goal.returns
returns c = record {
  once = λ places k i rows list is few. own_once rows k (length list) i is.once few;
  owner = λ places k i rows list is few.
      owner (own_at (is_place i) k) rows
      (omega (arith, own_once rows k (length list) i is.once few));
  of_place = λ places queue k rows lists list es all grouped is at.
      grouped.same queue
      ∙ flat_at places 0 k queue lists list
      (all_from_mapped (IsListOf places rows) (AreHere places) 0 lists (λ j l one. one.here) all)
      (omega (arith, is)) at;
}
