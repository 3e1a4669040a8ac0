use Rattle.shared_feeding.proofs.MarkedLists.{joined_lists, split_list}
use Rattle.shared_feeding.proofs.locks.passes_of_a_lock_are_split_and_joined.Goals as goal

pub returns : goal.returns
returns c = record {
  split = λ own seen. split_list own seen;
  joined = λ own other seen found placed others apart first second. joined_lists own other seen
      found placed others apart first second;
}
