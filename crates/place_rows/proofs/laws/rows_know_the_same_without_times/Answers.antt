use Rattle.locked_place.specs.Views.{label_of}
use Rattle.place_rows.proofs.PlainRows.{known_plain, known_timed, first_plain, kept_plain}
use Rattle.place_rows.proofs.PlainRows.{split_plain, joined_plain, all_plain, told_plain}
use Rattle.place_rows.proofs.laws.rows_know_the_same_without_times.Goals as goal

pub returns : goal.returns
returns c = record {
  known = λ named row. known_plain label_of named row;
  timed = λ named row. known_timed label_of named row;
  first = first_plain;
  kept = kept_plain;
  split = split_plain;
  joined = joined_plain;
  all_joined = all_plain;
  told = told_plain;
}
