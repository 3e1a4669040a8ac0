use Rattle.place_rows.proofs.OwnEntries.{still_balanced, from_row, into_row, from_each, into_each}
use Rattle.place_rows.proofs.OwnEntries.{keeps_own}
use Rattle.place_rows.proofs.laws.telling_changes_nothing_of_ones_own.Goals as goal

pub returns : goal.returns
returns c = record {
  tells = λ s owed entered lost n froms intos froms_then intos_then told is.
      still_balanced s owed entered lost froms froms_then
      (from_row n froms intos froms_then intos_then told is.legal) is;
  hears = λ s owed entered lost n froms intos froms_then intos_then told legal is.
      still_balanced s owed entered lost intos intos_then
      (into_row n froms intos froms_then intos_then told legal is.legal) is;
  teller = λ n froms intos froms_then intos_then told placed k v w at also.
      keeps_own v w (placed k v at)
      (from_each n froms intos froms_then intos_then told k v w at also);
  hearer = λ n froms intos froms_then intos_then told placed k v w at also.
      keeps_own v w (placed k v at)
      (into_each n froms intos froms_then intos_then told k v w at also);
}
