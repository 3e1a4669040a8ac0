-- The passes of ports with times, joined into a row one after the other.
use Rattle.std.proofs.Common.{List, [], ◌∷◌, ◌++◌, refl, sym}
use Rattle.std.proofs.Common.{ap, subst, ◌∙◌}
use Rattle.std.proofs.Common.{append_assoc, append-nil}
use Rattle.std.specs.Prelude.{map}
use Rattle.std.proofs.lemmas.List.{map-append}
use Rattle.place_rows.specs.Joining.{AllJoined, RowJoined}
use Rattle.place_rows.specs.Rows.{TimedKnown}
use Rattle.plane.specs.Passes.{PortView}
use Rattle.plane.specs.Remaining.{JoinTimely, TimelyPass, port_in, row_in}

-- none yet
pub none_timely : (row : List TimedKnown) → JoinTimely [] row row
none_timely row = record {
  passes = [];
  are = refl;
  joined = λ rows first is.
      subst (λ (l : List (List TimedKnown)). AllJoined l first row) (sym (append-nil rows)) is;
}

-- one more
pub one_timely : ((rows : List (List TimedKnown)) (into before from after : List TimedKnown) →
    AllJoined rows into before → RowJoined 0 before from after →
    AllJoined (rows ++ from ∷ []) into after) → (done : List PortView)
    (before now next : List TimedKnown) (t : TimelyPass) → JoinTimely done before now →
    RowJoined 0 now t.row next → JoinTimely (done ++ t.port ∷ []) before next
one_timely one done before now next t so row = record {
  passes = so.passes ++ t ∷ [];
  are = map-append port_in so.passes (t ∷ [])
      ∙ ap (λ (l : List PortView). l ++ t.port ∷ []) so.are;
  joined = λ rows first is.
      subst (λ (l : List (List TimedKnown)). AllJoined l first next)
      (append_assoc rows (map row_in so.passes) (t.row ∷ [])
      ∙ ap (λ (l : List (List TimedKnown)). rows ++ l)
      (sym (map-append row_in so.passes (t ∷ []))))
      (one (rows ++ map row_in so.passes) first now t.row next (so.joined rows first is) row);
}

-- some, and then others
pub both_timely : (ports closed : List PortView) (before now next : List TimedKnown) →
    JoinTimely ports before now → JoinTimely closed now next →
    JoinTimely (ports ++ closed) before next
both_timely ports closed before now next one two = record {
  passes = one.passes ++ two.passes;
  are = map-append port_in one.passes two.passes
      ∙ ap (λ (l : List PortView). l ++ map port_in two.passes) one.are
      ∙ ap (λ (l : List PortView). ports ++ l) two.are;
  joined = λ rows first is.
      subst (λ (l : List (List TimedKnown)). AllJoined l first next)
      (append_assoc rows (map row_in one.passes) (map row_in two.passes)
      ∙ ap (λ (l : List (List TimedKnown)). rows ++ l)
      (sym (map-append row_in one.passes two.passes)))
      (two.joined (rows ++ map row_in one.passes) first (one.joined rows first is));
}
