-- Ports that differ by a test.
use Rattle.std.proofs.Common.{◌≡◌, ℕ, List, true, false, sym, ◌∙◌, get_or}
use Rattle.std.specs.Prelude.{nat_eq}
use Rattle.std.specs.List.{IsDistinct}
use Rattle.std.proofs.lemmas.Bool.{eq-eqb}
use Rattle.std.proofs.lemmas.Map.Keys.{apart_from_distinct}
use Rattle.solo_plane.specs.PortPlaces.{AreApart}

pub apart_so : (order : List ℕ) → IsDistinct nat_eq order → AreApart order
apart_so order distinct i k before within same =
    let wrong : true ≡ false =
    sym (eq-eqb (get_or order i 0) (get_or order k 0) (sym same))
    ∙ apart_from_distinct nat_eq order i k 0 distinct before within in
    absurd (cc)
