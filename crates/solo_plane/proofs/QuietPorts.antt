-- Ports without a notice.
use Rattle.std.proofs.Common.{◌≡◌, ◌<◌, ℕ, List, length, Option, Some, None, refl, get_or}
use Rattle.std.proofs.Common.{true, false}
use Rattle.std.specs.Prelude.{option_map, slice_get}
use Rattle.std.proofs.lemmas.Option.{slice_get_within}
use Rattle.solo_plane.specs.declared.port.PortState.{PortState}
use Rattle.solo_plane.specs.Notices.{has_notice}
use Rattle.solo_plane.specs.PortPlaces.{AreApart, place_in, stands_at}
use Rattle.solo_plane.specs.PortView.{port_of}
use Rattle.solo_plane.proofs.Places.{found_so, number_at}

-- where no place of a port has a notice, no port has one
pub all_quiet : (numbers : List ℕ) (states : List PortState) →
    ((k : ℕ) → k < length numbers →
    has_notice (option_map port_of (slice_get states k)) ≡ false) →
    (p : ℕ) → has_notice (option_map port_of (stands_at states (place_in numbers p))) ≡ false
all_quiet numbers states each p = by_place (place_in numbers p) refl
  where
    by_place : (o : Option ℕ) → place_in numbers p ≡ o →
        has_notice (option_map port_of (stands_at states o)) ≡ false
    by_place None at = refl
    by_place (Some k) at = each k (slice_get_within numbers k p (number_at numbers p k at))

-- a place with a notice is that of a port
pub not_quiet : (numbers : List ℕ) (states : List PortState) (place : ℕ) → AreApart numbers →
    place < length numbers → has_notice (option_map port_of (slice_get states place)) ≡ true →
    ((p : ℕ) → has_notice (option_map port_of (stands_at states (place_in numbers p))) ≡ false) →
    ⊥
not_quiet numbers states place apart within has quiet =
    let at : place_in numbers (get_or numbers place 0) ≡ Some place =
    found_so numbers (get_or numbers place 0) place apart within refl in
    let none : has_notice (option_map port_of (slice_get states place)) ≡ false =
    rw at at (quiet (get_or numbers place 0)) in
    absurd (cc)
