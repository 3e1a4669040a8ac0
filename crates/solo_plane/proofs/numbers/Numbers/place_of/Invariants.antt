use Rattle.std.proofs.Common.{◌≡◌}
use Rattle.solo_plane.specs.PortPlaces.{place_in}
use Rattle.solo_plane.proofs.Places.{place_from}
use Rattle.solo_plane.proofs.numbers.Numbers.place_of.Given as goal

abbrev pub invariant-loop-number : goal.invariant-loop-number
invariant-loop-number l = record {
  counted : l.place ≡ l.number-index;
  on : place_from l.number-index l.self.all.items l.port ≡ place_in l.self.all.items l.port;
}
