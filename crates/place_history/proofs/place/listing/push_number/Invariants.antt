use Rattle.std.proofs.Common.{◌≡◌, ◌++◌, string_bytes, replicate}
use Rattle.histories.specs.Listing.{blank}
use Rattle.place_history.proofs.place.listing.push_number.Given as goal

abbrev pub invariant-loop : goal.invariant-loop
invariant-loop l =
    string_bytes l.line ≡ string_bytes l.fn.line ++ replicate l.counter blank
