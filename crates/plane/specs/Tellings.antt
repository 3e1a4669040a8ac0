-- Passes that meet: those of ports tell the feeder's one after the other, or it tells each of them.
use Rattle.std.specs.Prelude.{◌+◌, ◌++◌, ℕ, List, map, length}
use Rattle.place_rows.specs.Meeting.{ToldUpTo, HasGathered, HasSpread}
use Rattle.place_rows.specs.Rows.{Known}
use Rattle.plane.specs.declared.meeting.Direction.{Direction}
use Rattle.plane.specs.declared.meeting.Direction.TheVariants.{ToFeeder, ToPorts}
use Rattle.plane.specs.Opening.{known_in}
use Rattle.plane.specs.Passes.{FeederView, PortView}

-- one of two told the other: what a port and the feeder knew, and what they know then
abbrev pub Told : Direction → ℕ → List Known → List Known → List Known → List Known → Type 0
Told ToFeeder places port feeder port_then feeder_then =
    ToldUpTo places port feeder port_then feeder_then
Told ToPorts places port feeder port_then feeder_then =
    ToldUpTo places feeder port feeder_then port_then

-- the first n of some rows told the first one, or it told them
abbrev pub HaveTold : Direction → ℕ → ℕ → List Known → List Known → List (List Known) →
    List (List Known) → Type 0
HaveTold ToFeeder = HasGathered
HaveTold ToPorts = HasSpread

-- these ports did so, after those whose rows stand in front of theirs
abbrev pub TellEach : Direction → ℕ → FeederView → FeederView → List PortView → List PortView →
    Type 0
TellEach direction places feeder feeder_then ports ports_then =
    (first : List Known) (rows front back : List (List Known)) →
    HaveTold direction places (length front) first feeder.trail.known rows
    (front ++ (map known_in ports ++ back)) →
    HaveTold direction places (length front + length ports) first feeder_then.trail.known rows
    (front ++ (map known_in ports_then ++ back))
