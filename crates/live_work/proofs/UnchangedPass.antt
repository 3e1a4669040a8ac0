-- What a call leaves of a pass as it is, call after call.
use Rattle.std.proofs.Common.{◌≡◌, ◌<◌, ◌∙◌, arith, refl}
use Rattle.plane.specs.declared.plane.Plane.{Plane}
use Rattle.plane.specs.Passes.{FeederView, IsFeederOf, IsPortOf, PortView}
use Rattle.plane.specs.Planes.{places_of}
use Rattle.place_turns.specs.Trails.{parts_of}
use Rattle.live_passes.specs.Numbered.{StaysFeeder, StaysPort}
use Rattle.live_passes.specs.Views.{HaveSeenOwn}

-- a plane has a place
pub some_place : (plane : Plane) → 0 < places_of plane
some_place plane = omega (arith, plane.shared.some, plane.shared.sized)

-- ---- ports

pub port_owns : (plane : Plane) (p : PortView) → IsPortOf plane p → HaveSeenOwn p.trail.known
port_owns plane p of = record { placed = of.balanced.placed; legal = of.balanced.legal }

pub port_here : (plane : Plane) (p : PortView) → IsPortOf plane p → StaysPort plane p p
port_here plane p of = record { of = of; port = refl; parts = refl }

-- a call more
pub port_stays : (plane : Plane) (a b c : PortView) → StaysPort plane a b → IsPortOf plane c →
    c.port ≡ b.port → parts_of c.trail.known ≡ parts_of b.trail.known → StaysPort plane a c
port_stays plane a b c was of port parts =
    record { of = of; port = port ∙ was.port; parts = parts ∙ was.parts }

pub port_both : (plane : Plane) (a b c : PortView) → StaysPort plane a b → StaysPort plane b c →
    StaysPort plane a c
port_both plane a b c one two =
    record { of = two.of; port = two.port ∙ one.port; parts = two.parts ∙ one.parts }

-- ---- the feeder

pub feeder_owns : (plane : Plane) (p : FeederView) → IsFeederOf plane p →
    HaveSeenOwn p.trail.known
feeder_owns plane p of = record { placed = of.balanced.placed; legal = of.balanced.legal }

pub feeder_here : (plane : Plane) (p : FeederView) → IsFeederOf plane p → StaysFeeder plane p p
feeder_here plane p of = record { of = of; parts = refl }

pub feeder_stays : (plane : Plane) (a b c : FeederView) → StaysFeeder plane a b →
    IsFeederOf plane c → parts_of c.trail.known ≡ parts_of b.trail.known → StaysFeeder plane a c
feeder_stays plane a b c was of parts = record { of = of; parts = parts ∙ was.parts }
