use Rattle.std.proofs.Common.{length, ◌≤◌}
use Rattle.packet_moves.specs.HandedOn.{AreInTime}
use Rattle.place_turns.specs.Messages.{CarriesAll}
use Rattle.place_turns.specs.Passes.{AreOf}
use Rattle.place_turns.specs.Places.{places_of, setting_of}
use Rattle.place_turns.specs.Departures.{HaveSeenAll}
use Rattle.place_turns.specs.Timely.{Holder, AreTimelyOpen}
use Rattle.place_turns.specs.Trails.{Trail}
use Rattle.place_turns.proofs.asking.hand_on.Given as goal

abbrev pub invariant-loop-packet : goal.invariant-loop-packet
invariant-loop-packet g l = record {
  in_time : AreInTime l.handed.items;
  room : length l.handed.items ≤ l.passes.room;
  of : AreOf l.turns.places.now l.passes.locks l.passes.trail.known;
  on : (after : Trail) →
      CarriesAll (places_of l.turns.places.now) (setting_of l.turns.places.now) l.handed.items
      l.passes.trail after →
      CarriesAll (places_of l.turns.places.now) (setting_of l.turns.places.now)
      l.initial.handed.items
      l.initial.passes.trail after;
  seen : HaveSeenAll l.initial.passes.timed l.initial.handed.items →
      HaveSeenAll l.passes.timed l.handed.items;
  timely : (h : Holder) → HaveSeenAll l.initial.passes.timed l.initial.handed.items →
      AreTimelyOpen l.initial.passes.clock l.initial.passes.timed h →
      AreTimelyOpen l.passes.clock l.passes.timed h;
}

abbrev pub decreases-loop-packet : goal.decreases-loop-packet
decreases-loop-packet g l = length l.handed.items
