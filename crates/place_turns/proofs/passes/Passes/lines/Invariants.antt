use Rattle.std.proofs.Common.{◌≡◌, List}
use Rattle.packet_entry.specs.declared.packet.Card.{Card}
use Rattle.histories.specs.declared.histories.Lost.{Lost}
use Rattle.packet_moves.specs.declared.setting.Setting.{Setting}
use Rattle.locked_place.specs.Turns.{LooksOn}
use Rattle.place_rows.specs.Rows.{TurnedUpTo}
use Rattle.place_rows.specs.Shares.{IsBalanced}
use Rattle.place_turns.specs.Listings.{AreLinesUpTo}
use Rattle.place_turns.specs.Passes.{AreOf}
use Rattle.place_turns.specs.Places.{places_of}
use Rattle.place_turns.specs.Timely.{Holder, AreTimelyOpen}
use Rattle.place_turns.specs.Trails.{parts_of}
use Rattle.place_turns.proofs.passes.Passes.lines.Given as goal

abbrev pub invariant-loop-place : goal.invariant-loop-place
invariant-loop-place g l = record {
  of : AreOf l.places l.self.locks l.self.trail.known;
  looked : TurnedUpTo l.place l.initial.self.trail.known l.self.trail.known LooksOn;
  lines : AreLinesUpTo (places_of l.places) l.place l.self.trail.known l.lines;
  lost : l.self.trail.lost ≡ l.initial.self.trail.lost;
  parts : parts_of l.self.trail.known ≡ parts_of l.initial.self.trail.known;
  kept : (s : Setting) (entered : List Card) (lost : List Lost) →
      IsBalanced s entered l.initial.self.trail.known lost →
      IsBalanced s entered l.self.trail.known lost;
  timely : (h : Holder) → AreTimelyOpen l.initial.self.clock l.initial.self.timed h →
      AreTimelyOpen l.self.clock l.self.timed h;
}
