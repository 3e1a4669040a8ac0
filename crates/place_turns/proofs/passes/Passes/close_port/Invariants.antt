use Rattle.std.proofs.Common.{◌≡◌, List, Some}
use Rattle.packet_entry.specs.declared.packet.Card.{Card}
use Rattle.histories.specs.declared.histories.Lost.{Lost}
use Rattle.packet_moves.specs.declared.setting.Setting.{Setting}
use Rattle.place_rows.specs.Rows.{TurnedUpTo}
use Rattle.place_rows.specs.Shares.{IsBalanced}
use Rattle.place_turns.specs.Passes.{AreOf, Shuts}
use Rattle.place_turns.specs.Timely.{Holder, AreTimely, AreTimelyOpen}
use Rattle.place_turns.specs.Trails.{parts_of}
use Rattle.place_turns.proofs.passes.Passes.close_port.Given as goal

abbrev pub invariant-loop-place : goal.invariant-loop-place
invariant-loop-place g l = record {
  of : AreOf l.places l.self.locks l.self.trail.known;
  closed : TurnedUpTo l.place l.initial.self.trail.known l.self.trail.known (Shuts l.port);
  lost : l.self.trail.lost ≡ l.initial.self.trail.lost;
  parts : parts_of l.self.trail.known ≡ parts_of l.initial.self.trail.known;
  kept : (s : Setting) (entered : List Card) (lost : List Lost) →
      IsBalanced s entered l.initial.self.trail.known lost →
      IsBalanced s entered l.self.trail.known lost;
  timely : (h : Holder) → h.port ≡ Some l.port →
      AreTimelyOpen l.initial.self.clock l.initial.self.timed h →
      AreTimely l.self.clock l.self.timed h;
}
