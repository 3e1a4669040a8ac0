use Rattle.std.proofs.Common.{refl, ◌∙◌}
use Rattle.place_turns.specs.Passes.{Shuts}
use Rattle.place_turns.proofs.PassTurns.{none_turned, one_more}
use Rattle.place_turns.proofs.ClosingBalance.{closed_one}
use Rattle.place_turns.proofs.LockParts.{one_parts, shut_parts}
use Rattle.place_turns.proofs.passes.Passes.close_port.Goals as goal

pub loop-place-init : goal.loop-place-init
loop-place-init g c = record {
  of = c.requires.of;
  closed = none_turned (Shuts c.args.port) c.args.self.now.trail.known;
  lost = refl;
  parts = refl;
  kept = λ s entered lost is. is;
  timely = λ h of is. is.timely;
}

pub loop-place-preserved : goal.loop-place-preserved
loop-place-preserved g c = record {
  of = c.close_port_at.ensures.of;
  closed = one_more (Shuts c.args.port) c.loop-place.place _ _ _ c.loop-place.invariant.closed
      c.close_port_at.ensures.turn;
  lost = c.close_port_at.ensures.lost.0 ∙ c.loop-place.invariant.lost;
  parts = one_parts c.loop-place.place _ _ (Shuts c.args.port) (shut_parts c.args.port)
      c.close_port_at.ensures.turn ∙ c.loop-place.invariant.parts;
  kept = λ s entered lost is.
      closed_one c.rows_stay_balanced.ensures.closed s c.args.port entered lost _ _
      c.loop-place.place c.close_port_at.ensures.turn
      (c.loop-place.invariant.kept s entered lost is);
  timely = λ h of is.
      c.close_port_at.ensures.timely h of (c.loop-place.invariant.timely h of is);
}
