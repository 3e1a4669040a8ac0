use Rattle.std.proofs.Common.{refl, ◌∙◌, ◌+◌}
use Rattle.locked_place.specs.Turns.{LooksOn}
use Rattle.place_turns.specs.Places.{places_of}
use Rattle.place_turns.proofs.ListingLines.{none_lined, no_lines, more_lines, look_one}
use Rattle.place_turns.proofs.LockParts.{one_parts, look_parts}
use Rattle.place_turns.proofs.PassTurns.{none_turned, one_more}
use Rattle.place_turns.proofs.passes.Passes.lines.Goals as goal

pub loop-place-init : goal.loop-place-init
loop-place-init g c = record {
  of = c.requires.of;
  looked = none_turned LooksOn c.args.self.now.trail.known;
  lines = no_lines (places_of c.args.places.now) c.args.self.now.trail.known c.new-lines.result
      (none_lined c.new-lines.result c.new-lines.ensures.empty);
  lost = refl;
  parts = refl;
  kept = λ s entered lost is. is;
  timely = λ h is. is;
}

pub loop-place-preserved : goal.loop-place-preserved
loop-place-preserved g c = record {
  of = c.put_lines_at.ensures.of;
  looked = one_more LooksOn c.loop-place.place _ _ _ c.loop-place.invariant.looked
      c.put_lines_at.ensures.turn;
  lines = more_lines (places_of c.args.places.now) c.loop-place.place _ _ _ _ LooksOn
      c.loop-place.invariant.lines c.put_lines_at.ensures.turn c.in_ok-put_lines_at.ensures.lines;
  lost = c.put_lines_at.ensures.lost.0 ∙ c.loop-place.invariant.lost;
  parts = one_parts c.loop-place.place _ _ LooksOn look_parts c.put_lines_at.ensures.turn
      ∙ c.loop-place.invariant.parts;
  kept = λ s entered lost is. look_one c.rows_stay_balanced.ensures.looks s entered lost _ _
      c.loop-place.place c.put_lines_at.ensures.turn (c.loop-place.invariant.kept s entered lost
      is);
  timely = λ h is. c.put_lines_at.ensures.timely h (c.loop-place.invariant.timely h is);
}

pub returns-in_err-put_lines_at-clause-looked : goal.returns-in_err-put_lines_at-clause-looked
returns-in_err-put_lines_at-clause-looked g c = (
  c.loop-place.place + 1,
  one_more LooksOn c.loop-place.place _ _ _ c.loop-place.invariant.looked
      c.put_lines_at.ensures.turn,
)

pub returns-in_err-put_lines_at-clause-parts : goal.returns-in_err-put_lines_at-clause-parts
returns-in_err-put_lines_at-clause-parts g c =
    one_parts c.loop-place.place _ _ LooksOn look_parts c.put_lines_at.ensures.turn
    ∙ c.loop-place.invariant.parts

pub returns-in_err-put_lines_at-clause-kept : goal.returns-in_err-put_lines_at-clause-kept
returns-in_err-put_lines_at-clause-kept g c = λ s entered lost is.
    look_one c.rows_stay_balanced.ensures.looks s entered lost _ _ c.loop-place.place
    c.put_lines_at.ensures.turn (c.loop-place.invariant.kept s entered lost is)

pub returns-in_err-put_lines_at-clause-timely : goal.returns-in_err-put_lines_at-clause-timely
returns-in_err-put_lines_at-clause-timely g c = λ h is.
    c.put_lines_at.ensures.timely h (c.loop-place.invariant.timely h is)
