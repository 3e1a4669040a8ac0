use Rattle.std.proofs.Common.{◌<◌, ◌∙◌, ap, arith}
use Rattle.histories.specs.Listing.{line_of}
use Rattle.histories.specs.Numbers.{queue_count}
use Rattle.place_history.proofs.ListingLines.{none_lined, next_lined, all_lined}
use Rattle.place_history.proofs.QueueStep.{states_alike}
use Rattle.place_history.proofs.place.listing.put_lines.Goals as goal

pub loop-number-init : goal.loop-number-init
loop-number-init c = record {
  within = omega arith;
  lined = none_lined c.args.held.now.entries.items c.args.lines.now;
}

pub loop-number-preserved : goal.loop-number-preserved
loop-number-preserved c =
    let number : c.in-Some.number < queue_count = search in
    record {
      within = omega (arith, number);
      lined = next_lined c.args.held.now.entries.items c.loop-number.from c.in-Some.number
          c.args.lines.now c.loop-number.lines c.put_line.new.lines c.in_ok-copy.field-0
          c.loop-number.invariant.lined c.in-Some.ensures.found.0 c.in-Some.ensures.found.1
          c.in-Some.ensures.first
          (c.in_ok-copy.ensures ∙ c.as_bytes.ensures.value ∙ c.in_ok-line.ensures ∙ ap (line_of c.in-Some.number)
          (states_alike c.args.held.now c.in-Some.number c.requires.replayed)) c.in_ok-put_line.ensures.put
          c.in_ok-put_line.ensures.others;
    }

pub returns : goal.returns
returns c =
    all_lined c.args.held.now.entries.items c.loop-number.from c.args.lines.now
    c.loop-number.lines c.loop-number.invariant.lined c.loop-number.invariant.within
    c.in_default.ensures.none
