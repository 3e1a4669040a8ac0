use Rattle.std.proofs.Common.{◌≡◌, ◌<◌, ◌++◌, ℕ, List, sym, ap, ◌∙◌, arith, flat_map}
use Rattle.std.specs.List.{range_with_len}
use Rattle.histories.specs.Numbers.{queue_count}
use Rattle.histories.specs.States.{state_of}
use Rattle.histories.specs.Listing.{line_of}
use Rattle.place_history.proofs.QueueStep.{states_alike}
use Rattle.place_history.proofs.QueueSweep.{flat_to, flat_next, all_over}
use Rattle.place_history.proofs.place.listing.lines.Goals as goal

pub loop-number-preserved : goal.loop-number-preserved
loop-number-preserved c =
    let number : c.in-Some.number < queue_count = search in
    let lines_at : ℕ → List ℕ = λ q. line_of q (state_of c.args.held.now.entries.items q) in
    let line : c.as_bytes.result.now ≡ lines_at c.in-Some.number =
    c.as_bytes.ensures.value ∙ c.in_ok-line.ensures
    ∙ ap (line_of c.in-Some.number)
    (states_alike c.args.held.now c.in-Some.number c.requires.replayed) in
    record {
      within = omega (arith, number);
      lines = c.in_ok-extend_from_slice.ensures.items
          ∙ ap (λ xs. xs ++ c.as_bytes.result.now) c.loop-number.invariant.lines
          ∙ ap (λ xs. flat_map lines_at (range_with_len 0 c.loop-number.from) ++ xs) line
          ∙ sym (flat_next lines_at c.in-Some.number
          ∙ ap (λ xs. xs ++ lines_at c.in-Some.number)
          (flat_to lines_at c.loop-number.from c.in-Some.number c.in-Some.ensures.found.0
          (λ q low below. ap (line_of q) (c.in-Some.ensures.first q low below))));
    }

pub returns : goal.returns
returns c =
    c.loop-number.invariant.lines
    ∙ all_over (λ q. line_of q (state_of c.args.held.now.entries.items q)) c.loop-number.from
    c.loop-number.invariant.within
    (λ q low below. ap (line_of q) (c.in_default.ensures.none q low below))
