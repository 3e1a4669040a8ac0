use Rattle.std.proofs.Common.{◌<◌, ◌∷◌, ◌≡◌, [], arith, refl, subst, ℕ}
use Rattle.run_parts.specs.Feeder.{downs_in_effect}
use Rattle.run_parts.specs.FedExamples.{shuts}
use Rattle.live_runs.specs.ByHand.{AreFedTo3, notes, script, stands}
use Rattle.live_runs.specs.Owners.{IsFedByAll}
use Rattle.live_runs.specs.Passes.{feeder_number, seen_at}
use Rattle.live_runs.specs.Stages.{Ending}
use Rattle.shared_feeding.specs.ByHand.{fallen, fed_by_both, front, histories, passes, seen_by_0}
use Rattle.shared_feeding.specs.ByHand.{seen_by_1, seen_by_both}
use Rattle.shared_feeding.proofs.by_hand.a_run_of_two_feeders_by_hand.Goals as goal

both_are_fed : AreFedTo3 fed_by_both
both_are_fed = record {
  here = (refl, (refl, (refl, tt)));
  feeders = (tt, (tt, (tt, tt)));
  letters = refl;
  sent = refl;
  room = refl;
  closing = record { last = refl; unbound = refl };
}

pub returns : goal.returns
returns c =
    let known = c.joined_feeders_fed_the_place.ensures in
    let two = c.two_feeders_by_hand.ensures in
    let around = c.a_run_around_what_is_fed.ensures in
    let closed = around.closed fed_by_both both_are_fed in
    let meeting = around.meeting fed_by_both both_are_fed in
    let received = around.received fed_by_both both_are_fed in
    let done = c.a_run_by_hand.ensures.done in
    let joined = known.all 2 2 script fallen front seen_by_both two.front
    (known.more 2 1 5 fallen front seen_by_0 seen_by_1 seen_by_both
    (known.one 2 3 fallen front seen_by_0 two.zero) two.one two.joined) two.lines in
    let fed : (k : ℕ) → k < 1 →
    IsFedByAll 2 (downs_in_effect script 2) (seen_at passes k feeder_number) =
    λ k below. let first : 0 ≡ k = omega (arith, below) in
    subst (λ j. IsFedByAll 2 (downs_in_effect script 2) (seen_at passes j feeder_number)) first
    (c.a_place_stays_fed_by_all.ensures.meets 2 (downs_in_effect script 2) seen_by_both
    (shuts 7 ∷ []) joined) in
    record {
      closed = closed;
      meeting = meeting;
      done = done;
      fed = fed;
      received = received;
      made = c.a_run_with_threads_is_made_by_its_script.ensures.made_by_all 1 2 script 1 2
          (Ending 0) passes histories notes stands (omega arith) closed meeting done fed received;
    }
