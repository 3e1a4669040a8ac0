use Rattle.std.proofs.Common.{ℕ, Option, rules, subst, sym, ◌∙◌, true≢false}
use Rattle.queue_replay.specs.NumberWalk.{walk_begun, walk_on, walk_done, next_found, holds_below}
use Rattle.journey_audit.specs.declared.tally.Tally.{Tally}
use Rattle.journey_audit.specs.Tallying.{IsEvenIn}
use Rattle.journey_audit.proofs.tally.first_uneven.Goals as goal

-- what is found under a number is even
abbrev Even : ℕ → Option Tally → Type 0
Even number = IsEvenIn

pub loop-number-init : goal.loop-number-init
loop-number-init c =
    walk_begun Even _ _ c.into_iter-number-iterator.ensures.into_iter_gives.0
    c.into_iter-number-iterator.ensures.into_iter_gives.5

pub loop-number-preserved : goal.loop-number-preserved
loop-number-preserved c =
    walk_on Even _ _ _ (c.in-Some.number, c.in-Some.tally) c.in-Some.ensures.steps
    (c.is_even.ensures.0 c.if-not-is_even.false) c.loop-number.invariant

pub returns-then-not-is_even : goal.returns-then-not-is_even
returns-then-not-is_even c = record {
  uneven = λ even. true≢false (sym (c.is_even.ensures.1 (subst IsEvenIn
      (next_found Even c.args.tallies.entries _ _ (c.in-Some.number, c.in-Some.tally)
      c.in-Some.ensures.steps c.loop-number.invariant) even)) ∙ c.if-not-is_even.true);
  before = holds_below Even c.args.tallies.entries _ _ (c.in-Some.number, c.in-Some.tally)
      c.in-Some.ensures.steps c.loop-number.invariant (λ n. tt);
}

pub returns : goal.returns
returns c = walk_done Even _ _ (search rules) (λ n. tt) c.loop-number.invariant
