use Rattle.std.proofs.Common.{refl, arith}
use Rattle.std.specs.Prelude.{◌==◌}
use Rattle.hook_chain.specs.Route.{next, next_of}
use Rattle.histories.specs.declared.histories.Lost.{Lost}
use Rattle.queue_tests.proofs.by_hand.journeys_by_hand.Goals as goal

pub returns-clause-sound : goal.returns-clause-sound
unfolding next next_of
returns-clause-sound c = record {
  asked = λ test. omega arith;
  met = λ test. omega arith;
  first = refl;
}

pub returns-clause-missing : goal.returns-clause-missing
unfolding next next_of
returns-clause-missing c = λ s. absurd (omega (arith, s.met (λ (l : Lost). l.number == 4)))
