-- Soundness with nothing lost is that as many arrivals came as were asked for, number by number.
use Rattle.std.proofs.Common.{◌≡◌, ℕ, ◌+◌, List, [], Bool, true, Option, Some}
use Rattle.std.proofs.Common.{None, refl, sym, ap, ◌∙◌, arith}
use Rattle.std.specs.Prelude.{count_by, sum_by, flat_map, not, ◌↔◌, ◌&&◌}
use Rattle.packet_entry.specs.declared.packet.Card.{Card}
use Rattle.hook_chain.specs.Rules.{RuleTables}
use Rattle.histories.specs.declared.entry.Entry.{Entry}
use Rattle.histories.specs.Moves.{moves}
use Rattle.histories.specs.Journeys.{Arrival, entering, asks, came, AreSound, times_came}
use Rattle.histories.specs.Journeys.{times_asked, visit_of}
use Rattle.journey_audit.specs.Unmet.{all_came, all_asked, AreAsMany, IsMet, IsLeastOf, has_number}
use Rattle.journey_audit.specs.Unmet.{of_number}
use Rattle.journey_audit.proofs.TestCounts.{count_flat, count_append, count_filter, count_not}
use Rattle.journey_audit.proofs.TestCounts.{all_numbers}

-- ---- two lists

pub each_number : (xs ys : List Arrival) → AreAsMany xs ys → (n : ℕ) →
    AreAsMany (of_number n xs) (of_number n ys)
each_number xs ys many n test =
    count_filter test (has_number n) xs ∙ many (λ a. has_number n a && test a)
    ∙ sym (count_filter test (has_number n) ys)

pub from_numbers : (xs ys : List Arrival) →
    ((n : ℕ) → AreAsMany (of_number n xs) (of_number n ys)) → AreAsMany xs ys
from_numbers xs ys each test =
    all_numbers (λ (a : Arrival). a.card.number) test xs ys
    (λ n. sym (count_filter test (has_number n) xs) ∙ each n test
    ∙ count_filter test (has_number n) ys)

-- ---- soundness

module _ (tables : RuleTables) (key : ℕ) (entered : List Card) (es : List Entry) where
  came_is : (test : Arrival → Bool) → count_by test (all_came es) ≡ times_came test (moves es)
  came_is test = count_flat test came (moves es)

  asked_is : (test : Arrival → Bool) →
      count_by test (all_asked tables key entered es)
      ≡ times_asked tables key test entered (moves es)
  asked_is test =
      count_append test (flat_map (entering tables key) entered)
      (flat_map (asks tables key) (moves es))
      ∙ ap (λ n. n + count_by test (flat_map (asks tables key) (moves es)))
      (count_flat test (entering tables key) entered)
      ∙ ap (λ n. sum_by (λ c. count_by test (entering tables key c)) entered + n)
      (count_flat test (asks tables key) (moves es))

  -- in sound entries no more came than were asked for by a test, nor by its opposite
  pub as_many_if_sound : AreSound tables key entered es [] →
      AreAsMany (all_came es) (all_asked tables key entered es)
  as_many_if_sound sound test =
      omega (
        arith,
        came_is test,
        came_is (λ a. not (test a)),
        came_is (λ a. true),
        asked_is test,
        asked_is (λ a. not (test a)),
        asked_is (λ a. true),
        count_not test (all_came es),
        count_not test (all_asked tables key entered es),
        sound.asked test,
        sound.asked (λ a. not (test a)),
        sound.met (λ l. true),
      )

  pub sound_if_as_many : AreAsMany (all_came es) (all_asked tables key entered es) →
      AreSound tables key entered es []
  sound_if_as_many many = record {
    asked = λ test. omega (arith, same test);
    met = λ test. omega (arith, same (λ a. test (visit_of a)));
    first = refl;
  }
    where
      same : (test : Arrival → Bool) →
          times_came test (moves es) ≡ times_asked tables key test entered (moves es)
      same test = sym (came_is test) ∙ many test ∙ asked_is test

  pub sound_if_met : ((n : ℕ) → IsMet tables key entered es n) →
      AreSound tables key entered es []
  sound_if_met each =
      sound_if_as_many (from_numbers (all_came es) (all_asked tables key entered es) each)

  pub met_if_sound : AreSound tables key entered es [] → (n : ℕ) →
      IsMet tables key entered es n
  met_if_sound sound n =
      each_number (all_came es) (all_asked tables key entered es) (as_many_if_sound sound) n

  -- there is no least number exactly where they are sound
  pub none_if_sound : (number : Option ℕ) → IsLeastOf tables key entered es number →
      (number ≡ None) ↔ AreSound tables key entered es []
  none_if_sound None sound = (λ none. sound, λ also. refl)
  none_if_sound (Some n) least = (
    λ none. absurd (let wrong : Some n ≡ None = none in cc),
    λ sound. absurd (least.unmet (met_if_sound sound n)),
  )
