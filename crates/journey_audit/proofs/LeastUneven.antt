-- The least number with a tally that isn't even is the least one of which not just those arrivals
-- came that were asked for.
use Rattle.std.proofs.Common.{ℕ, List, Option, Some, None, sym, subst, refl}
use Rattle.std.specs.BTreeMap.{get}
use Rattle.std.specs.Ordering.{nat_cmp}
use Rattle.packet_entry.specs.declared.packet.Card.{Card}
use Rattle.hook_chain.specs.Rules.{RuleTables}
use Rattle.histories.specs.declared.entry.Entry.{Entry}
use Rattle.journey_audit.specs.declared.tally.Tally.{Tally}
use Rattle.journey_audit.specs.Unmet.{AreAsMany, IsMet, IsLeastOf, all_came, all_asked, of_number}
use Rattle.journey_audit.specs.Tallying.{TallyMap, IsTallied, IsEvenIn, IsFirstUneven, came_in}
use Rattle.journey_audit.specs.Tallying.{asked_in}
use Rattle.journey_audit.proofs.JourneySoundness.{sound_if_met}

-- an even tally has as many of both, and so has none
even_is : (o : Option Tally) → IsEvenIn o → AreAsMany (came_in o) (asked_in o)
even_is None even = λ test. refl
even_is (Some t) even = even

is_even : (o : Option Tally) → AreAsMany (came_in o) (asked_in o) → IsEvenIn o
is_even None many = tt
is_even (Some t) many = many

module _ (tables : RuleTables) (key : ℕ) (entered : List Card) (es : List Entry)
    (tallies : TallyMap) (is : IsTallied tallies (all_came es) (all_asked tables key entered es))
  where
    met_if_even : (n : ℕ) → IsEvenIn (get nat_cmp tallies n) → IsMet tables key entered es n
    met_if_even n even =
        subst (λ xs. AreAsMany xs (of_number n (all_asked tables key entered es))) (is.came n)
        (subst (λ ys. AreAsMany (came_in (get nat_cmp tallies n)) ys) (is.asked n)
        (even_is (get nat_cmp tallies n) even))

    even_if_met : (n : ℕ) → IsMet tables key entered es n → IsEvenIn (get nat_cmp tallies n)
    even_if_met n met =
        is_even (get nat_cmp tallies n)
        (subst (λ xs. AreAsMany xs (asked_in (get nat_cmp tallies n))) (sym (is.came n))
        (subst (λ ys. AreAsMany (of_number n (all_came es)) ys) (sym (is.asked n)) met))

    pub least_is : (number : Option ℕ) → IsFirstUneven tallies number →
        IsLeastOf tables key entered es number
    least_is None even = sound_if_met tables key entered es (λ n. met_if_even n (even n))
    least_is (Some number) least = record {
      unmet = λ met. least.uneven (even_if_met number met);
      before = λ n less. met_if_even n (least.before n less);
    }
