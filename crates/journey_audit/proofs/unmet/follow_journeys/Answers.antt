use Rattle.std.proofs.Common.{ℕ, List, [], ap}
use Rattle.std.specs.Prelude.{flat_map}
use Rattle.std.specs.BTreeMap.{is_at}
use Rattle.std.specs.Ordering.{nat_cmp}
use Rattle.std.specs.Map.{lookup}
use Rattle.run_parts.specs.Entering.{cards}
use Rattle.histories.specs.Journeys.{entering}
use Rattle.journey_audit.specs.declared.tally.Tally.{Tally}
use Rattle.journey_audit.proofs.Tallies.{nothing_tallied}
use Rattle.journey_audit.proofs.JourneySoundness.{none_if_sound}
use Rattle.journey_audit.proofs.LeastUneven.{least_is}
use Rattle.journey_audit.proofs.unmet.follow_journeys.Goals as goal

pub returns-clause-least : goal.returns-clause-least
returns-clause-least c = λ legal.
    let entered = cards c.args.capture.now in
    let asked = flat_map (entering c.args.tables.now c.args.key) entered in
    least_is c.args.tables.now c.args.key entered c.args.histories.now.entries
    c.follow_all.new.tallies
    (c.in_ok-replayed.ensures.grows legal [] asked (c.in_ok-all_enter.ensures [] []
    (nothing_tallied c.new-tallies.result
    (λ n. ap (λ (es : List (ℕ × Tally)). lookup (is_at (nat_cmp n)) es)
    c.new-tallies.ensures.empty)))) c.first_uneven-unmet.result c.first_uneven-unmet.ensures

pub returns-clause-none : goal.returns-clause-none
returns-clause-none c = λ legal.
    none_if_sound c.args.tables.now c.args.key (cards c.args.capture.now)
    c.args.histories.now.entries c.first_uneven-unmet.result (returns-clause-least c legal)
