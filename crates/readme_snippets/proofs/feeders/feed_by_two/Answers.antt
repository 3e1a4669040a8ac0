use Rattle.std.proofs.Common.{◌∷◌, ◌++◌, List, sym, subst}
use Rattle.std.specs.Prelude.{map}
use Rattle.place_rows.specs.Joining.{AreWhole}
use Rattle.place_rows.specs.Rows.{Known}
use Rattle.plane.specs.Opening.{known_in}
use Rattle.plane.specs.Passes.{FeederView}
use Rattle.plane.specs.Planes.{places_of}
use Rattle.readme_snippets.proofs.OnePort.{fed_whole, one_port, opened_whole}
use Rattle.readme_snippets.proofs.feeders.feed_by_two.Goals as goal
use Rattle.readme_snippets.proofs.feeders.feed_by_two.Goals.{in-Ok, in_default}

pub close-requires-clause-apart : goal.close-requires-clause-apart
close-requires-clause-apart g c =
    one_port c.in_ok-plane.field-0.ports c.new-2.result _ c.in_ok-plane.ensures.ports_are
    c.new-2.ensures

pub close-requires-clause-whole : goal.close-requires-clause-whole
close-requires-clause-whole g c =
    let o = c.in_ok-plane.field-0 in
    let rows : List (List Known) = map known_in o.ports ++ map known_in c.new-2.result in
    let Whole : FeederView → Type 0 =
    λ p. AreWhole (places_of o.plane) (p.trail.known ∷ rows) in
    let first : Whole o.feeder =
    opened_whole _ _ _ o c.new-2.result c.in_ok-plane.ensures c.new-2.ensures in
    elim c.match-split_feeder.branch [
      | in-Ok w ↦ subst Whole (sym w.feeder-is)
          (fed_whole c.parts_stay_whole.ensures (places_of o.plane) o.feeder.trail.known
          c.split_feeder.new.pass.trail.known w.in-Ok.other.trail.known
          w.feed.new.pass.trail.known w.feed-in-Ok.new.pass.trail.known
          w.join_feeder.new.into.trail.known rows w.in-Ok.ensures.split.parts
          w.feed.ensures.parts w.feed-in-Ok.ensures.parts w.join_feeder.ensures.joined.parts first)
      | in_default w ↦ subst Whole (sym w.feeder-is)
          (subst Whole (sym w.in_default.ensures.err) first)
    ]
