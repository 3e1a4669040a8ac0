use Rattle.std.proofs.Common.{◌≤◌, ◌∙◌, ◌++◌, ℕ, List, [], ◌∷◌, ap}
use Rattle.place_rows.specs.Joining.{AreWhole}
use Rattle.plane.specs.Opening.{all_rows}
use Rattle.plane.specs.Passes.{PortView}
use Rattle.plane.specs.Planes.{places_of}
use Rattle.plane.specs.Remaining.{times_in}
use Rattle.plane_tests.proofs.AllPasses.{closed_before, closed_now, closes_keep, keeps_trans}
use Rattle.plane_tests.proofs.AllPasses.{two_close}
use Rattle.plane_tests.proofs.tests.races.run.Given.{Over}
use Rattle.plane_tests.proofs.tests.races.run.Goals as goal
use Rattle.plane_tests.proofs.tests.races.run.Goals.{After-new-2, in-Ok-left, in-Err}

-- both ports have closed
both_closed : (g : Over) (c : After-new-2 g) →
    ((port : ℕ) → times_in port (c.new-2.result ++ c.from_vec-closed.result) ≤ 1)
    × AreWhole (places_of c.args.opened.plane)
    (all_rows c.both-left.result.1.0.feeder c.new-2.result c.from_vec-closed.result)
both_closed g c =
    two_close c.parts_stay_whole.ensures c.args.opened.plane c.args.opened.feeder
    c.both-left.result.1.0.feeder c.args.opened.ports c.new-2.result c.from_vec-closed.result
    c.apart-seven.result.0 c.apart-seven.result.1 c.match-left.seven c.close_port.result
    c.requires.going.on c.apart-seven.ensures c.both-left.ensures.parts
    (elim c.match-left.branch [
      | in-Ok-left w ↦ closed_now c.args.opened.plane c.apart-seven.result.0
          c.both-left.result.0.0 w.in-Ok-left.pass w.close_port-seven.result c.match-left.seven
          w.in-Ok-left.is c.both-left.ensures.open w.close_port-seven.ensures.pass
          w.close_port-seven.ensures.closed w.close_port-seven.ensures.parts w.seven-is
      | in-Err w ↦ closed_before c.args.opened.plane c.apart-seven.result.0
          c.both-left.result.0.0 w.in-Err.closed c.match-left.seven w.in-Err.is
          c.both-left.ensures.closed w.seven-is
    ]) (
      c.close_port.ensures.pass,
      keeps_trans _ _ _ c.both-left.ensures.keeps
          (closes_keep _ c.both-left.result.1.0.eight c.close_port.result
          c.close_port.ensures.closed c.close_port.ensures.parts),
    )
    c.new-2.ensures
    (c.from_vec-closed.ensures ∙ c.push_reserved-2.ensures.items
    ∙ ap (λ (l : List PortView). l ++ c.close_port.result ∷ []) (c.push_reserved.ensures.items
    ∙ ap (λ (l : List PortView). l ++ c.match-left.seven ∷ []) c.in-Ok.ensures.items))

pub close-histories-requires-clause-apart : goal.close-histories-requires-clause-apart
close-histories-requires-clause-apart g c =
    (both_closed g (goal.at.close-histories-requires-clause-apart g c).After-new-2).0

pub close-histories-requires-clause-whole : goal.close-histories-requires-clause-whole
close-histories-requires-clause-whole g c =
    (both_closed g (goal.at.close-histories-requires-clause-whole g c).After-new-2).1
