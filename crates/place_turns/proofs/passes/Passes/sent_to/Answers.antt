use Rattle.std.proofs.Common.{ap, ◌∙◌, arith, List}
use Rattle.std.specs.Prelude.{map, sum_by}
use Rattle.std.specs.BTreeMap.{BTreeMap}
use Rattle.std.proofs.lemmas.List.{take_all}
use Rattle.turn_lock.specs.Passes.{view_of}
use Rattle.place_rows.specs.Rows.{known_of}
use Rattle.place_rows.specs.Shares.{sent_in}
use Rattle.place_turns.specs.Passes.{PassesView}
use Rattle.place_turns.proofs.NoticeCounts.{count_at, total_is}
use Rattle.place_turns.proofs.passes.Passes.sent_to.Goals as goal

pub returns : goal.returns
returns c =
    c.loop-counts.invariant.sum
    ∙ ap (λ (cs : List (BTreeMap _ _)). sum_by (count_at c.args.port) cs)
    (take_all c.loop-counts.counts-index c.deref-counts-items.result.now
    (omega (arith, c.loop-counts-test.false))
    ∙ c.deref-counts-items.ensures.value)
    ∙ total_is c.args.port (known_of (map view_of c.self.inside.row.items)) c.self.inside.sent.items
    c.self.invariant
    ∙ ap (λ (p : PassesView). sent_in c.args.port p.trail.known) c.self.view_is
