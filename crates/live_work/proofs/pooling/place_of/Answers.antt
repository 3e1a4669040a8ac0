use Rattle.std.proofs.Common.{ℕ, List, ◌<◌, ◌≡◌, length, subst}
use Rattle.std.specs.Prelude.{slice_index_or}
use Rattle.live_work.proofs.PoolAnswers.{found_place}
use Rattle.live_work.proofs.pooling.place_of.Goals as goal

pub returns-then-ports-at : goal.returns-then-ports-at
returns-then-ports-at c =
    let same = c.ports-ports.ensures.value in
    found_place c.args.port c.args.script.now.ports c.loop-at.at 0
    (subst (λ (ps : List ℕ). c.loop-at.at < length ps) same c.loop-at-test.true)
    c.loop-at.invariant
    (subst (λ (ps : List ℕ). slice_index_or ps c.loop-at.at 0 ≡ c.args.port) same
    c.if-ports-at.true)
