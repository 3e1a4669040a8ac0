use Rattle.std.proofs.Common.{◌≡◌, [], rules}
use Rattle.queue_replay.specs.Replays.{IsReplayOf}
use Rattle.queue_replay.specs.Underway.{begun, underway_on, all_gone_over}
use Rattle.queue_replay.proofs.replayed.replay_all.Goals as goal

pub loop-entry-init : goal.loop-entry-init
loop-entry-init c =
    begun (λ before rest. IsReplayOf before c.new-replayed.result) c.args.entries.now _
    c.into_iter-entry-iterator.ensures.into_iter_gives c.new-replayed.ensures

pub loop-entry-preserved : goal.loop-entry-preserved
loop-entry-preserved c =
    underway_on (λ before rest. IsReplayOf before c.loop-entry.replayed) c.args.entries.now
    c.loop-entry.entry-iterator c.next.new.self c.in-Some.entry.now c.in-Some.ensures.steps
    c.loop-entry.invariant (λ before rest. IsReplayOf before c.replay.new.self)
    (c.in_ok-replay.ensures.replayed c.loop-entry.invariant.before c.loop-entry.invariant.kept)

pub returns : goal.returns
returns c =
    let none : c.loop-entry.entry-iterator ≡ [] = search rules in
    all_gone_over (λ before rest. IsReplayOf before c.loop-entry.replayed) c.args.entries.now
    c.loop-entry.entry-iterator none c.loop-entry.invariant
