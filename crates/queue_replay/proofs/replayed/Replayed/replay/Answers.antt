use Rattle.queue_replay.proofs.Replays.{replay_goes_on}
use Rattle.queue_replay.proofs.replayed.Replayed.replay.Goals as goal

pub returns-clause-replayed : goal.returns-clause-replayed
returns-clause-replayed c =
    λ before is. replay_goes_on before c.args.entry.now c.in_ok-here.here c.args.self.now
    (record {
      found = c.keep.new.found;
      departed = c.replay.new.departed;
      queues = c.replay.new.queues;
    }) is c.in_ok-here.ensures.queues c.in_ok-here.ensures.departed c.in_ok-here.ensures.found
    c.in_ok-keep.ensures
