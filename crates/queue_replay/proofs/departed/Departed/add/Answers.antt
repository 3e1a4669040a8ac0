use Rattle.std.proofs.Common.{ℕ, [], ◌∷◌, ◌++◌, ◌∙◌, ap, rules}
use Rattle.queue_replay.specs.Leaving.{told_leaving}
use Rattle.queue_replay.specs.Telling.{waiting_of}
use Rattle.queue_replay.proofs.Departures.{entry_leaving}
use Rattle.queue_replay.proofs.departed.Departed.add.Goals as goal

pub returns : goal.returns
returns c =
    let e = c.args.entry.now in record {
      part = told_leaving e.event e.reply (waiting_of c.args.queue.now);
      visits = c.in_ok-add_leaving.ensures;
      left = entry_leaving c.args.queue.now e;
      ends = c.in_ok-push.ensures.items
          ∙ ap (λ (n : ℕ). c.args.self.now.ends.items ++ n ∷ []) (search rules);
    }
