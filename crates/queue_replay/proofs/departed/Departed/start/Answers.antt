use Rattle.std.proofs.Common.{◌-◌, sym, ap, ◌∙◌}
use Rattle.queue_replay.specs.Departed.{start_at}
use Rattle.queue_replay.proofs.OnwardPackets.{one_less}
use Rattle.queue_replay.proofs.Parts.{begins}
use Rattle.queue_replay.proofs.departed.Departed.start.Goals as goal

pub returns-else-place-eq0 : goal.returns-else-place-eq0
returns-else-place-eq0 c =
    let ends = c.args.self.now.ends.items in
    c.end.ensures ∙ sym (begins 0 ends (c.args.place - 1))
    ∙ sym (ap (start_at 0 ends) (one_less c.args.place c.if-place-eq0.false))
