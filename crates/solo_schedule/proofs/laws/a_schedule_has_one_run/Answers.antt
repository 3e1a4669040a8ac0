use Rattle.std.proofs.Common.{sym, ◌∙◌}
use Rattle.solo_schedule.proofs.OneRun.{grouped_once, same_histories}
use Rattle.solo_schedule.proofs.laws.a_schedule_has_one_run.Goals as goal

pub returns : goal.returns
returns c = record {
  entries = λ script tables capture h g is other.
      same_histories h g (grouped_once _ h.entries g.entries is.entries other.entries)
      (is.logs ∙ sym other.logs) (is.lost ∙ sym other.lost);
}
