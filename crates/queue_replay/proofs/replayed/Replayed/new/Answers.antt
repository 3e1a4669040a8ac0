use Rattle.std.proofs.Common.{ℕ, List, [], Option, ap, sym, subst}
use Rattle.std.specs.BTreeMap.{is_at}
use Rattle.std.specs.Map.{lookup}
use Rattle.std.specs.Ordering.{nat_cmp}
use Rattle.queue_core.specs.State.{Bound}
use Rattle.queue_replay.specs.Replays.{AreFound, queue_in}
use Rattle.queue_replay.proofs.Parts.{none_departed}
use Rattle.queue_replay.proofs.replayed.Replayed.new.Goals as goal

pub returns : goal.returns
returns c = record {
  found = subst (AreFound [] []) (sym c.new.ensures) tt;
  departed = none_departed c.new-2.result c.new-2.ensures;
  queues = λ queue. ap (λ (es : List (ℕ × Option Bound)).
      queue_in (lookup (is_at (nat_cmp queue)) es)) c.new-3.ensures.empty;
}
