use Rattle.live_passes.proofs.NewPasses.{opened_all, opened_new}
use Rattle.live_passes.proofs.all.opened_passes_are_new.Goals as goal

pub returns : goal.returns
returns c = record {
  all = λ places order s plane feeder ports gauge apart no_feeder o.
      opened_all places order s plane feeder ports gauge apart o no_feeder;
  new = λ places order s plane feeder ports gauge apart o.
      opened_new places order s plane feeder ports gauge apart o;
}
