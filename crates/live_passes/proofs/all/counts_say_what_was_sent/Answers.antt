use Rattle.live_passes.proofs.SentTotals.{all_sent}
use Rattle.live_passes.proofs.all.counts_say_what_was_sent.Goals as goal

pub returns : goal.returns
returns c = λ plane feeder ports closed port all.
    all_sent c.what_was_sent_is_marked.ensures plane port feeder ports closed all
