use Rattle.std.proofs.Common.{sym, ap, ◌∙◌, subst, length}
use Rattle.run_parts.specs.Feeder.{downs_in_effect}
use Rattle.std.specs.Prelude.{◌↔◌, IsTrue}
use Rattle.feeder_audit.specs.Fitting.{Rises}
use Rattle.feeder_audit.specs.Queues.{AreWhole, state_in}
use Rattle.feeder_audit.proofs.AscendingTimes.{all_rise}
use Rattle.feeder_audit.proofs.Queues.{OneFeeder, fed_exactly}
use Rattle.feeder_audit.proofs.feeding.is_fed.Goals as goal

pub follow_all-requires-clause-lines : goal.follow_all-requires-clause-lines
follow_all-requires-clause-lines c =
    subst (Rises 0) (sym (c.deref.ensures.value ∙ c.in_ok-downs.ensures))
    (all_rise c.args.script.now c.len.result)

pub returns : goal.returns
returns c =
    let law : OneFeeder = record {
      fed = c.one_feeder_feeds_all.ensures.fed;
      all = c.one_feeder_feeds_all.ensures.all;
    } in
    let script = c.args.script.now in
    let frames = c.args.capture.now.frames in
    let downs = c.deref.result.now in
    let queues = c.args.replayed.now.queues in
    let feds = c.in_ok-feds.feds in
    let same = c.deref-2.ensures.value ∙ sym c.deref.ensures.value in
    fed_exactly law script (length frames) c.args.histories.now.entries downs queues
    feds c.are_whole.result
    (c.deref.ensures.value ∙ c.in_ok-downs.ensures
    ∙ ap (λ n. downs_in_effect script n) c.len.ensures) c.requires.replayed.queues
    c.in_ok-feds.ensures
    (subst (λ ds. IsTrue c.are_whole.result ↔ AreWhole ds (state_in queues) feds) same
    c.are_whole.ensures)
