use Rattle.std.proofs.Common.{◌≡◌, refl, sym, ◌∙◌, length}
use Rattle.queue_core.specs.Step.{ended}
use Rattle.place_history.proofs.Handouts.{none_handed, gone_count}
use Rattle.place_history.proofs.RequestEntries.{enters, waiting_held}
use Rattle.place_history.proofs.place.requests.end.Goals as goal

pub returns-clause-entered : goal.returns-clause-entered
returns-clause-entered c =
    let bound = c.requires.line.0 in
    let count : c.take_out-taken.result ≡ length bound.waiting =
    waiting_held c.args.held.now c.args.asker.queue bound c.take_out-taken.result
    c.requires.replayed c.requires.no_offer c.requires.line.1 c.take_out-taken.ensures.count in
    enters c.args.held.now c.append.new.held c.args.asker.queue _ 0 c.take_out-taken.result _ _
    (ended bound) c.requires.line.2 c.append.ensures.entries
    (rw c.request.ensures at c.answered.ensures) (rw count refl)
    (count ∙ gone_count bound) (sym (none_handed bound))
