use Rattle.std.proofs.Common.{ap, ◌∙◌, ◌++◌}
use Rattle.std.proofs.Common.{List, ℕ}
use Rattle.locked_place.proofs.EntryTimes.{times_beyond}
use Rattle.locked_place.proofs.place.stamp_new.Goals as goal

pub returns : goal.returns
returns c old more len on =
    c.stamp_all.ensures
    ∙ ap (λ (ts : List ℕ). c.args.stamps.now ++ ts)
    (times_beyond c.args.time c.args.before c.entries.result.now old more len
    (c.entries.ensures.value ∙ on))
