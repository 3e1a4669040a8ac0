use Rattle.std.proofs.Common.{◌≡◌, ◌++◌, sym, ap, ◌∙◌, append-nil, false, true}
use Rattle.std.specs.Prelude.{◌==◌}
use Rattle.std.proofs.lemmas.Bool.{ne_eqb, eq-eqb}
use Rattle.queue_core.specs.Numbers.{verdict_drop}
use Rattle.queue_core.specs.Decision.{kind_of}
use Rattle.place_history.proofs.Handouts.{all_kept, all_dropped, changed_so, if_ok}
use Rattle.place_history.proofs.place.requests.take_share.Goals as goal

pub returns-then-head-ne-DROP-clause-taken : goal.returns-then-head-ne-DROP-clause-taken
returns-then-head-ne-DROP-clause-taken c =
    let kept : (kind_of c.args.head.verdict == verdict_drop) ≡ false =
    ne_eqb _ _ c.if-head-ne-DROP.true in
    if_ok (λ count h. changed_so (λ old new by. (
      by.0,
      by.1,
      by.2 ∙ ap (λ hs. c.args.handed.now.items ++ hs)
          (sym (all_kept old.state c.args.head c.args.mark c.args.priority kept)),
      by.3,
    )) h)
    c.batch.result c.batch.ensures.handed

pub returns-clause-taken : goal.returns-clause-taken
returns-clause-taken c =
    let drop : (kind_of c.args.head.verdict == verdict_drop) ≡ true =
    eq-eqb _ _ c.if-head-ne-DROP.false in
    if_ok (λ count h. changed_so (λ old new by. (
      by.0,
      by.1,
      sym (append-nil c.args.handed.now.items) ∙ ap (λ hs. c.args.handed.now.items ++ hs)
          (sym (all_dropped old.state c.args.head c.args.mark c.args.priority drop)),
      by.3,
    )) h)
    c.batch-taken.result c.batch-taken.ensures.handed
