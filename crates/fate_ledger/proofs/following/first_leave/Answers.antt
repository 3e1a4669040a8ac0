use Rattle.std.proofs.Common.{◌≡◌, suc, ◌-◌, ◌+◌, sym, ap, ◌∙◌, arith}
use Rattle.fate_ledger.specs.Following.{happening}
use Rattle.fate_ledger.proofs.Departures.{one_left, note_on}
use Rattle.fate_ledger.proofs.following.first_leave.Goals as goal

pub loop-preserved : goal.loop-preserved
loop-preserved c =
    let count : c.args.count - c.loop.counter ≡ suc (c.args.count - (c.loop.counter + 1)) =
    omega (arith, c.loop-test.true) in (
      sym (one_left _ _ _ _ (c.in-Some.ensures.0, c.in-Some.card) c.args.how c.args.mark c.args.priority
          count c.in-Some.ensures.1).0 ∙ c.loop.invariant.0,
      sym (note_on _ _ _ _ (c.in-Some.ensures.0, c.in-Some.card) c.args.how c.args.mark
          c.args.priority c.happening.result _ _ count c.in-Some.ensures.1
          (c.happening.ensures ∙ ap (happening c.args.how) c.changed.ensures) c.note.ensures)
          ∙ c.loop.invariant.1,
    )
