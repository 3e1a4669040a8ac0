use Rattle.std.proofs.Common.{◌≡◌, ◌+◌, ◌-◌, ◌++◌, suc, sym, ap, ◌∙◌, append_assoc, arith}
use Rattle.run_parts.specs.Feeder.{downs_after, downs_from}
use Rattle.feeder_audit.proofs.lines.downs_up_to.Goals as goal

pub loop-number-preserved : goal.loop-number-preserved
loop-number-preserved c =
    let script = c.args.script.now in
    let number = c.loop-number.number in
    let so_far = c.loop-number.downs.items in
    let left : c.args.last - number ≡ suc (c.args.last - (number + 1)) =
    omega (arith, c.loop-number-test.true) in
    let later = downs_from script (number + 1) (suc (c.args.last - (number + 1))) in
    ap (λ ds. ds ++ later) (c.in_ok-push_after.ensures
    ∙ ap (λ ds. so_far ++ ds) (c.in_ok-by_frame.ensures number))
    ∙ append_assoc so_far (downs_after script number) later
    ∙ ap (λ k. so_far ++ (downs_after script number ++ downs_from script (number + 1) k)) (sym left)
    ∙ c.loop-number.invariant
