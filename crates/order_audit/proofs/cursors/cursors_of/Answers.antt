use Rattle.std.proofs.Common.{ℕ, List, refl, ap, arith, rules}
use Rattle.std.specs.BTreeMap.{is_at}
use Rattle.std.specs.Map.{lookup}
use Rattle.std.specs.Ordering.{nat_cmp}
use Rattle.order_audit.specs.declared.cursors.Cursor.{Cursor}
use Rattle.order_audit.proofs.Logs.{no_cursor_yet, cursors_on, all_cursors}
use Rattle.order_audit.proofs.cursors.cursors_of.Goals as goal

pub loop-place-init : goal.loop-place-init
loop-place-init c =
    no_cursor_yet c.args.logs.now c.new-cursors.result
    (λ q. ap (λ (es : List (ℕ × Cursor)). lookup (is_at (nat_cmp q)) es)
    c.new-cursors.ensures.empty)

pub loop-place-preserved : goal.loop-place-preserved
loop-place-preserved c =
    cursors_on c.args.logs.now c.loop-place.place _ c.in-Some.log.now c.loop-place.cursors
    c.keep_first.new.cursors (search rules) refl
    (c.ascend.ensures c.if-not-ascend.false) c.loop-place.invariant
    c.in_ok-keep_first.ensures

pub returns : goal.returns
returns c =
    all_cursors c.args.logs.now c.loop-place.place c.loop-place.cursors (omega arith)
    c.loop-place.invariant
