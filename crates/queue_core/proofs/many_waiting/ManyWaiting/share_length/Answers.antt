use Rattle.std.proofs.Common.{◌≡◌, drop, Some, sym, subst, ◌∙◌, arith, add-one}
use Rattle.queue_core.specs.Linked.{oldest_of, IsLinked}
use Rattle.queue_core.proofs.Shares.{share_goes_on}
use Rattle.queue_core.proofs.MapChanges.{standing, has_entry, goes_to}
use Rattle.queue_core.proofs.many_waiting.ManyWaiting.share_length.Goals as goal

pub unreachable-requires-in_default-get : goal.unreachable-requires-in_default-get
unreachable-requires-in_default-get c =
    let l = subst (IsLinked c.self.inside.by_id.entries c.self.inside.oldest c.self.inside.youngest)
    c.self.view_is c.self.invariant in
    has_entry _ _ _ c.args.self.now c.loop-count.count c.in-Some.id l
    (sym c.loop-count.invariant.0 ∙ c.in-Some.is) (sym c.in_default-get.ensures.value)

pub loop-count-preserved : goal.loop-count-preserved
loop-count-preserved c =
    let l = subst (IsLinked c.self.inside.by_id.entries c.self.inside.oldest c.self.inside.youngest)
    c.self.view_is c.self.invariant in
    let first : oldest_of (drop c.loop-count.count c.args.self.now) ≡ Some c.in-Some.id =
    sym c.loop-count.invariant.0 ∙ c.in-Some.is in
    let s = standing c.args.self.now c.loop-count.count c.in-Some.id first in
    rw add-one (
      goes_to _ _ _ c.args.self.now c.loop-count.count c.in-Some.id c.in-Some-get.linked.now l first
          (sym c.in-Some-get.ensures.value),
      omega (
        arith,
        share_goes_on _ _ _ c.args.maximum s.is (sym c.is_after.ensures ∙ c.if-is_after.false),
        c.loop-count.invariant.1,
      ),
    )
