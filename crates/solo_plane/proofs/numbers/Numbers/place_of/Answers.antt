use Rattle.std.proofs.Common.{◌+◌, ◌∙◌}
use Rattle.std.proofs.Common.{sym, ap, Some}
use Rattle.solo_plane.proofs.Places.{place_here, place_behind, none_behind}
use Rattle.solo_plane.proofs.numbers.Numbers.place_of.Goals as goal

pub returns-then-port-number : goal.returns-then-port-number
returns-then-port-number c =
    let items = c.args.self.now.all.items in
    let at = c.loop-number.number-index in
    ap (λ k. Some k) c.loop-number.invariant.counted
    ∙ sym (place_here items at c.args.port
    (rw c.deref-number-items.ensures.value at c.loop-number-test.true)
    (rw c.deref-number-items.ensures.value at c.if-port-number.true))
    ∙ c.loop-number.invariant.on

pub loop-number-preserved : goal.loop-number-preserved
loop-number-preserved c =
    let items = c.args.self.now.all.items in
    let at = c.loop-number.number-index in
    record {
      counted = ap (λ k. k + 1) c.loop-number.invariant.counted;
      on = sym (place_behind items at c.args.port
          (rw c.deref-number-items.ensures.value at c.loop-number-test.true)
          (rw c.deref-number-items.ensures.value at c.if-port-number.false))
          ∙ c.loop-number.invariant.on;
    }

pub returns : goal.returns
returns c =
    let items = c.args.self.now.all.items in
    let at = c.loop-number.number-index in
    sym (none_behind items at c.args.port
    (rw c.deref-number-items.ensures.value at c.loop-number-test.false))
    ∙ c.loop-number.invariant.on
