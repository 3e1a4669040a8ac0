use Rattle.std.proofs.Common.{◌≡◌, ◌<◌, ◌≤◌, ◌+◌, [], length, drop, sym, ap, ◌∙◌, subst, arith}
use Rattle.std.proofs.Common.{true≢false}
use Rattle.std.proofs.lemmas.Bool.{eqb-true, eq-eqb}
use Rattle.std.proofs.lemmas.List.{drop_all, nil_from_length}
use Rattle.journey_audit.specs.Unmet.{AreAsMany}
use Rattle.journey_audit.proofs.ArrivalComparison.{left_from, not_as_many, taken_both, none_left}
use Rattle.journey_audit.proofs.tally.are_as_many.Goals as goal

pub returns-in_default : goal.returns-in_default
returns-in_default c =
    let at = c.loop-arrival.arrival-index in
    let came = c.args.came.now.items in
    let items = c.deref-arrival-items.result.now in
    let within : at < length items = omega arith in
    let front = left_from came items at c.arrival-item.result c.deref-arrival-items.ensures.value
    within c.arrival-item.is in (
      λ h. absurd (true≢false (sym h)),
      λ many. absurd (not_as_many (drop at came) (drop (at + 1) came) c.loop-arrival.asked.items
          c.arrival-item.result front c.in_default.ensures (c.loop-arrival.invariant.0 many)),
    )

pub loop-arrival-preserved : goal.loop-arrival-preserved
loop-arrival-preserved c =
    let at = c.loop-arrival.arrival-index in
    let came = c.args.came.now.items in
    let items = c.deref-arrival-items.result.now in
    let within : at < length items = omega arith in
    let front = left_from came items at c.arrival-item.result c.deref-arrival-items.ensures.value
    within c.arrival-item.is in
    let both = taken_both (drop at came) (drop (at + 1) came) c.loop-arrival.asked.items
    c.swap_remove.new.self.items c.arrival-item.result c.swap_remove.result c.in-Some.place front
    c.in-Some.ensures c.swap_remove.ensures.value c.swap_remove.ensures.items in (
      λ many. both.0 (c.loop-arrival.invariant.0 many),
      λ many. c.loop-arrival.invariant.1 (both.1 many),
    )

pub returns : goal.returns
returns c =
    let at = c.loop-arrival.arrival-index in
    let asked = c.loop-arrival.asked in
    let behind : length c.deref-arrival-items.result.now ≤ at = omega arith in
    let none : drop at c.args.came.now.items ≡ [] =
    subst (λ xs. drop at xs ≡ []) c.deref-arrival-items.ensures.value
    (drop_all at c.deref-arrival-items.result.now behind) in (
      λ empty. c.loop-arrival.invariant.1
          (subst (λ xs. AreAsMany xs asked.items) (sym none)
          ((none_left asked.items).1 (nil_from_length asked.items
          (sym asked.ok.0 ∙ eqb-true asked.len 0 (sym c.is_empty.ensures ∙ empty))))),
      λ many. c.is_empty.ensures
          ∙ eq-eqb asked.len 0 (asked.ok.0 ∙ ap length ((none_left asked.items).0
          (subst (λ xs. AreAsMany xs asked.items) none (c.loop-arrival.invariant.0 many)))),
    )
