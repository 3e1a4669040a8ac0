use Rattle.std.proofs.Common.{◌≡◌, ◌∙◌, [], refl, sym, subst, rules, true≢false}
use Rattle.log_audit.specs.Stays.{ArePackets}
use Rattle.log_audit.proofs.notices.are_packets.Goals as goal

pub loop-entry-init : goal.loop-entry-init
loop-entry-init c =
    let same = c.into_iter-entry-iterator.ensures.into_iter_gives in
    (λ all. subst ArePackets (sym same) all, λ all. subst ArePackets same all)

pub loop-entry-preserved : goal.loop-entry-preserved
loop-entry-preserved c =
    let front = c.in-Some.ensures.steps in
    let here = c.may_arrive.ensures.0 c.if-not-may_arrive.false in (
      λ all. (subst ArePackets front (c.loop-entry.invariant.0 all)).1,
      λ all. c.loop-entry.invariant.1 (subst ArePackets (sym front) (here, all)),
    )

pub returns-then-not-may_arrive : goal.returns-then-not-may_arrive
returns-then-not-may_arrive c = (
  λ wrong. absurd (true≢false (sym wrong)),
  λ all. absurd (true≢false (sym (c.may_arrive.ensures.1
      (subst ArePackets c.in-Some.ensures.steps (c.loop-entry.invariant.0 all)).0)
      ∙ c.if-not-may_arrive.true)),
)

pub returns : goal.returns
returns c =
    let none : c.loop-entry.entry-iterator ≡ [] = search rules in (
      λ is. c.loop-entry.invariant.1 (subst ArePackets (sym none) tt),
      λ all. refl,
    )
