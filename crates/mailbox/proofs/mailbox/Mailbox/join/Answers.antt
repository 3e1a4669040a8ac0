use Rattle.std.proofs.Common.{◌<◌, ◌≤◌, sym, ap, ◌∙◌, subst, rules}
use Rattle.mailbox.specs.Roles.{HasAll}
use Rattle.mailbox.specs.Lines.{IsTold}
use Rattle.mailbox.proofs.LetterCount.{fill_joins, learns}
use Rattle.mailbox.proofs.QueueRule.{line_joins, learns_line}
use Rattle.mailbox.proofs.ReceiverFields.{keeps_joined, full_when_joined}
use Rattle.mailbox.proofs.mailbox.Mailbox.join.Goals as goal

pub join_seat-requires : goal.join_seat-requires
join_seat-requires c =
    let i = c.receiver.invariant in
    let s = c.sender.invariant in (
      search rules,
      search rules,
      s.free,
      search rules,
      fill_joins _ _ _ _ _ (ap (λ r. r.sends) i.role ∙ i.sends) (ap (λ r. r.gets) i.role ∙ i.gets)
          (ap (λ r. r.sends) s.role ∙ s.sends) (ap (λ r. r.gets) s.role ∙ s.gets),
    )

pub absorb-requires-clause-rule : goal.absorb-requires-clause-rule
absorb-requires-clause-rule c =
    let i = c.receiver.invariant in
    let s = c.sender.invariant in line_joins _ _ _ _ i.sends i.gets s.sends s.gets

pub learn_as-requires-clause-rule : goal.learn_as-requires-clause-rule
learn_as-requires-clause-rule c =
    let i = c.receiver.invariant in
    let e = c.absorb.ensures.rule in
    learns_line _ _ (ap (λ v. v.role.sends) e ∙ i.sends) (ap (λ v. v.role.gets) e ∙ i.gets)

pub load-requires : goal.load-requires
load-requires c =
    let i = c.receiver.invariant in (
      search rules,
      search rules,
      learns _ _ _ _ (ap (λ m. m.0.role.gets) c.join_seat.ensures.2
          ∙ (ap (λ r. r.gets) i.role ∙ i.gets)),
    )

pub invariant_of-receiver : goal.invariant_of-receiver
invariant_of-receiver c =
    keeps_joined _ _ _ _ _ _ _ _ c.receiver.invariant c.sender.invariant
    (c.learn_as.ensures.queue.0.2 ∙ c.absorb.ensures.queue.2)
    (c.learn_as.ensures.queue.1 ∙ c.absorb.ensures.rule)
    (c.load.ensures.2.0 ∙ c.join_seat.ensures.2)
    (subst IsTold (sym c.learn_as.ensures.queue.1) c.learn_as.ensures.rule.1)

pub returns-clause-whole : goal.returns-clause-whole
returns-clause-whole c = (invariant_of-receiver c).told.whole

pub returns-clause-full : goal.returns-clause-full
returns-clause-full c =
    let e = c.load.ensures.2.0 in
    full_when_joined _ _ _ (invariant_of-receiver c) (search rules)
    (subst (λ m. HasAll m.0.role.made m.0.role.joined → 0 < m.0.full → m.0.capacity ≤ m.0.claims)
    (sym e) c.load.ensures.2.1)

pub returns-clause-senders : goal.returns-clause-senders
returns-clause-senders c = (invariant_of-receiver c).told.senders

pub returns-clause-once : goal.returns-clause-once
returns-clause-once c = (invariant_of-receiver c).told.once

pub returns-clause-made : goal.returns-clause-made
returns-clause-made c = (invariant_of-receiver c).told.made

pub returns-clause-beyond : goal.returns-clause-beyond
returns-clause-beyond c = (invariant_of-receiver c).told.beyond

pub returns-clause-inside : goal.returns-clause-inside
returns-clause-inside c = (invariant_of-receiver c).told.inside
