use Rattle.std.proofs.Common.{ap, ◌∙◌}
use Rattle.mailbox.specs.Views.{mail_of, receiver_with}
use Rattle.mailbox.proofs.QueueRule.{pops}
use Rattle.mailbox.proofs.ReceiverFields.{view_same, view_got}
use Rattle.std.proofs.Common.{subst}
use Rattle.mailbox.specs.Turns.{TurnTells}
use Rattle.mailbox.proofs.mailbox.Mailbox.turn.Goals as goal

pub try_pop_as-requires-clause-rule : goal.try_pop_as-requires-clause-rule
try_pop_as-requires-clause-rule g c =
    let i = c.receiver.invariant in pops _ _ i.sends i.gets

pub returns-in-Some : goal.returns-in-Some
returns-in-Some g c =
    let e = c.in-Some.ensures.rule in
    let post = c.in-Some.field-0 in (
      (
        post.from,
        view_got c.receiver.inside.pass c.try_pop_as.new.pass c.receiver.inside.chair
            c.free.new.chair post c.in-Some.ensures.queue.0
            c.free.ensures.table.0 e.0
            c.free.ensures.freed
            ∙ ap (λ r. receiver_with r post.from (mail_of post)) c.receiver.view_is,
      ),
      record {
        prefix = e.1.prefix;
        in_time = e.1.in_time;
        senders = e.1.senders;
        whole = e.1.whole;
        beyond = e.1.beyond;
        inside = e.1.inside;
      },
    )

pub returns-in-None : goal.returns-in-None
returns-in-None g c =
    subst (λ r. TurnTells r c.look.new.receiver c.look.result)
    (view_same c.receiver.inside.pass c.try_pop_as.new.pass c.receiver.inside.chair
    c.in-None.ensures.queue.0 c.in-None.ensures.rule
    ∙ c.receiver.view_is) c.look.ensures
