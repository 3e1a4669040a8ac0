use Rattle.std.proofs.Common.{ap, ◌∙◌, rules}
use Rattle.mailbox.proofs.LetterCount.{looks_for_letters}
use Rattle.mailbox.specs.Views.{receiver_empty}
use Rattle.mailbox.proofs.ReceiverFields.{view_empty, whole_when_empty}
use Rattle.mailbox.proofs.mailbox.Mailbox.look.Goals as goal

pub load-requires : goal.load-requires
load-requires c =
    let i = c.receiver.invariant in (
      search rules,
      search rules,
      looks_for_letters _ _ _ _ (ap (λ r. r.gets) i.role ∙ i.gets),
    )

pub returns-then-load-eq0 : goal.returns-then-load-eq0
returns-then-load-eq0 c =
    let i = c.receiver.invariant in
    let f = c.load.ensures.2.0 c.if-load-eq0.true in (
      view_empty c.receiver.inside.pass c.receiver.inside.chair c.load.new.seat
          c.load.ensures.0 f.0 ∙ ap receiver_empty c.receiver.view_is,
      record {
        prefix = i.told.prefix;
        in_time = i.told.in_time;
        senders = i.told.senders;
        whole = i.told.whole;
        beyond = i.told.beyond;
        inside = i.told.inside;
      },
      whole_when_empty _ _ i f.1,
    )
