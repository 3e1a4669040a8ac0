use Rattle.std.proofs.Common.{◌∙◌, ap, drop}
use Rattle.netlink_codec.specs.Messages.{framed_of}
use Rattle.log_audit.proofs.HeldDues.{has_cut}
use Rattle.log_audit.proofs.duties.Duties.has_message.Goals as goal

pub returns : goal.returns
returns c =
    has_cut c.datagrams_are_cut_message_by_message.ensures.first
    c.datagrams_are_cut_message_by_message.ensures.none framed_of c.args.self.now
    c.behind.result.now c.next_message.result c.is_some.result
    (c.behind.ensures.value ∙ ap (drop c.args.self.now.used) c.as_slice.ensures)
    c.next_message.ensures.reading c.is_some.ensures
