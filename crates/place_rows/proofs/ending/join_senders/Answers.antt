use Rattle.std.proofs.Common.{rules}
use Rattle.place_rows.proofs.Senders.{none_sent, sender_there, sender_step}
use Rattle.place_rows.proofs.ending.join_senders.Goals as goal

pub loop-i-init : goal.loop-i-init
loop-i-init c = none_sent c.args.senders c.args.receivers.now.items

pub join_sender-requires : goal.join_sender-requires
join_sender-requires c = record {
  sender = sender_there c.args.mailboxes.now c.loop-i.i c.args.senders c.loop-i.senders
      c.args.receivers.now.items c.loop-i.receivers.items c.index_mut.result.now
      c.loop-i.invariant (search rules) c.index_mut.ensures.value c.requires.apart
      c.requires.senders;
}

pub loop-i-preserved : goal.loop-i-preserved
loop-i-preserved c =
    sender_step c.args.mailboxes.now c.loop-i.i c.args.senders c.loop-i.senders
    c.args.receivers.now.items c.loop-i.receivers.items c.index_mut.result.now
    c.join_sender.new.senders c.join_sender.new.receiver c.loop-i.invariant
    (search rules) c.index_mut.ensures.value c.requires.apart c.join_sender.ensures.joined
    c.join_sender.ensures.heard c.join_sender.ensures.others
