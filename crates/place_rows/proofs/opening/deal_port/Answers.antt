use Rattle.place_rows.proofs.NewPlaces.{one_port_more}
use Rattle.place_rows.proofs.opening.deal_port.Goals as goal

pub returns : goal.returns
returns c = record {
  more = λ done was fresh. one_port_more c.args.places c.args.mail c.args.port done
      c.args.dealt.now _ c.in_ok-mailbox.mailbox c.in_ok-mailbox.receiver was fresh
      c.in_ok-deal.ensures.dealt c.in_ok-add.ensures.own c.in_ok-add.ensures.others
      c.in_ok-push.ensures.items c.in_ok-mailbox.ensures.receiver c.in_ok-mailbox.ensures.capacity;
}
