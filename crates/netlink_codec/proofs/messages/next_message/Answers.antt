use Rattle.std.proofs.Common.{◌∙◌, arith}
use Rattle.netlink_codec.proofs.Framing.{Front-first, found_stands, none_exactly}
use Rattle.netlink_codec.proofs.messages.next_message.Goals as goal

pub returns-clause-found : goal.returns-clause-found
returns-clause-found c =
    found_stands c.args.bytes.now (λ i. omega (arith, c.type_inv.bytes i)) c.read_message.result
    c.read_message.ensures

pub returns-clause-only : goal.returns-clause-only
returns-clause-only c = λ m used front. c.read_message.ensures
    ∙ Front-first c.args.bytes.now m used front

pub returns-clause-none : goal.returns-clause-none
returns-clause-none c = none_exactly c.args.bytes.now c.read_message.result c.read_message.ensures
