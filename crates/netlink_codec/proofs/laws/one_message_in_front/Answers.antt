use Rattle.std.proofs.Common.{sym}
use Rattle.netlink_codec.proofs.Framing.{Front-first, first_message-Front}
use Rattle.netlink_codec.proofs.laws.one_message_in_front.Goals as goal

pub returns-clause-read : goal.returns-clause-read
returns-clause-read c = λ bytes m used front. Front-first bytes m used front

pub returns-clause-stands : goal.returns-clause-stands
returns-clause-stands c = λ bytes m used h e. first_message-Front bytes m used h (sym e)
