use Rattle.netlink_codec.proofs.Framing.{first_message-text, length-message_text}
use Rattle.netlink_codec.proofs.laws.written_message_is_in_front.Goals as goal

pub returns-clause-reading : goal.returns-clause-reading
returns-clause-reading c =
    λ kind flags sequence port body behind fits. first_message-text kind flags sequence port body
    behind fits

pub returns-clause-size : goal.returns-clause-size
returns-clause-size c =
    λ kind flags sequence port body. length-message_text kind flags sequence port body
