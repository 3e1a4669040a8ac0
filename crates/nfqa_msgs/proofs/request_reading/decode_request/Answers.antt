use Rattle.std.proofs.Common.{◌∙◌, sym}
use Rattle.netlink_codec.specs.Messages.{message_of}
use Rattle.nfqa_msgs.proofs.AtPlaces.{decoded_as_spelled}
use Rattle.nfqa_msgs.proofs.request_reading.decode_request.Goals as goal

pub returns-in-Some-clause-value : goal.returns-in-Some-clause-value
returns-in-Some-clause-value c =
    sym (decoded_as_spelled (message_of c.args.message.now) c.in-Some.request c.in-Some.ensures.kind
    c.in-Some.ensures.flags c.in-Some.ensures.body
    ∙ c.spelling_decodes_to_its_request.ensures.request 0 0 c.in-Some.request c.numbers_fit.ensures)
