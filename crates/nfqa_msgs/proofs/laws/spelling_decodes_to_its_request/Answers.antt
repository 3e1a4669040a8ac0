use Rattle.std.proofs.Common.{◌≡◌, ℕ, ◌++◌, List, length, min, subst, arith, length-append}
use Rattle.netlink_codec.specs.Messages.{Front, pad}
use Rattle.nfqa_headers.specs.Kinds.{queue_kind}
use Rattle.nfqa_msgs.specs.RequestWriting.{spelling, spelled, request_body, number_for, flags_for}
use Rattle.nfqa_msgs.proofs.RequestRoundTrip.{spelled-decodes, spelled-fits, request_body-padded}
use Rattle.nfqa_msgs.proofs.laws.spelling_decodes_to_its_request.Goals as goal

pub returns-clause-front : goal.returns-clause-front
unfolding spelling
returns-clause-front c =
    λ port call request behind p q fits.
    let text : List ℕ = spelling port call request in
    let size =
    c.written_message_is_in_front.ensures.size (queue_kind (number_for request))
    (flags_for request) call port (request_body request) in
    let padded = request_body-padded c.written_attributes_are_walked.ensures.size request in
    let uses : min (pad (length text)) (length (text ++ behind)) ≡ length text =
    omega (arith, length-append text behind) in
    subst (λ (used : ℕ). Front (text ++ behind) (spelled port call request) used) uses
    (c.written_message_is_in_front.ensures.front (queue_kind (number_for request))
    (flags_for request) call port (request_body request) behind
    (spelled-fits c.written_attributes_are_walked.ensures.size port call request p q fits))

pub returns-clause-request : goal.returns-clause-request
returns-clause-request c =
    λ port call request fits. spelled-decodes (λ row
    all. c.written_attributes_are_walked.ensures.row row all) port call request fits
