use Rattle.std.proofs.Common.{◌≡◌, ℕ, ◌-◌, ◌≤◌, List, length, arith}
use Rattle.std.specs.Borrow.{Bor}
use Rattle.netlink_codec.specs.Attributes.{attributes_text}
use Rattle.nfqa_msgs.specs.NoticeWriting.{padded_payload, payload_part}
use Rattle.nfqa_msgs.proofs.AtPlaces.{if_both, payload_in_front}
use Rattle.nfqa_msgs.proofs.at_places.payload_at.Goals as goal

pub returns-clause-text : goal.returns-clause-text
returns-clause-text c =
    let bytes : List ℕ = c.args.bytes.now in
    let left : List ℕ = c.in_ok-rest.rest.now in
    let count : ℕ = c.read_u16-end.result - 4 in
    let some : 1 ≤ count = omega arith in
    if_both (λ (payload : Bor (List ℕ)). bytes ≡ attributes_text (payload_part payload.now))
    (λ (payload : Bor (List ℕ)). length payload.now ≡ count)
    (λ (payload : Bor (List ℕ)). left ≡ padded_payload payload.now) c.padded_in.result
    c.padded_in.ensures.many c.padded_in.ensures.text
    (λ payload many text. payload_in_front payload.now bytes c.attr_header.result left count some
    many c.attr_header.ensures c.in_ok-rest.ensures text)
