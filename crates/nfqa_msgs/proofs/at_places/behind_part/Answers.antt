use Rattle.std.proofs.Common.{◌≡◌, ℕ, ◌++◌, List, Some}
use Rattle.std.specs.Borrow.{Bor}
use Rattle.netlink_codec.specs.Attributes.{attributes_text}
use Rattle.nfqa_headers.specs.AttributeWriting.{part}
use Rattle.nfqa_msgs.proofs.AtPlaces.{if_found, part_in_front}
use Rattle.nfqa_msgs.proofs.at_places.behind_part.Goals as goal

pub returns : goal.returns
returns c =
    let bytes : List ℕ = c.args.bytes.now in
    let left : List ℕ = c.in_ok-rest-2.rest.now in
    let zeros : List ℕ = c.zeros_behind.result.now in
    let content : List ℕ = c.args.content.now in
    if_found
    (λ (rest : Bor (List ℕ)). bytes ≡ attributes_text (part c.args.kind (Some content)) ++ rest.now)
    (λ (rest : Bor (List ℕ)). left ≡ zeros ++ rest.now) c.behind_text-3.result
    c.behind_text-3.ensures
    (λ rest three. part_in_front c.args.kind content bytes c.attr_header.result zeros
    c.in_ok-rest.rest.now left rest.now c.attr_header.ensures c.zeros_behind.ensures
    c.in_ok-rest.ensures c.in_ok-rest-2.ensures three)
