use Rattle.std.proofs.Common.{ℕ, ◌++◌, ◌∙◌, List, Some, ap}
use Rattle.netlink_codec.specs.Attributes.{attributes_text}
use Rattle.nfqa_headers.specs.AttributeWriting.{part}
use Rattle.nfqa_headers.specs.Numbers.{timestamp_kind}
use Rattle.nfqa_msgs.proofs.at_places.stamp_at.Goals as goal

pub returns : goal.returns
returns c =
    c.in_ok-rest.ensures
    ∙ ap (λ (content : List ℕ). attributes_text (part timestamp_kind (Some content))
    ++ c.in_ok-rest.rest.now) c.stamp_of.ensures
