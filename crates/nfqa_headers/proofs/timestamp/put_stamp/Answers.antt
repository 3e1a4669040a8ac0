use Rattle.std.proofs.Common.{◌≡◌, ℕ, List, ◌++◌, Some, subst}
use Rattle.netlink_codec.specs.Attributes.{attributes_text}
use Rattle.nfqa_headers.specs.Numbers.{timestamp_kind}
use Rattle.nfqa_headers.specs.AttributeWriting.{part}
use Rattle.nfqa_headers.proofs.timestamp.put_stamp.Goals as goal

pub returns-clause-text : goal.returns-clause-text
returns-clause-text c =
    let P : List ℕ → Type 0 =
    λ content. c.put_part.new.parts.items ≡ c.args.parts.now.items
    ++ attributes_text (part timestamp_kind (Some content)) in
    subst P c.stamp_of.ensures c.put_part.ensures.text
