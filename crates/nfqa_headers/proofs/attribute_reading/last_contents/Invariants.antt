use Rattle.std.proofs.Common.{◌≡◌, ◌≤◌, ℕ, length}
use Rattle.std.specs.Prelude.{option_map}
use Rattle.netlink_codec.specs.Attributes.{attributes}
use Rattle.nfqa_headers.specs.Numbers.{priority_kind}
use Rattle.nfqa_headers.specs.AttributeReading.{content_at, later, last_content}
use Rattle.nfqa_headers.proofs.attribute_reading.last_contents.Given as goal

-- of each kind the last content so far counts unless a later one stands in the rest
abbrev pub invariant-loop-attr : goal.invariant-loop-attr
invariant-loop-attr l =
    (length l.last ≡ 22)
    × ((kind : ℕ) → kind ≤ priority_kind →
    later (last_content kind l.attr-iterator)
    (option_map (λ content. content.now) (content_at l.last kind))
    ≡ last_content kind (attributes l.row))
