use Rattle.std.proofs.Common.{◌≡◌}
use Rattle.std.specs.List.{list_any}
use Rattle.netlink_codec.specs.Attributes.{attributes}
use Rattle.nfqa_headers.specs.AttributeReading.{is_short}
use Rattle.nfqa_headers.proofs.attribute_reading.has_short.Given as goal

-- the attributes so far are long enough
abbrev pub invariant-loop-attr : goal.invariant-loop-attr
invariant-loop-attr l =
    list_any (is_short l.number) l.attr-iterator ≡ list_any (is_short l.number) (attributes l.row)
