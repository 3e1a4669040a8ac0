use Rattle.std.proofs.Common.{arith}
use Rattle.nfqa_headers.specs.Numbers.{batch_number, mark_kind, verdict_header_kind}
use Rattle.nfqa_headers.specs.Numbers.{priority_kind}
use Rattle.nfqa_headers.specs.Headers.{value_length, verdict_header_length}
use Rattle.nfqa_msgs.proofs.ContentLengths.{found-long, found-some}
use Rattle.nfqa_msgs.proofs.request_reading.batch_of.Goals as goal

pub map-requires : goal.map-requires
map-requires c x is =
    let long = c.last_contents-contents.ensures.long batch_number verdict_header_kind c.requires in
    found-some verdict_header_length _ _ x is c.content_of.ensures (long (omega arith))

pub read_value-requires : goal.read_value-requires
read_value-requires c =
    let long = c.last_contents-contents.ensures.long batch_number mark_kind c.requires in
    found-long value_length _ _ c.content_of-2.ensures (long (omega arith))

pub read_value-requires-2 : goal.read_value-requires-2
read_value-requires-2 c =
    let long = c.last_contents-contents.ensures.long batch_number priority_kind c.requires in
    found-long value_length _ _ c.content_of-3.ensures (long (omega arith))
