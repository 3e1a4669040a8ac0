use Rattle.std.proofs.Common.{arith}
use Rattle.nfqa_headers.specs.Numbers.{config_number, command_kind, params_kind, flags_kind}
use Rattle.nfqa_headers.specs.Numbers.{mask_kind, maxlen_kind}
use Rattle.nfqa_headers.specs.Headers.{command_length, params_length, value_length}
use Rattle.nfqa_msgs.proofs.ContentLengths.{found-long, found-some}
use Rattle.nfqa_msgs.proofs.request_reading.config_of.Goals as goal

pub map-requires : goal.map-requires
map-requires c x is =
    let long = c.last_contents-contents.ensures.long config_number command_kind c.requires in
    found-some command_length _ _ x is c.content_of.ensures (long (omega arith))

pub map-requires-2 : goal.map-requires-2
map-requires-2 c x is =
    let long = c.last_contents-contents.ensures.long config_number params_kind c.requires in
    found-some params_length _ _ x is c.content_of-2.ensures (long (omega arith))

pub read_value-requires : goal.read_value-requires
read_value-requires c =
    let long = c.last_contents-contents.ensures.long config_number maxlen_kind c.requires in
    found-long value_length _ _ c.content_of-3.ensures (long (omega arith))

pub read_value-requires-2 : goal.read_value-requires-2
read_value-requires-2 c =
    let long = c.last_contents-contents.ensures.long config_number flags_kind c.requires in
    found-long value_length _ _ c.content_of-4.ensures (long (omega arith))

pub read_value-requires-3 : goal.read_value-requires-3
read_value-requires-3 c =
    let long = c.last_contents-contents.ensures.long config_number mask_kind c.requires in
    found-long value_length _ _ c.content_of-5.ensures (long (omega arith))
