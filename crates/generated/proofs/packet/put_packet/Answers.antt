use Rattle.std.proofs.Common.{◌∙◌}
use Rattle.generated.proofs.Lengths.{put_so}
use Rattle.generated.proofs.packet.put_packet.Goals as goal

pub returns : goal.returns
returns c =
    put_so c.args.word c.from.result _ _ _ _ c.header.ensures
    (c.from.ensures ∙ c.payload_length.ensures.value) c.in_ok-extend_from_slice.ensures.items
    c.in_ok-extend_from_slice-2.ensures.items
