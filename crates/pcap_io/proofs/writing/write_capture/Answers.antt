use Rattle.std.proofs.Common.{arith}
use Rattle.pcap_io.proofs.Room.{length-capture}
use Rattle.pcap_io.proofs.writing.write_capture.Goals as goal

pub put_header-requires : goal.put_header-requires
put_header-requires c =
    omega (
      arith,
      c.in_ok-reserve.ensures.ok,
      c.reserve.ensures.len,
      c.in-Some.ensures.counted,
      length-capture c.args.capture.now,
    )
