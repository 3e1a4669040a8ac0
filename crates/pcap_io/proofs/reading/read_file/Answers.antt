use Rattle.std.proofs.Common.{arith, sym}
use Rattle.pcap_io.proofs.Header.{header_takes}
use Rattle.pcap_io.proofs.reading.read_file.Goals as goal

pub read_frames-requires-clause-header : goal.read_frames-requires-clause-header
read_frames-requires-clause-header c =
    (header_takes c.as_slice-bytes.result.now c.in_ok-capture.capture
    (λ i. omega (arith, c.type_inv.bytes i))
    (sym c.in_ok-capture.ensures)).whole

pub read_frames-requires-clause-whole : goal.read_frames-requires-clause-whole
read_frames-requires-clause-whole c =
    (header_takes c.as_slice-bytes.result.now c.in_ok-capture.capture
    (λ i. omega (arith, c.type_inv.bytes i))
    (sym c.in_ok-capture.ensures)).long
