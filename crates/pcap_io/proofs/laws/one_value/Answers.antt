use Rattle.pcap_io.proofs.WholeFile.{one_capture}
use Rattle.pcap_io.proofs.laws.one_value.Goals as goal

pub returns : goal.returns
returns c = one_capture
