use Rattle.pcap_io.proofs.WholeFile.{one_fault as same_fault}
use Rattle.pcap_io.proofs.laws.one_fault.Goals as goal

pub returns : goal.returns
returns c = same_fault
