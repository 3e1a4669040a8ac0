use Rattle.pcap_io.proofs.WholeFile.{value_or_fault as answer, never_both}
use Rattle.pcap_io.proofs.FaultKinds.{memory_apart}
use Rattle.pcap_io.proofs.laws.value_or_fault.Goals as goal

pub returns-clause-one : goal.returns-clause-one
returns-clause-one c = answer

pub returns-clause-of_the_text : goal.returns-clause-of_the_text
returns-clause-of_the_text c = memory_apart

pub returns-clause-never_both : goal.returns-clause-never_both
returns-clause-never_both c = never_both
