use Rattle.pcap_io.proofs.Answers.{gives_value, gives_fault}
use Rattle.pcap_io.proofs.reading.read_shared_capture.Goals as goal

pub returns-clause-only : goal.returns-clause-only
returns-clause-only c =
    gives_value c.args.file.now c.read_file.result c.read_file.ensures.found
    c.read_file.ensures.fault

pub returns-clause-exact : goal.returns-clause-exact
returns-clause-exact c =
    gives_fault c.args.file.now c.read_file.result c.read_file.ensures.found
    c.read_file.ensures.fault
