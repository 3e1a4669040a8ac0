use Rattle.std.proofs.Common.{rules}
use Rattle.pcap_io.proofs.Answers.{gives_value, gives_fault}
use Rattle.pcap_io.proofs.reading.read_capture.Goals as goal

pub returns-in_err-read_header-clause-only : goal.returns-in_err-read_header-clause-only
returns-in_err-read_header-clause-only c =
    gives_value c.args.bytes.now c.from_residual.result (search rules) (search rules)

pub returns-in_err-read_header-clause-exact : goal.returns-in_err-read_header-clause-exact
returns-in_err-read_header-clause-exact c =
    gives_fault c.args.bytes.now c.from_residual.result (search rules) (search rules)
