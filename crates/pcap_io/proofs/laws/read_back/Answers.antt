use Rattle.std.proofs.Common.{refl}
use Rattle.pcap_io.specs.Text.{capture_text}
use Rattle.pcap_io.proofs.WholeFile.{one_capture}
use Rattle.pcap_io.proofs.laws.read_back.Goals as goal

pub returns-clause-only : goal.returns-clause-only
returns-clause-only c =
    λ capture other reads held fits. one_capture (capture_text capture) other capture reads
    (record { held = held; fits = fits; spelled = refl })
