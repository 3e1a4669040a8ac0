use Rattle.fate_ledger.proofs.Payloads.{stays_so}
use Rattle.fate_ledger.proofs.laws.what_holds_of_packets_stays_so.Goals as goal

pub returns : goal.returns
returns c = λ tables key entered es lost test given all short sound.
    stays_so test given tables key entered es lost all short sound
