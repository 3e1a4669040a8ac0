use Rattle.fate_ledger.proofs.DistinctVisits.{are_apart}
use Rattle.fate_ledger.proofs.laws.no_visit_arrives_twice.Goals as goal

pub returns : goal.returns
returns c = λ tables key entered es lost differ sound.
    are_apart tables key c.each_stay_ends_once.ensures entered es lost differ sound
