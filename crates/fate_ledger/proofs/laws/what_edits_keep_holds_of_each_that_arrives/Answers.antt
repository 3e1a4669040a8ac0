use Rattle.std.proofs.Common.{◌≡◌, true}
use Rattle.fate_ledger.proofs.Origins.{all_arrive}
use Rattle.fate_ledger.proofs.laws.what_edits_keep_holds_of_each_that_arrives.Goals as goal

pub returns : goal.returns
returns c = λ tables key entered es lost test given kept all asked sound.
    all_arrive test (λ bytes. given bytes ≡ true) kept tables key entered es lost all asked sound
