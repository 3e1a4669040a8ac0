-- Texts that are defined line by line, each as its lines, one behind the other.
use Rattle.std.proofs.Common.{◌≡◌, List, [], ◌∷◌, ◌++◌, refl, ap}
use Rattle.std.specs.List.{flat_map}
use Rattle.histories.specs.declared.entry.Entry.{Entry}
use Rattle.histories.specs.declared.log.Did.{Did}
use Rattle.journals.specs.Journal as journal
use Rattle.fate_ledger.specs.declared.fate.FateLine.{FateLine}
use Rattle.fate_ledger.specs.Ledger as ledger

pub entries_by_line : (es : List Entry) → flat_map journal.entry es ≡ journal.entries es
entries_by_line [] = refl
entries_by_line (e ∷ es) = ap (λ t. journal.entry e ++ t) (entries_by_line es)

pub dids_by_line : (ds : List Did) → flat_map journal.did ds ≡ journal.dids ds
dids_by_line [] = refl
dids_by_line (d ∷ ds) = ap (λ t. journal.did d ++ t) (dids_by_line ds)

pub ledger_by_line : (ls : List FateLine) → flat_map ledger.line ls ≡ ledger.lines ls
ledger_by_line [] = refl
ledger_by_line (l ∷ ls) = ap (λ t. ledger.line l ++ t) (ledger_by_line ls)
