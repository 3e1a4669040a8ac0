-- The asks of a port's end.
use Rattle.std.proofs.Common.{◌≡◌, ◌∙◌, ◌∷◌, [], List, ap, subst}
use Rattle.histories.specs.declared.log.AskWords.{AskWords}
use Rattle.script_lines.specs.declared.ask.Ask.{Ask}
use Rattle.script_lines.specs.declared.ask.Ask.TheVariants.{Close, Words}
use Rattle.port_scripts.specs.Words.{ClosesLast}

-- a closing is still the last ask behind words
pub last_on : (left rest : List Ask) (words : AskWords) → left ≡ Words words ∷ rest →
    ClosesLast left → ClosesLast rest
last_on left rest words steps are = subst (λ (l : List Ask). ClosesLast l) steps are

-- nothing stands behind a closing
pub close_last : (left rest : List Ask) (ask : Ask) → left ≡ ask ∷ rest → ask ≡ Close →
    ClosesLast left → left ≡ Close ∷ []
close_last left rest ask steps is are =
    let all : left ≡ Close ∷ rest = steps ∙ ap (λ (a : Ask). a ∷ rest) is in
    let none : rest ≡ [] = subst (λ (l : List Ask). ClosesLast l) all are in
    all ∙ ap (λ (l : List Ask). Close ∷ l) none
