-- What lines say, one after the other, and the places of a reader between them.
use Rattle.std.proofs.Common.{◌≡◌, ℕ, List, [], ◌∷◌, ◌++◌, Some, sym, subst}
use Rattle.std.specs.List.{AllZip}
use Rattle.script_lines.specs.declared.line.Line.{Line}
use Rattle.script_lines.specs.Grammar.{Says}
use Rattle.inspector_script.specs.ScriptFile.{Place, after}
use Rattle.inspector_script.proofs.Leads.{Leads}

-- what these lines say is allowed, one after the other, from one place to another
abbrev pub Goes : Place → List Line → Place → Type 0
Goes p [] q = p ≡ q
Goes p (l ∷ ls) q = (next : Place) × (after p l ≡ Some next) × Goes next ls q

pub goes_append : (p q r : Place) (xs ys : List Line) → Goes p xs q → Goes q ys r →
    Goes p (xs ++ ys) r
goes_append p q r [] ys h g = subst (λ (s : Place). Goes s ys r) (sym h) g
goes_append p q r (x ∷ xs) ys h g = (h.0, h.1, goes_append h.0 q r xs ys h.2 g)

-- lines that lead on say something that goes on
pub say_of : (p q : Place) (ls : List (List ℕ)) → Leads p ls q →
    (said : List Line) × AllZip Says ls said × Goes p said q
say_of p q [] h = ([], tt, h)
say_of p q (line ∷ ls) h =
    let later = say_of h.1 q ls h.4 in
    (h.0 ∷ later.0, (h.2, later.1), (h.1, h.3, later.2))

-- and the other way round
pub leads_of_say : (p q : Place) (ls : List (List ℕ)) (said : List Line) → AllZip Says ls said →
    Goes p said q → Leads p ls q
leads_of_say p q [] [] h g = g
leads_of_say p q [] (s ∷ ss) h g = absurd h
leads_of_say p q (line ∷ ls) [] h g = absurd h
leads_of_say p q (line ∷ ls) (s ∷ ss) h g = (s, g.0, h.0, g.1, leads_of_say g.0 q ls ss h.1 g.2)
