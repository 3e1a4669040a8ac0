-- Whether closings are asked for.
use Rattle.std.specs.Prelude.{◌≡◌, List, [], ◌∷◌}
use Rattle.script_lines.specs.declared.ask.Ask.{Ask}
use Rattle.script_lines.specs.declared.ask.Ask.TheVariants.{Words, Close}

-- no closing is asked for
abbrev pub AreWords : List Ask → Type 0
AreWords [] = Unit {0}
AreWords (Words words ∷ asks) = AreWords asks
AreWords (Close ∷ asks) = ⊥

-- nothing is asked for behind a closing
abbrev pub ClosesLast : List Ask → Type 0
ClosesLast [] = Unit {0}
ClosesLast (Words words ∷ asks) = ClosesLast asks
ClosesLast (Close ∷ asks) = asks ≡ []
