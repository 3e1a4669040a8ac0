-- What a call of the reader answers on a line.
use Rattle.std.proofs.Common.{◌≡◌, Bool, true, false, Result, Ok, Err, ◌∙◌, refl}
use Rattle.std.proofs.Common.{sym, ap, subst}
use Rattle.std.proofs.Common.{ℕ, List, ◌++◌, codes, IfOk}
use Rattle.std.specs.Prelude.{◌≢◌, OnOk}
use Rattle.std.proofs.lemmas.Bool.{false≢true}
use Rattle.journal_reading.specs.declared.line.Line.{Line}
use Rattle.journal_reading.specs.declared.line.Line.TheVariants.{Heading, EntryLine, PortLine}
use Rattle.journal_reading.specs.declared.line.Line.TheVariants.{DidLine}
use Rattle.journal_reading.specs.declared.line.Line.TheVariants.{End}
use Rattle.text_lines.specs.declared.stop.Stop.{Stop}
use Rattle.text_lines.specs.declared.stop.Stop.TheVariants.{Refused, NoMemory}
use Rattle.text_lines.specs.Refusals.{Moves}
use Rattle.journal_reading.specs.JournalFile.{Follows, FollowsText, HasRead, IsSound, Place}
use Rattle.journal_reading.specs.JournalFile.{after, is_end, so_far}
use Rattle.journals.specs.declared.version.Version.{Version}
use Rattle.journal_reading.specs.Lines.{FitsLine, IsLine, line_text}
use Rattle.journal_reading.proofs.Growth.{grows}
use Rattle.journal_reading.proofs.ReaderInvariant.{stays_sound}

pub end_is : (l : Line) → is_end l ≡ true → l ≡ End
end_is Heading e = absurd (false≢true e)
end_is (EntryLine x) e = absurd (false≢true e)
end_is (PortLine p) e = absurd (false≢true e)
end_is (DidLine d) e = absurd (false≢true e)
end_is End e = refl

pub not_end : (l : Line) → is_end l ≡ false → l ≢ End
not_end l e same = false≢true (sym e ∙ ap is_end same)

pub followed : (stop : Stop) (p q : Place) (l : Line) → is_end l ≡ false →
    Moves {A = Unit {0}} {P = Place} (Err stop) (after p l) q → Follows (Err stop) p q l
followed Refused p q l e moves = (not_end l e, moves)
followed NoMemory p q l e moves = tt

-- ---- the same of a line's text

pub sound_by : (v : Version) (r : Result Bool Stop) (p q : Place) (l : Line) → IsSound v p →
    FitsLine v l →
    Follows r p q l → OnOk r (IsSound v q)
sound_by v (Ok true) p q l sound fits f = subst (IsSound v) (sym f.1) sound
sound_by v (Ok false) p q l sound fits f = stays_sound v p q l sound fits f
sound_by v (Err stop) p q l sound fits f = tt

pub more_by : (v : Version) (r : Result Bool Stop) (p q : Place) (l : Line) (line : List ℕ) →
    IsSound v p →
    line ≡ line_text v l → Follows r p q l → IfOk r (λ ended. HasRead v ended p q line)
more_by v (Ok true) p q l line sound e f = (e ∙ ap (line_text v) f.0, f.1)
more_by v (Ok false) p q l line sound e f =
    grows v p q l sound.bare f ∙ ap (λ z. so_far v p ++ (z ++ codes "\n")) (sym e)
more_by v (Err stop) p q l line sound e f = tt

pub text_by : (v : Version) (r : Result Bool Stop) (p q : Place) (l : Line) (line : List ℕ) →
    ((said : Line) → IsLine v line said → said ≡ l) → Follows r p q l → FollowsText v r p q line
text_by v r p q l line one f =
    λ said is. subst (λ (m : Line). Follows r p q m) (sym (one said is)) f
