-- What a board shows of a place: totals of beginnings of its list.
use Rattle.std.specs.Prelude.{◌≡◌, List, [], ◌∷◌, length, map}
use mathlib.Core.List.{IsPrefix}
use Rattle.glance.specs.declared.totals.Totals.{Totals}
use Rattle.glance.specs.Words.{FitOneWord}
use Rattle.glance.specs.Views.{latest}
use Rattle.histories.specs.declared.entry.Entry.{Entry}
use Rattle.histories.specs.States.{waiting_in_all}

-- how many entries there are, and how many packets wait after them
abbrev pub totals_after : List Entry → Totals
totals_after es = record { events = length es; waiting = waiting_in_all es }

-- each of these lists begins with the one before it, and the whole with the last
abbrev pub Grow : List Entry → List (List Entry) → List Entry → Type 0
Grow before [] whole = IsPrefix before whole
Grow before (front ∷ fronts) whole = IsPrefix before front × Grow front fronts whole

-- The totals published are those of beginnings of the list, none shorter than the one before it;
-- the last are those of the whole list, where these fit one word.
pub record IsShown (es : List Entry) (published : List Totals) : Type 0 where
  pub fronts : List (List Entry)
  pub totals : published ≡ map totals_after fronts
  pub grow : Grow [] fronts es
  pub last : FitOneWord (totals_after es) → latest published ≡ totals_after es
