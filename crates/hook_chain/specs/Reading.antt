-- A reader as a place in the file, and what one line does to it.
use Rattle.std.specs.Prelude.{ℕ, ◌≡◌, ◌||◌, Bool, true, false, IsTrue, List, map, Option, Some}
use Rattle.std.specs.Prelude.{None, is_some, Result, Ok, Err, IfSome, length, ◌<◌}
use Rattle.std.specs.Option.{option_map_or}
use Rattle.hook_chain.specs.declared.reading.Reader.{Reader}
use Rattle.text_lines.specs.declared.stop.Stop.{Stop}
use Rattle.text_lines.specs.declared.stop.Stop.TheVariants.{Refused, NoMemory}
use Rattle.hook_chain.specs.Rules.{IsTable, AreTables}
use Rattle.hook_chain.specs.Numbers.{most_tables}
use Rattle.hook_chain.specs.Line.{Says, Nothing, Opens, Policy, Adds, Closes, says}
use Rattle.hook_chain.specs.RulesFile.{Place}

abbrev pub place_of : Reader → Place
place_of r =
    record {
      names = map (λ name. name.now) r.names.items;
      closed = r.closed.items;
      inside = r.inside;
    }

-- whether a line that says this begins a table
abbrev pub opens : Says → Bool
opens Nothing = false
opens (Opens name) = true
opens Policy = false
opens (Adds rule) = false
opens Closes = false

-- whether a line begins a table
abbrev pub opens_table : List ℕ → Bool
opens_table line = option_map_or opens (says line) false

-- memory is taken to begin a table, and inside of one
abbrev pub takes_memory : Place → Option Says → Bool
takes_memory p said = is_some p.inside || option_map_or opens said false

-- A call that goes on to the next place, or says that there is none, unless memory runs out where
-- it is taken.
abbrev pub Moves : {A : Type 0} → Bool → Result A Stop → Option Place → Place → Type 0
Moves takes (Ok _) next new = next ≡ Some new
Moves takes (Err Refused) next new = next ≡ None
Moves takes (Err NoMemory) next new = IsTrue takes

-- The bounds that a reader keeps: those of the closed tables and of the open one, which has room
-- among them.
pub record IsSound (p : Place) : Type 0 where
  pub tables : AreTables p.closed
  pub table : IfSome p.inside IsTable
  pub room : IfSome p.inside (λ _. length p.closed < most_tables)
