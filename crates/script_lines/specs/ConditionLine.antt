-- A condition, by its words.
use Rattle.std.specs.Prelude.{ℕ, ◌^◌, ◌==◌, List, length, Option, Some, None, option_map}
use Rattle.std.specs.Prelude.{bytes_eq, codes, if◌then◌else◌}
use Rattle.text_lines.specs.Words.{◌>>=◌, byte, first_word, cut_at}
use Rattle.text_lines.specs.Digits.{decimal, decimal_below}
use Rattle.script_lines.specs.declared.condition.Condition.{Condition}
use Rattle.script_lines.specs.declared.condition.Condition.TheVariants.{Any, Id, Queue, Mark}
use Rattle.script_lines.specs.declared.condition.Condition.TheVariants.{Protocol, Every}
use Rattle.script_lines.specs.declared.condition.Condition.TheVariants.{Longer, Priority}

-- `VALUE/MASK`
unfoldable pub mark_of : List ℕ → Option Condition
mark_of word = do
  parts ← cut_at (byte "/") word
  value ← decimal parts.0
  mask ← decimal parts.1
  Some (Mark value mask)

-- `N`, at least 1
unfoldable pub every_of : List ℕ → Option Condition
every_of word = do
  number ← decimal word
  if number == 0 then None else Some (Every number)

-- the condition of this name and value
unfoldable pub test_of : List ℕ → List ℕ → Option Condition
test_of name value =
    if bytes_eq name (codes "id") then option_map Id (decimal value)
    else if bytes_eq name (codes "queue") then option_map Queue (decimal_below (2 ^ 16) value)
    else if bytes_eq name (codes "mark") then mark_of value
    else if bytes_eq name (codes "proto") then option_map Protocol (decimal_below (2 ^ 8) value)
    else if bytes_eq name (codes "every") then every_of value
    else if bytes_eq name (codes "longer") then option_map Longer (decimal value)
    else if bytes_eq name (codes "priority") then option_map Priority (decimal value)
    else None

-- `any` alone, or a name and a value
unfoldable pub condition_of : List (List ℕ) → Option Condition
condition_of words = do
  name ← first_word words
  if bytes_eq name.0 (codes "any") then (if length name.1 == 0 then Some Any else None)
      else (do
        value ← first_word name.1
        if length value.1 == 0 then test_of name.0 value.0 else None)
