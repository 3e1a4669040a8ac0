-- A rules file: which lines may follow which, the tables that they make, and the first line that
-- may not.
use Rattle.std.specs.Prelude.{ℕ, ◌≡◌, ◌+◌, ◌&&◌, not, nat_lt, is_none, Bool, List, [], ◌∷◌, ◌++◌}
use Rattle.std.specs.Prelude.{length, Option, Some, None, Result, Ok, Err, bytes_eq, ⊤}
use Rattle.std.specs.Prelude.{if◌then◌else◌}
use Rattle.std.specs.List.{list_any}
use Rattle.std.specs.Option.{option_map_or}
use Rattle.std.specs.Str.Lines.{lines}
use Rattle.hook_chain.specs.declared.rule.Rule.{Rule}
use Rattle.text_lines.specs.declared.fault.LineFault.{LineFault}
use Rattle.text_lines.specs.declared.fault.LineFault.TheVariants.{Bad, NoMemory}
use Rattle.hook_chain.specs.Numbers.{most_tables, most_rules}
use Rattle.text_lines.specs.Words.{◌>>=◌}
use Rattle.hook_chain.specs.Rules.{RuleTables, for_one_feeder}
use Rattle.hook_chain.specs.Line.{Says, Nothing, Opens, Policy, Adds, Closes, says}

-- Where a reader stands: the names of the tables that were opened, the tables that were closed, and
-- the rules so far of the open table, if it stands inside one.
pub record Place : Type 0 where
  pub names : List (List ℕ)
  pub closed : List (List Rule)
  pub inside : Option (List Rule)

-- at the beginning of a file
abbrev pub start : Place
start = record { names = []; closed = []; inside = None }

-- a table may be opened outside of tables, under a new name, if they aren't too many
abbrev pub may_open : Place → List ℕ → Bool
may_open p name =
    is_none p.inside && nat_lt (length p.closed) most_tables
    && not (list_any (λ known. bytes_eq known name) p.names)

-- The place after a line that says this; none where it may not stand here. A table's policies have
-- no effect.
unfoldable pub after : Place → Says → Option Place
after p Nothing = Some p
after p (Opens name) =
    if may_open p name then Some (record p { names = p.names ++ name ∷ []; inside = Some [] })
    else None
after p Policy = if is_none p.inside then None else Some p
after p (Adds rule) =
    p.inside >>= λ rules. if nat_lt (length rules) most_rules
    then Some (record p { inside = Some (rules ++ rule ∷ []) }) else None
after p Closes =
    p.inside >>= λ rules. Some (record p { closed = p.closed ++ rules ∷ []; inside = None })

-- where a line leads from a place; none where no form allows it here
abbrev pub line_leads_to : Place → List ℕ → Option Place
line_leads_to p line = says line >>= after p

-- The tables that these lines make from a place on, or the number of the first line that no form
-- allows in its place; `line_number` is the first line's. A file that ends inside a table is
-- refused after its last line.
unfoldable pub tables_from : ℕ → Place → List (List ℕ) → Result (List (List Rule)) ℕ
tables_from line_number p [] = if is_none p.inside then Ok p.closed else Err line_number
tables_from line_number p (line ∷ rest) =
    option_map_or (λ q. tables_from (line_number + 1) q rest) (line_leads_to p line)
    (Err line_number)

-- The rules of a text, or its first line that is refused. Lines are ended by LF, which may be
-- missing at the end; one CR before LF is dropped.
unfoldable pub rules_of : List ℕ → Result (List (List Rule)) ℕ
rules_of text = tables_from 1 start (lines text)

-- its tables, with one feeder
abbrev pub tables_of : List ℕ → Result RuleTables ℕ
tables_of text = for_one_feeder (rules_of text)

-- what a reader answers, unless memory runs out
abbrev pub Answers : {T : Type 0} → Result T LineFault → Result T ℕ → Type 0
Answers (Ok tables) read = read ≡ Ok tables
Answers (Err (Bad line)) read = read ≡ Err line
Answers (Err NoMemory) read = ⊤
