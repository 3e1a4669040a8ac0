-- Where a line begins a table, and that a file without tables has no such line.
use Rattle.std.proofs.Common.{◌≡◌, ℕ, true, false, List, [], ◌∷◌, ◌++◌, length, Option, Some}
use Rattle.std.proofs.Common.{None, Result, Ok, Err, refl, sym, ap, ◌∙◌, arith}
use Rattle.std.specs.Prelude.{Any, IsOk, flat_map}
use Rattle.std.specs.List.{list_any}
use Rattle.std.specs.Option.{option_map_or}
use Rattle.std.specs.Str.Lines.{lines}
use Rattle.std.proofs.lemmas.Bool.{false≢true}
use Rattle.std.proofs.lemmas.List.Elements.{All-same, All-contains}
use Rattle.std.proofs.lemmas.List.Folds.{Any-from_list_any}
use Rattle.hook_chain.specs.declared.rule.Rule.{Rule}
use Rattle.text_lines.specs.declared.fault.LineFault.{LineFault}
use Rattle.text_lines.specs.declared.fault.LineFault.TheVariants.{Bad, NoMemory}
use Rattle.hook_chain.specs.Line.{Says, Nothing, Opens, Policy, Adds, Closes, says}
use Rattle.hook_chain.specs.Reading.{opens, opens_table}
use Rattle.hook_chain.specs.RulesFile.{Answers, rules_of}
use Rattle.hook_chain.specs.Grammar.{IsLine, BeginsTable, AreSilent, Block, lines_of, IsFileOf}
use Rattle.hook_chain.proofs.LineForm.{says_some, says_again}
use Rattle.hook_chain.proofs.Leads.{two_answers}
use Rattle.hook_chain.proofs.Blocks.{tables_in}
use Rattle.hook_chain.proofs.FileForm.{file_read}

begins_by : (line : List ℕ) (said : Says) → says line ≡ Some said → opens said ≡ true →
    BeginsTable line
begins_by line Nothing e is = absurd (false≢true is)
begins_by line (Opens name) e is = (name, says_some line (Opens name) e)
begins_by line Policy e is = absurd (false≢true is)
begins_by line (Adds rule) e is = absurd (false≢true is)
begins_by line Closes e is = absurd (false≢true is)

begins : (line : List ℕ) → opens_table line ≡ true → BeginsTable line
begins line is =
    let Means : Option Says → Type 0 =
    λ o. says line ≡ o → option_map_or opens o false ≡ true → BeginsTable line in
    elim (says line) as Means [
      | None ↦ λ e f. absurd (false≢true f)
      | Some said ↦ λ e f. begins_by line said e f
    ] refl is

-- a list with a line that begins a table
pub some_begins : (ls : List (List ℕ)) → list_any opens_table ls ≡ true → Any BeginsTable ls
some_begins ls h =
    let found =
    Any-from_list_any opens_table ls h in
    (found.0, found.1, found.2, found.3, begins found.1 found.4)

two_sayings : (name : List ℕ) → ◌≡◌ {A = Option Says} (Some Nothing) (Some (Opens name)) → ⊥
two_sayings name e = cc

silent_begins : (line : List ℕ) → IsLine line Nothing → BeginsTable line → ⊥
silent_begins line is h =
    two_sayings h.0 (sym (says_again line Nothing is) ∙ says_again line (Opens h.0) h.1)

some_tables : (b : Block) (bs : List Block) → ◌≡◌ {A = List (List Rule)} [] (tables_in (b ∷ bs)) → ⊥
some_tables b bs e =
    let never : length {A = List Rule} [] ≡ length (tables_in (b ∷ bs)) = ap length e in omega arith

no_blocks : (ls last : List (List ℕ)) (blocks : List Block) →
    ls ≡ flat_map lines_of blocks ++ last → [] ≡ tables_in blocks → AreSilent last → AreSilent ls
no_blocks ls last [] e none silent = All-same (λ l. IsLine l Nothing) ls last e silent
no_blocks ls last (b ∷ bs) e none silent = absurd (some_tables b bs none)

-- a file without tables has no line that begins one
none_begins : (text : List ℕ) → IsFileOf text [] → Any BeginsTable (lines text) → ⊥
none_begins text h found =
    let silent = no_blocks (lines text) h.last h.blocks h.lines_are h.tables_are h.last_are in
    silent_begins found.1 (All-contains (λ l. IsLine l Nothing) (lines text) found.1 silent
    (found.0, found.2, found.3)) found.4

-- memory never runs out of a file without tables
pub always_read : (r : Result (List (List Rule)) LineFault) (text : List ℕ) →
    Answers r (rules_of text) → (r ≡ Err NoMemory → Any BeginsTable (lines text)) →
    IsFileOf text [] → IsOk r
always_read (Ok tables) text a m h = refl
always_read (Err (Bad line)) text a m h =
    absurd (two_answers [] line (sym (file_read text [] h) ∙ a))
always_read (Err NoMemory) text a m h = absurd (none_begins text h (m refl))
