-- The grammar of a rules file: what is written, production by production, as iptables-save(8)
-- writes it and iptables(8) and iptables-extensions(8) name its parts. The square brackets of these
-- comments say that a part may be missing. Nothing here reads: a production says which words stand
-- for a value.
use Rattle.std.specs.Prelude.{ℕ, ◌≡◌, ◌≢◌, ◌≤◌, ◌⊎◌, Bool, true, false, IsTrue, List, [], ◌∷◌}
use Rattle.std.specs.Prelude.{◌++◌, length, map, flat_map, All, AllPairs, Option, Some, None, codes, ⊤}
use Rattle.std.specs.List.{list_all}
use Rattle.std.specs.Str.Lines.{lines}
use Rattle.hook_chain.specs.declared.rule.Rule.{Rule}
use Rattle.hook_chain.specs.declared.rule.MarkTest.{MarkTest}
use Rattle.hook_chain.specs.declared.rule.Pick.{Pick}
use Rattle.hook_chain.specs.declared.rule.Pick.TheVariants.{Number, Balance}
use Rattle.hook_chain.specs.Rules.{RuleTables}
use Rattle.hook_chain.specs.Numbers.{most_tables, most_rules}
use Rattle.text_lines.specs.Refusals as refusals
use Rattle.text_lines.specs.Words.{IsPassedOver, is_printable, words_of}
use Rattle.hook_chain.specs.RuleLine.{protocol_of, value_and_mask, pick_of}
use Rattle.hook_chain.specs.Line.{Says, Nothing, Opens, Policy, Adds, Closes, is_table_name}
use Rattle.hook_chain.specs.Line.{is_chain_name, is_counters}

-- [-p PROTO]
abbrev pub IsProtocolMatch : List (List ℕ) → Option ℕ → Type 0
IsProtocolMatch words None = words ≡ []
IsProtocolMatch words (Some protocol) =
    (word : List ℕ) × (words ≡ codes "-p" ∷ word ∷ []) × (protocol_of word ≡ Some protocol)

-- [!]
abbrev pub negation : Bool → List (List ℕ)
negation true = codes "!" ∷ []
negation false = []

-- [-m mark [!] --mark VALUE[/MASK]]
abbrev pub IsMarkMatch : List (List ℕ) → Option MarkTest → Type 0
IsMarkMatch words None = words ≡ []
IsMarkMatch words (Some test) =
    (word : List ℕ) × (words ≡ codes "-m" ∷ codes "mark"
    ∷ (negation test.negated ++ codes "--mark" ∷ word ∷ []))
    × (value_and_mask word ≡ Some (test.value, test.mask))

-- [--queue-num N] or [--queue-balance A:B]; without both the queue is 0
abbrev pub IsPickOption : List (List ℕ) → Pick → Type 0
IsPickOption [] pick = pick ≡ Number 0
IsPickOption (option ∷ []) pick = ⊥
IsPickOption (option ∷ value ∷ []) pick = pick_of option value ≡ Some pick
IsPickOption (option ∷ value ∷ more ∷ words) pick = ⊥

-- the option that picks the queue and [--queue-bypass], in either order
abbrev pub AreQueueOptions : List (List ℕ) → Pick → Bool → Type 0
AreQueueOptions words pick false = IsPickOption words pick
AreQueueOptions words pick true =
    (other : List (List ℕ)) × IsPickOption other pick
    × ((words ≡ codes "--queue-bypass" ∷ other) ⊎ (words ≡ other ++ codes "--queue-bypass" ∷ []))

abbrev pub IsBalance : Pick → Type 0
IsBalance (Number queue) = ⊥
IsBalance (Balance first total) = ⊤

-- --queue-cpu-fanout before, between or after these options, of which one is --queue-balance A:B:
-- the words before it are options, and so are these and those after it together
pub record IsFannedOut (words : List (List ℕ)) (pick : Pick) (bypass : Bool) : Type 0 where
  pub before : List (List ℕ)
  pub after : List (List ℕ)
  pub words_are : words ≡ before ++ codes "--queue-cpu-fanout" ∷ after
  pub options_before : (p : Pick) × (b : Bool) × AreQueueOptions before p b
  pub options : AreQueueOptions (before ++ after) pick bypass
  pub balance : IsBalance pick

-- the options in any order
abbrev pub AreOptions : List (List ℕ) → Pick → Bool → Bool → Type 0
AreOptions words pick bypass false = AreQueueOptions words pick bypass
AreOptions words pick bypass true = IsFannedOut words pick bypass

-- -A FORWARD MATCHES -j NFQUEUE OPTIONS
pub record IsRuleLine (words : List (List ℕ)) (r : Rule) : Type 0 where
  pub protocol : List (List ℕ)
  pub mark : List (List ℕ)
  pub options : List (List ℕ)
  pub protocol_is : IsProtocolMatch protocol r.protocol
  pub mark_is : IsMarkMatch mark r.mark
  pub options_are : AreOptions options r.pick r.bypass r.fanout
  pub line : words ≡ codes "-A" ∷ codes "FORWARD"
      ∷ (protocol ++ (mark ++ codes "-j" ∷ codes "NFQUEUE" ∷ options))

-- An empty line or a comment; *NAME; :NAME ACCEPT [N:N], where the brackets are written; a rule;
-- COMMIT.
abbrev pub IsForm : List (List ℕ) → Says → Type 0
IsForm words Nothing = IsPassedOver words
IsForm words (Opens name) = (words ≡ (codes "*" ++ name) ∷ []) × (is_table_name name ≡ true)
IsForm words Policy =
    (chain : List ℕ) × (counters : List ℕ)
    × (words ≡ (codes ":" ++ chain) ∷ codes "ACCEPT" ∷ counters ∷ [])
    × (is_chain_name chain ≡ true) × (is_counters counters ≡ true)
IsForm words (Adds rule) = IsRuleLine words rule
IsForm words Closes = words ≡ codes "COMMIT" ∷ []

-- a line of printable bytes and tabs, whose words have this form
abbrev pub IsLine : List ℕ → Says → Type 0
IsLine line said = IsTrue (list_all is_printable line) × IsForm (words_of line) said

-- a line that begins a table
abbrev pub BeginsTable : List ℕ → Type 0
BeginsTable line = (name : List ℕ) × IsLine line (Opens name)

-- lines that say nothing
abbrev pub AreSilent : List (List ℕ) → Type 0
AreSilent silent = All (λ line. IsLine line Nothing) silent

-- a line inside of a table: it says nothing, or is a policy, which has no effect, or is one rule
abbrev pub IsTableLine : List ℕ → List Rule → Type 0
IsTableLine line [] = IsLine line Nothing ⊎ IsLine line Policy
IsTableLine line (rule ∷ []) = IsLine line (Adds rule)
IsTableLine line (rule ∷ other ∷ rules) = ⊥

-- the lines inside of a table, and its rules in their order
abbrev pub AreTableLines : List (List ℕ) → List Rule → Type 0
AreTableLines [] rules = rules ≡ []
AreTableLines (line ∷ more) rules =
    (own : List Rule) × (others : List Rule) × IsTableLine line own × AreTableLines more others
    × (rules ≡ own ++ others)

-- A table as it is written: lines that say nothing, the line of its name, its lines, and the line
-- that ends it.
pub record Block : Type 0 where
  pub silent : List (List ℕ)
  pub opening : List ℕ
  pub inside : List (List ℕ)
  pub closing : List ℕ
  pub name : List ℕ
  pub rules : List Rule

abbrev pub lines_of : Block → List (List ℕ)
lines_of b = b.silent ++ b.opening ∷ (b.inside ++ b.closing ∷ [])

pub record IsBlock (b : Block) : Type 0 where
  pub silent : AreSilent b.silent
  pub opening : IsLine b.opening (Opens b.name)
  pub inside : AreTableLines b.inside b.rules
  pub closing : IsLine b.closing Closes

-- The lines of a rules file of these tables: blocks, one a table, and lines that say nothing. Of
-- the whole it holds that the tables aren't too many, nor the rules of any, and that the names
-- differ.
pub record AreFileLines (text_lines : List (List ℕ)) (tables : List (List Rule)) : Type 0 where
  pub blocks : List Block
  pub last : List (List ℕ)
  pub lines_are : text_lines ≡ flat_map lines_of blocks ++ last
  pub blocks_are : All IsBlock blocks
  pub last_are : AreSilent last
  pub tables_are : tables ≡ map (λ b. b.rules) blocks
  pub few_tables : length blocks ≤ most_tables
  pub few_rules : All (λ b. length b.rules ≤ most_rules) blocks
  pub names_differ : AllPairs (λ a b. a ≢ b) (map (λ b. b.name) blocks)

-- a file of these rules, table by table
abbrev pub IsFileOf : List ℕ → List (List Rule) → Type 0
IsFileOf text rules = AreFileLines (lines text) rules

-- a rules file of these tables; it says nothing of feeders, so that there is one
abbrev pub IsRulesFile : List ℕ → RuleTables → Type 0
IsRulesFile text tables = IsFileOf text tables.rules × (tables.feeders ≡ 1)

-- The number of the first line that is refused: the lines before it begin a rules file, and with it
-- they don't. Or the number of the one that is missing after the last, where the text ends inside
-- of a table.
abbrev pub IsFirstRefused : List ℕ → ℕ → Type 0
IsFirstRefused text line_number = refusals.IsFirstRefused AreFileLines text line_number
