-- What a rule may pick, and the bounds of a rules file's tables.
use Rattle.std.specs.Prelude.{ℕ, ◌+◌, ◌^◌, ◌<◌, ◌≤◌, List, length, All, Result, Ok, Err}
use Rattle.hook_chain.specs.Numbers.{most_queues, most_rules, most_tables, most_feeders}
use Rattle.hook_chain.specs.declared.rule.Rule.{Rule}
use Rattle.hook_chain.specs.declared.rule.Pick.{Pick}
use Rattle.hook_chain.specs.declared.rule.Pick.TheVariants.{Number, Balance}

-- one queue, or two queues at least and most_queues at most, none past the last queue there is
abbrev pub IsPick : Pick → Type 0
IsPick (Number queue) = queue < 2 ^ 16
IsPick (Balance first total) = (2 ≤ total) × (total ≤ most_queues) × (first + total ≤ 2 ^ 16)

-- a table: not too many rules, each with queues that there are
pub record IsTable (rules : List Rule) : Type 0 where
  pub length : length rules ≤ most_rules
  pub picks : All (λ r. IsPick r.pick) rules

-- the tables of a file: not too many
pub record AreTables (tables : List (List Rule)) : Type 0 where
  pub length : length tables ≤ most_tables
  pub each : All IsTable tables

-- What packets are routed by: the rules of each table, and how many feeders take turns at feeding
-- the packets. A feeder stands for a processor.
pub record RuleTables : Type 0 where
  pub rules : List (List Rule)
  pub feeders : ℕ

pub record AreRuleTables (t : RuleTables) : Type 0 where
  pub tables : AreTables t.rules
  pub some : 1 ≤ t.feeders
  pub few : t.feeders ≤ most_feeders

-- a file says nothing of feeders: there is one
abbrev pub with_one_feeder : List (List Rule) → RuleTables
with_one_feeder rules = record { rules = rules; feeders = 1 }

abbrev pub for_one_feeder : {E : Type 0} → Result (List (List Rule)) E → Result RuleTables E
for_one_feeder (Ok rules) = Ok (with_one_feeder rules)
for_one_feeder (Err fault) = Err fault
