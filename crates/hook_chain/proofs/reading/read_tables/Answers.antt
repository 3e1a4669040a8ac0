use Rattle.std.proofs.Common.{subst, sym, ◌∙◌}
use Rattle.std.specs.Prelude.{IfOk, IsOk}
use Rattle.std.specs.Str.Lines.{lines}
use Rattle.hook_chain.specs.RulesFile.{Answers, tables_of}
use Rattle.hook_chain.specs.Grammar.{IsRulesFile}
use Rattle.hook_chain.proofs.FeederForm.{read_one, stuck_one, exact_one, found_one, refused_one}
use Rattle.hook_chain.proofs.FeederForm.{memory_one, always_one}
use Rattle.hook_chain.proofs.TableLines.{some_begins}
use Rattle.hook_chain.proofs.reading.read_tables.Goals as goal

pub returns-clause-exact : goal.returns-clause-exact
returns-clause-exact c =
    subst (λ r. Answers r (tables_of c.args.bytes.now)) (sym c.for_one_feeder.ensures.read)
    (exact_one c.read_lines.result c.args.bytes.now c.read_lines.ensures.exact)

pub returns-clause-found : goal.returns-clause-found
returns-clause-found c =
    subst (λ r. IfOk r (IsRulesFile c.args.bytes.now)) (sym c.for_one_feeder.ensures.read)
    (found_one c.read_lines.result c.args.bytes.now c.read_lines.ensures.exact)

pub returns-clause-only : goal.returns-clause-only
returns-clause-only c =
    λ tables h. subst (Answers c.for_one_feeder.result) (read_one c.args.bytes.now tables h)
    (returns-clause-exact c)

pub returns-clause-refused : goal.returns-clause-refused
returns-clause-refused c =
    λ line e. refused_one c.read_lines.result c.args.bytes.now line c.read_lines.ensures.exact
    (sym c.for_one_feeder.ensures.read ∙ e)

pub returns-clause-stuck : goal.returns-clause-stuck
returns-clause-stuck c =
    λ line h. subst (Answers c.for_one_feeder.result) (stuck_one c.args.bytes.now line h)
    (returns-clause-exact c)

pub returns-clause-memory : goal.returns-clause-memory
returns-clause-memory c =
    λ e. memory_one c.read_lines.result c.args.bytes.now
    (λ f. some_begins (lines c.args.bytes.now) (c.read_lines.ensures.memory f))
    (sym c.for_one_feeder.ensures.read ∙ e)

pub returns-clause-without_tables : goal.returns-clause-without_tables
returns-clause-without_tables c =
    λ h. subst IsOk (sym c.for_one_feeder.ensures.read)
    (always_one c.read_lines.result c.args.bytes.now c.read_lines.ensures.exact
    (λ f. some_begins (lines c.args.bytes.now) (c.read_lines.ensures.memory f)) h)
