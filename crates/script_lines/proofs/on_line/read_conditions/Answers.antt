use Rattle.std.specs.Prelude.{codes}
use Rattle.text_lines.specs.Words.{words_of}
use Rattle.script_lines.specs.ConditionLine.{condition_of}
use Rattle.script_lines.proofs.LineParts.{ends, goes_on, last_refused, refused}
use Rattle.script_lines.proofs.on_line.read_conditions.Goals as goal

pub returns-in_default-read_condition-clause-value :
    goal.returns-in_default-read_condition-clause-value
returns-in_default-read_condition-clause-value c =
    refused condition_of (codes "and") (words_of c.args.line.now) (words_of c.loop-part.rest.now)
    (words_of c.in-Some.part.now) (words_of c.in-Some.later.now) c.loop-part.conditions.items
    c.loop-part.invariant c.in-Some.ensures.words c.in_default-read_condition.ensures

pub loop-part-preserved : goal.loop-part-preserved
loop-part-preserved c =
    rw c.in_ok-push.ensures.items
    (goes_on condition_of (codes "and") (words_of c.args.line.now) (words_of c.loop-part.rest.now)
    (words_of c.in-Some.part.now) (words_of c.in-Some.later.now) c.loop-part.conditions.items
    c.in-Some-read_condition.condition
    c.loop-part.invariant c.in-Some.ensures.words c.in-Some-read_condition.ensures)

pub returns-in_default-read_condition-2-clause-value :
    goal.returns-in_default-read_condition-2-clause-value
returns-in_default-read_condition-2-clause-value c =
    last_refused condition_of (codes "and") (words_of c.args.line.now)
    (words_of c.loop-part.rest.now) c.loop-part.conditions.items
    c.loop-part.invariant c.in_default.ensures.words c.in_default-read_condition-2.ensures

pub returns-clause-value : goal.returns-clause-value
returns-clause-value c =
    rw c.in_ok-push-2.ensures.items
    (ends condition_of (codes "and") (words_of c.args.line.now)
    (words_of c.loop-part.rest.now) c.loop-part.conditions.items
    c.in-Some-read_condition-2.condition c.loop-part.invariant
    c.in_default.ensures.words c.in-Some-read_condition-2.ensures)
