use Rattle.command_line.specs.Arguments.{call_of, call_of_words}
use Rattle.commands.proofs.Statuses.{at_a_stop, at_its_end, no_command, of_command}
use Rattle.commands.proofs.command.status_of_words.Goals as goal

pub returns-in_default-clause-answer : goal.returns-in_default-clause-answer
returns-in_default-clause-answer g c =
    no_command (call_of_words c.args.words.now) _ c.in_default.ensures.call
    c.print_usage.ensures.printed c.print_usage.ensures.files

pub returns-in-Ok-clause-answer : goal.returns-in-Ok-clause-answer
returns-in-Ok-clause-answer g c =
    of_command (call_of_words c.args.words.now) (call_of c.in-Some.command) _ _
    c.in-Some.ensures.call
    (at_its_end g.H.Host.tells g.H.Host.content g.H.Host.read_faults g.H.Host.write_faults
    c.args.host.now c.dispatch.new.host c.status_at_end.new.host c.in-Ok.ensures.later
    (call_of c.in-Some.command) c.in-Ok.found c.status_at_end.result c.in-Ok.ensures.finder
    c.in-Ok.ensures.ended c.in-Ok.ensures.found c.in-Ok.ensures.finds c.in-Ok.ensures.seen
    c.in-Ok.ensures.others c.status_at_end.ensures.told)

pub returns-in-Err-clause-answer : goal.returns-in-Err-clause-answer
returns-in-Err-clause-answer g c =
    of_command (call_of_words c.args.words.now) (call_of c.in-Some.command) _ _
    c.in-Some.ensures.call
    (at_a_stop g.H.Host.tells g.H.Host.content g.H.Host.read_faults g.H.Host.write_faults
    c.args.host.now c.dispatch.new.host c.status_of_stop.new.host c.in-Err.ensures.later
    (call_of c.in-Some.command) c.in-Err.stop c.status_of_stop.result c.in-Err.ensures.ended
    c.in-Err.ensures.untouched c.in-Err.ensures.others c.status_of_stop.ensures.told)
