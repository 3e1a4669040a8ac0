use Rattle.std.proofs.Common.{refl}
use Rattle.command_line.specs.Arguments.{live_call_of_words, live_files_of, Lives}
use Rattle.commands.specs.Ending.{span}
use Rattle.commands.proofs.Statuses.{at_a_stop, at_its_end_alone, no_command, of_command}
use Rattle.commands.proofs.live_run.live_status.Goals as goal

pub returns-in_default-clause-answer : goal.returns-in_default-clause-answer
returns-in_default-clause-answer g c =
    no_command (live_call_of_words c.args.words.now) _ c.in_default.ensures.call
    c.print_usage.ensures.printed c.print_usage.ensures.files

pub returns-in-Ok-clause-answer : goal.returns-in-Ok-clause-answer
returns-in-Ok-clause-answer g c =
    of_command (live_call_of_words c.args.words.now) (Lives (live_files_of c.in-Some.command)) _ _
    c.in-Some.ensures.call
    (at_its_end_alone (live_files_of c.in-Some.command)
    (span g.H.Host.tells g.H.Host.content g.H.Host.read_faults
    g.H.Host.write_faults c.args.host.now c.live_files.new.host)
    0 refl c.in-Ok.ensures.ended c.in-Ok.ensures.others)

pub returns-in-Err-clause-answer : goal.returns-in-Err-clause-answer
returns-in-Err-clause-answer g c =
    of_command (live_call_of_words c.args.words.now) (Lives (live_files_of c.in-Some.command)) _ _
    c.in-Some.ensures.call
    (at_a_stop g.H.Host.tells g.H.Host.content g.H.Host.read_faults g.H.Host.write_faults
    c.args.host.now c.live_files.new.host c.status_of_stop.new.host c.in-Err.ensures.later
    (Lives (live_files_of c.in-Some.command)) c.in-Err.stop c.status_of_stop.result
    c.in-Err.ensures.ended c.in-Err.ensures.untouched c.in-Err.ensures.others
    c.status_of_stop.ensures.told)
