use Rattle.std.proofs.Common.{◌≡◌, ◌∙◌, ap, Err, inl, inr, refl, sym}
use Rattle.command_line.specs.Arguments.{call_of_arguments, call_of_words, live_call_of_words}
use Rattle.command_line.specs.Arguments.{program_call}
use Rattle.commands.proofs.Commands.{no_arguments, same_arguments, to_another, to_live}
use Rattle.commands.proofs.Statuses.{no_command, of_other}
use Rattle.commands.proofs.arguments.status_of_arguments.Given.{Over}
use Rattle.commands.proofs.arguments.status_of_arguments.Goals as goal
use Rattle.commands.proofs.arguments.status_of_arguments.Goals.{After-is_live}

-- the words are the arguments behind the program's name
same : (g : Over) (c : After-is_live g) →
    program_call c.as_slice-words.result.now ≡ call_of_arguments c.args.arguments
same g c =
    same_arguments c.args.arguments c.in-Ok.words.items c.as_slice-words.result.now
    c.as_slice-words.ensures.value c.in-Ok.ensures.ok

pub returns-then-is_live-clause-answer : goal.returns-then-is_live-clause-answer
returns-then-is_live-clause-answer g c =
    let words = c.as_slice-words.result.now in
    inl (of_other (live_call_of_words words) (call_of_arguments c.args.arguments) _ _
    (to_live words (sym c.is_live.ensures ∙ c.if-is_live.true)
    ∙ same g (goal.at.returns-then-is_live-clause-answer g c).After-is_live)
    c.live_status.ensures.answer)

pub returns-in-Ok-clause-answer : goal.returns-in-Ok-clause-answer
returns-in-Ok-clause-answer g c =
    let words = c.as_slice-words.result.now in
    inl (of_other (call_of_words words) (call_of_arguments c.args.arguments) _ _
    (to_another words (sym c.is_live.ensures ∙ c.if-is_live.false)
    ∙ same g (goal.at.returns-in-Ok-clause-answer g c).After-is_live)
    c.status_of_words.ensures.answer)

pub returns-in-Err-NoMemory-clause-answer : goal.returns-in-Err-NoMemory-clause-answer
returns-in-Err-NoMemory-clause-answer g c = inr (record { is = refl; files = λ name. refl })

pub returns-clause-answer : goal.returns-clause-answer
returns-clause-answer g c =
    inl (no_command (call_of_arguments c.args.arguments) _
    (no_arguments c.args.arguments
    (c.in-Err-NoText.ensures.no_text (ap Err c.in-Err-NoText.field-0-is)))
    c.print_usage.ensures.printed c.print_usage.ensures.files)
