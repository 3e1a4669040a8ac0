use Rattle.std.proofs.Common.{◌≡◌, ◌++◌, map}
use Rattle.script_lines.specs.declared.ask.Ask.TheVariants.{Words}
use Rattle.script_lines.proofs.ask.put_words.Given as goal

-- those that are there and those to come are all
abbrev pub invariant-loop-words : goal.invariant-loop-words
invariant-loop-words l =
    l.out.items ++ map Words l.words-iterator ≡ l.fn.out.items ++ map Words l.fn.all
