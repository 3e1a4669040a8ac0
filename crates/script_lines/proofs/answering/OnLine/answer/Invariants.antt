use Rattle.std.proofs.Common.{◌≡◌, ◌++◌, map}
use Rattle.script_lines.specs.Asking.{asked}
use Rattle.script_lines.proofs.answering.OnLine.answer.Given as goal

-- those that are there and those to come are all
abbrev pub invariant-loop-template : goal.invariant-loop-template
invariant-loop-template l =
    l.filled.items ++ map (asked l.fn.notice) l.template-iterator
    ≡ map (asked l.fn.notice) l.fn.self.asks
