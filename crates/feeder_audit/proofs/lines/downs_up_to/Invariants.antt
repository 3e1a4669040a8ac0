use Rattle.std.proofs.Common.{◌≡◌, ◌++◌, ◌-◌, suc}
use Rattle.run_parts.specs.Feeder.{downs_from, downs_in_effect}
use Rattle.feeder_audit.proofs.lines.downs_up_to.Given as goal

-- with the lines from this frame on, all are there
abbrev pub invariant-loop-number : goal.invariant-loop-number
invariant-loop-number l =
    l.downs.items ++ downs_from l.script l.number (suc (l.last - l.number))
    ≡ downs_in_effect l.script l.last
