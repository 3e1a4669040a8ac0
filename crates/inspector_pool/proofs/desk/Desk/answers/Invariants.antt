use Rattle.std.proofs.Common.{◌≡◌}
use Rattle.std.specs.Prelude.{All, take}
use Rattle.script_lines.specs.Limits.{IsAsk}
use Rattle.inspector_pool.specs.Answers.{answers}
use Rattle.inspector_pool.proofs.desk.Desk.answers.Given as goal

abbrev pub invariant-loop-at : goal.invariant-loop-at
invariant-loop-at g l =
    (l.given.items ≡ answers l.self.script.now l.self.place l.counted (take l.at l.notices))
    × All (All IsAsk) l.given.items
