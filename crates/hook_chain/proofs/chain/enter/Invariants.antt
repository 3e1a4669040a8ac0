use Rattle.std.proofs.Common.{◌≡◌, ◌+◌, drop}
use Rattle.hook_chain.specs.Route.{next_of}
use Rattle.hook_chain.specs.Views.{next_seen}
use Rattle.hook_chain.proofs.chain.enter.Given as goal

-- the tables that are left give the answer of all
abbrev pub invariant-loop-at : goal.invariant-loop-at
invariant-loop-at l =
    next_seen l.fn.tables l.key l.seen l.from
    ≡ next_of l.feeders l.key l.look.number l.look.mark l.look.fields (l.at + 1)
    (drop l.at l.tables)
