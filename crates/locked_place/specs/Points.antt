-- Entries of several queues in one order, each with its queue's state before it.
use Rattle.std.specs.Prelude.{List, [], ◌∷◌, ◌++◌, Option}
use Rattle.queue_core.specs.State.{Bound}
use Rattle.histories.specs.declared.entry.Entry.{Entry}
use Rattle.histories.specs.States.{state_of}

pub record Point : Type 0 where
  pub entry : Entry
  pub state : Option Bound

-- an entry that stands after these
abbrev pub point_after : List Entry → Entry → Point
point_after before e = record { entry = e; state = state_of before e.queue }

-- entries that stand after these
abbrev pub points_after : List Entry → List Entry → List Point
points_after before [] = []
points_after before (e ∷ es) = point_after before e ∷ points_after (before ++ e ∷ []) es

abbrev pub points : List Entry → List Point
points es = points_after [] es
