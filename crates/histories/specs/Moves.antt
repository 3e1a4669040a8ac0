-- Moves: what happened at several queues, in one order, each entry with what left its queue in its
-- step.
use Rattle.std.specs.Prelude.{List, [], ◌∷◌, ◌++◌}
use Rattle.packet_entry.specs.declared.packet.Card.{Card}
use Rattle.queue_core.specs.Step.{Way, step}
use Rattle.histories.specs.declared.entry.Entry.{Entry}
use Rattle.histories.specs.History.{replay, history}

pub record Move : Type 0 where
  pub entry : Entry
  pub left : List (Card × Way)

-- the move of an entry that stands after these: its queue's state is the replay of that queue's
-- entries among them
abbrev pub move_after : List Entry → Entry → Move
move_after before e =
    record { entry = e; left = (step (replay (history e.queue before)) e.event).left }

-- the moves of entries that stand after these
abbrev pub moves_after : List Entry → List Entry → List Move
moves_after before [] = []
moves_after before (e ∷ es) = move_after before e ∷ moves_after (before ++ e ∷ []) es

-- the moves of entries
abbrev pub moves : List Entry → List Move
moves es = moves_after [] es
