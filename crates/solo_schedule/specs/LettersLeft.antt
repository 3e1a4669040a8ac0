-- What is left in the mailboxes of a world.
use Rattle.std.specs.Prelude.{ℕ, List}
use Rattle.packet_entry.specs.declared.letter.Letter.{Letter}
use Rattle.packet_moves.specs.World.{World}
use Rattle.solo_schedule.specs.Schedule.{letters_at}

-- the notices in a port's mailbox
abbrev pub left_in : World → ℕ → List Letter
left_in w port = letters_at (w.ports port)
