-- The numbers of mailboxes, each once. They are this project's own.
use Rattle.std.specs.Prelude.{ℕ}
use Rattle.packet_entry.specs.Numbers as shared

-- the least and the greatest capacity of a mailbox, in letters
abbrev pub least_capacity : ℕ
least_capacity = 1

abbrev pub most_capacity : ℕ
most_capacity = shared.most_mail

-- the most senders that a mailbox has
abbrev pub most_senders : ℕ
most_senders = 65536
