-- The numbers of a script's lines, each once. They are this project's own limits.
use Rattle.std.specs.Prelude.{ℕ}
use Rattle.packet_entry.specs.Numbers as shared

-- the most notices that a mailbox holds
abbrev pub largest_mail : ℕ
largest_mail = shared.most_mail

-- the most asks of an `on` line
abbrev pub most_asks : ℕ
most_asks = 8

-- the most bytes of an ask's payload
abbrev pub most_payload_bytes : ℕ
most_payload_bytes = 2048

-- the most bytes of a raw ask
abbrev pub most_raw_bytes : ℕ
most_raw_bytes = 4096
