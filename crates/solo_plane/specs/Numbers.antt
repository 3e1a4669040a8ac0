-- The numbers of a plane, each once.
use Rattle.std.specs.Prelude.{ℕ}
use Rattle.packet_entry.specs.Numbers as shared

-- the most ports of a plane
abbrev pub most_ports : ℕ
most_ports = shared.most_ports

-- the most notices that a mailbox holds
abbrev pub most_mail : ℕ
most_mail = shared.most_mail

-- how many packets are fed at most
abbrev pub most_fed : ℕ
most_fed = 16777215
