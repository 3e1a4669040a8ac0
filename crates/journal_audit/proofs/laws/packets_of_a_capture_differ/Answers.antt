use Rattle.journal_audit.proofs.PacketNumbers.{cards_differ}
use Rattle.journal_audit.proofs.laws.packets_of_a_capture_differ.Goals as goal

pub returns : goal.returns
returns c = cards_differ
