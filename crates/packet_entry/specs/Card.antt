-- What a packet is, and what its calls make of it.
use Rattle.std.specs.Prelude.{◌≤◌, ℕ, List, length, Option, unwrap_or}
use Rattle.packet_entry.specs.declared.packet.Card.{Card}
use Rattle.packet_entry.specs.Numbers.{longest_packet, last_visit}
use Rattle.packet_entry.specs.Fields.{IsProtocol, IsLinkLength}

-- what each packet keeps
pub record IsCard (c : Card) : Type 0 where
  pub number : 1 ≤ c.number
  pub visit : c.visit ≤ last_visit
  pub protocol : IsProtocol c.protocol
  pub link : IsLinkLength (length c.link)
  pub bytes : length c.bytes ≤ longest_packet

-- a packet as it is read from its input, before it meets a queue
abbrev pub opening_card : ℕ → ℕ → ℕ → ℕ → List ℕ → List ℕ → Card
opening_card number seconds micros protocol link bytes =
    record {
      number = number;
      visit = 0;
      table = 0;
      mark = 0;
      priority = 0;
      seconds = seconds;
      micros = micros;
      protocol = protocol;
      link = link;
      bytes = bytes;
    }

-- the mark, the bytes and the priority are those that are given, and else stay (nfqnl_recv_verdict,
-- nfqnl_mangle in nfnetlink_queue.c)
abbrev pub edited : Card → Option ℕ → Option (List ℕ) → Option ℕ → Card
edited c mark payload priority = record c {
  mark = unwrap_or mark c.mark;
  priority = unwrap_or priority c.priority;
  bytes = unwrap_or payload c.bytes;
}
