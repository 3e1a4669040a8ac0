-- The passes of a plane by number, and what its calls do to them.
use Rattle.std.specs.Prelude.{◌≡◌, ℕ, Bool, true, List, [], ◌∷◌, ◌++◌, nat_eq, ◌==◌}
use Rattle.std.specs.Prelude.{Option, Some, None, if◌then◌else◌}
use Rattle.std.specs.List.{list_any}
use Rattle.packet_entry.specs.declared.letter.Letter.{Letter}
use Rattle.netlink_codec.specs.Messages.{NetlinkMessage}
use Rattle.nfqa_msgs.specs.declared.request.Decoded.{Decoded}
use Rattle.nfqa_msgs.specs.declared.request.Decoded.TheVariants.{Nothing, Refused, Asked}
use Rattle.nfqa_msgs.specs.RequestReading.{decoded}
use Rattle.histories.specs.declared.entry.Entry.{Entry}
use Rattle.histories.specs.declared.log.Did.{Did}
use Rattle.histories.specs.declared.log.Did.TheVariants.{Received, Sent, Closed}
use Rattle.packet_moves.specs.Calls.{next_call}
use Rattle.packet_moves.specs.Messages.{words_of, answered}
use Rattle.live_runs.specs.Seen.{Seen, Shares, entries, all_theirs, IsNone, Grows}
use Rattle.live_runs.specs.Calls.{Asks, ShutsAll}

-- A pass: what its port did, the notices that it received, and what it has seen. A feeder's pass
-- did nothing and received nothing.
pub record Pass : Type 0 where
  pub dids : List Did
  pub letters : List Letter
  pub shares : Shares

-- ---- all passes

-- the number of the feeder's pass: no port has it. The pass of a port has its port's number.
abbrev pub feeder_number : ℕ
feeder_number = 0

-- the numbers of all passes of a plane with these ports, open or closed
abbrev pub pass_numbers : List ℕ → List ℕ
pass_numbers ports = feeder_number ∷ ports

abbrev pub is_pass : List ℕ → ℕ → Bool
is_pass ports p = list_any (nat_eq p) (pass_numbers ports)

-- what these passes have seen at a place
abbrev pub seen_at : (ℕ → Pass) → ℕ → ℕ → List Seen
seen_at passes k p = (passes p).shares k

-- one pass went on
abbrev pub with_pass : ℕ → Pass → (ℕ → Pass) → ℕ → Pass
with_pass port pass passes p = if p == port then pass else passes p

-- All passes meet: each goes on to the same list at each place, and none has more of its own there.
pub record AreMet (ports : List ℕ) (old new : ℕ → Pass) : Type 0 where
  pub whole : ℕ → List Entry
  pub rest : ℕ → ℕ → List Entry
  pub longer : (k p : ℕ) → is_pass ports p ≡ true →
      seen_at new k p ≡ seen_at old k p ++ all_theirs (rest k p)
  pub met : (k p : ℕ) → is_pass ports p ≡ true → entries (seen_at new k p) ≡ whole k
  pub dids : (p : ℕ) → (new p).dids ≡ (old p).dids
  pub letters : (p : ℕ) → (new p).letters ≡ (old p).letters

-- ---- what a port's pass does

-- a message is carried out, with this errno
abbrev pub CarriesOut : ℕ → ℕ → ℕ → Decoded → ℕ → Shares → Shares → Type 0
CarriesOut places port call Nothing errno old new = (errno ≡ 0) × ((k : ℕ) → new k ≡ old k)
CarriesOut places port call (Refused refusal) errno old new =
    (errno ≡ refusal) × ((k : ℕ) → new k ≡ old k)
CarriesOut places port call (Asked r) errno old new = Asks places port call r errno old new

-- the port sends a message
pub record Speaks (places port : ℕ) (m : NetlinkMessage) (errno : ℕ) (old new : Pass) : Type 0 where
  pub logged : new.dids ≡ old.dids ++ Sent (next_call old.dids)
      (words_of port (next_call old.dids) m.whole (decoded m)) (answered m errno) ∷ []
  pub letters : new.letters ≡ old.letters
  pub carried : CarriesOut places port (next_call old.dids) (decoded m) errno old.shares new.shares

-- it sends the first message of some bytes, where they begin with one, and tells how many bytes it
-- used
pub record SpeaksSo (places port : ℕ) (m : NetlinkMessage) (old new : Pass) : Type 0 where
  pub errno : ℕ
  pub speaks : Speaks places port m errno old new

abbrev pub SpeaksFirst : ℕ → ℕ → Option (NetlinkMessage × ℕ) → Pass → Pass → ℕ → Type 0
SpeaksFirst places port None old new used = (used ≡ 0) × (new ≡ old)
SpeaksFirst places port (Some (m, n)) old new used = (used ≡ n) × SpeaksSo places port m old new

-- it receives a notice
pub record Receives (l : Letter) (old new : Pass) : Type 0 where
  pub logged : new.dids ≡ old.dids ++ Received l.queue l.number l.visit ∷ []
  pub letters : new.letters ≡ old.letters ++ l ∷ []
  pub shares : (k : ℕ) → Grows IsNone (old.shares k) (new.shares k)

-- it closes
pub record Shuts (places port : ℕ) (old new : Pass) : Type 0 where
  pub logged : new.dids ≡ old.dids ++ Closed ∷ []
  pub letters : new.letters ≡ old.letters
  pub shuts : ShutsAll places port old.shares new.shares
