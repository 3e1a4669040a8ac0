-- What a place's list says of the ports' mailboxes: the notices that arrivals put in, and the
-- arrivals that found no room.
use Rattle.std.specs.Prelude.{◌≡◌, ℕ, List, Bool, count_by, flat_map}
use Rattle.packet_entry.specs.declared.letter.Letter.{Letter}
use Rattle.mailbox.specs.Views.{SenderView}
use Rattle.histories.specs.declared.entry.Entry.{Entry}
use Rattle.histories.specs.Letters.{letters_under, lacks_under}
use Rattle.locked_place.specs.Points.{Point, points}

abbrev pub letters_at : ℕ → Point → List Letter
letters_at port p = letters_under port p.state p.entry

abbrev pub lacks_at : ℕ → Point → Bool
lacks_at port p = lacks_under port p.state p.entry

-- the notices for a port, in the order of the list
abbrev pub letters_to : ℕ → List Entry → List Letter
letters_to port es = flat_map (letters_at port) (points es)

-- how many arrivals under a port found no room
abbrev pub lacking : ℕ → List Entry → ℕ
lacking port es = count_by (lacks_at port) (points es)

-- A port's sender sent the notices for the port, in their order, and as many letters came back to
-- it as arrivals under the port found no room.
pub record HasSent (es : List Entry) (port : ℕ) (s : SenderView) : Type 0 where
  pub sent : s.sent ≡ letters_to port es
  pub full : s.full ≡ lacking port es
