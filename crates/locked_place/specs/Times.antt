-- Times of what happens at a place: each entry of its list has one, as a logical clock gives it
-- (Lamport, 1978).
use Rattle.std.specs.Prelude.{◌≡◌, ◌<◌, ◌≤◌, ℕ, List, [], ◌∷◌, ◌++◌, length, map, Option, IfSome}
use mathlib.Core.List.{IsPrefix}
use Rattle.packet_entry.specs.declared.letter.Letter.{Letter}
use Rattle.mailbox.specs.declared.view.Mail.{Mail}
use Rattle.mailbox.specs.Views.{SenderView}
use Rattle.turn_lock.specs.declared.view.View.{View}
use Rattle.turn_lock.specs.declared.view.Turn.{Turn}
use Rattle.turn_lock.specs.declared.view.Turn.TheVariants.{Outside, Waits, Served, Joined}
use Rattle.total_order.specs.Orders.{EachIs, untimed}
use Rattle.histories.specs.declared.entry.Entry.{Entry}
use Rattle.locked_place.specs.Points.{point_after}
use Rattle.locked_place.specs.Notices.{letters_at}

-- ---- things with times

-- each thing with its time
abbrev pub timed : {A : Type 0} → List A → List ℕ → List (A × ℕ)
timed [] ts = []
timed (x ∷ xs) [] = []
timed (x ∷ xs) (t ∷ ts) = (x, t) ∷ timed xs ts

-- all of them at one time
abbrev pub all_at : {A : Type 0} → ℕ → List A → List (A × ℕ)
all_at time xs = map (λ x. (x, time)) xs

-- times that never descend, from the first of these on, and up to the second
abbrev pub Rise : ℕ → List ℕ → ℕ → Type 0
Rise low [] high = low ≤ high
Rise low (t ∷ ts) high = (low ≤ t) × Rise t ts high

-- there is a time for each entry, they never descend, and none is later than the latest
pub record AreTimed (es : List Entry) (times : List ℕ) (latest : ℕ) : Type 0 where
  pub as_many : length times ≡ length es
  pub rise : Rise 0 times latest

-- ---- letters with times

-- each letter with the time of the entry that put it in, after these entries
abbrev pub mails_after : ℕ → List Entry → List (Entry × ℕ) → List Mail
mails_after port before [] = []
mails_after port before (x ∷ xs) =
    map (λ (l : Letter). record { letter = l; time = x.1 })
    (letters_at port (point_after before x.0))
    ++ mails_after port (before ++ x.0 ∷ []) xs

-- the notices for a port with their times, in the order of the list
abbrev pub mails_to : ℕ → List (Entry × ℕ) → List Mail
mails_to port xs = mails_after port [] xs

-- each sender sent the notices for its port with their times
abbrev pub AreMailed : List (Entry × ℕ) → (ℕ → Option SenderView) → Type 0
AreMailed xs senders =
    (port : ℕ) → IfSome (senders port) (λ (s : SenderView). s.mails ≡ mails_to port xs)

-- ---- what a pass knows, without times

module _ {E : Type 0} where
  abbrev pub plain_turn : Turn (E × ℕ) → Turn E
  plain_turn Outside = Outside
  plain_turn (Waits ticket) = Waits ticket
  plain_turn (Served ticket list) = Served ticket (untimed list)
  plain_turn (Joined one other own others) = Joined (untimed one) (untimed other) own others

module _ {E S : Type 0} where
  abbrev pub plain_view : View (E × ℕ) S → View E S
  plain_view v =
      record {
        seen = untimed v.seen;
        own = v.own;
        part = v.part;
        origin = v.origin;
        turn = plain_turn v.turn;
      }

  -- ---- turns

  -- A turn took place at a time: it is later than the clock was, and than all that the turn found.
  -- What the turn appended has this time. Without times, the turn found and left these lists.
  pub record TakesTime (clock time : ℕ) (v w : View (E × ℕ) S) (before after : List E) : Type 0
    where
      pub later : clock < time
      pub found : List (E × ℕ)
      pub more : List E
      pub begins : IsPrefix v.seen found
      pub early : EachIs (λ x. x.1 < time) found
      pub seen : w.seen ≡ found ++ all_at time more
      pub found_plain : untimed found ≡ before
      pub left_plain : after ≡ before ++ more
