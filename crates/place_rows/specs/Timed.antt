-- The lists of all places with their times, as their passes' own entries make them up, and the
-- letters that ports received of them.
use Rattle.std.specs.Prelude.{◌≡◌, ◌<◌, ◌≤◌, ◌+◌, ℕ, List, [], length, map, slice_get, Option}
use Rattle.std.specs.Prelude.{Some, None}
use Rattle.std.specs.List.{range_with_len}
use mathlib.Core.List.{IsPrefix}
use Rattle.mailbox.specs.declared.view.Post.{Post}
use Rattle.turn_lock.specs.Places.{In}
use Rattle.histories.specs.declared.entry.Entry.{Entry}
use Rattle.histories.specs.History.{history}
use Rattle.histories.specs.Places.{place_for}
use Rattle.total_order.specs.Orders.{EachIs, Pairs, untimed}
use Rattle.total_order.specs.Steps.{Has, taken}
use Rattle.place_history.specs.PlaceState.{AreHere}
use Rattle.locked_place.specs.Times.{mails_to}
use Rattle.place_rows.specs.declared.ending.PortReceiver.{PortReceiver}
use Rattle.place_rows.specs.Lists.{Every, AllFrom}
use Rattle.place_rows.specs.Rows.{TimedKnown, known_of}
use Rattle.place_rows.specs.Ending.{IsListAt}
use Rattle.place_rows.specs.Hearing.{Among, HearsAs}

-- ---- places that ended

-- The list of place k among so many, with times that never descend: all of its entries are one
-- row's own.
pub record IsTimedListAt (places : ℕ) (known : List TimedKnown) (k : ℕ) (list : List (Entry × ℕ))
    : Type 0 where
  pub plain : IsListAt places (known_of known) k (untimed list)
  pub all : TimedKnown
  pub at : slice_get known k ≡ Some all
  pub begins : IsPrefix all.seen list
  pub own : all.own ≡ range_with_len 0 (length list)
  pub rise : Pairs (λ x y. x.1 ≤ y.1) list

-- A port's receiver hears what the lists of the places from n on say, and each sender that was
-- joined into it had sent its place's notices with their times.
pub record HearsInTime (places n : ℕ) (lists : List (List (Entry × ℕ))) (old new : PortReceiver)
    : Type 0 where
  pub plain : HearsAs places n (map untimed lists) old new
  pub mails : AllFrom (λ k l. Among (k, mails_to old.port l) new.receiver.mails) n lists

-- ---- all entries

-- what a row has seen of a place, with times
abbrev pub seen_by : Option TimedKnown → List (Entry × ℕ)
seen_by None = []
seen_by (Some v) = v.seen

abbrev pub seen_in : List TimedKnown → ℕ → List (Entry × ℕ)
seen_in row k = seen_by (slice_get row k)

-- An entry of a row's own: at this place, with this number in the place's list.
pub record IsOwnAt (row : List TimedKnown) (place number : ℕ) : Type 0 where
  pub pass : TimedKnown
  pub there : slice_get row place ≡ Some pass
  pub own : In number pass.own

-- it is one row's own
pub record IsOwnOfOne (rows : List (List TimedKnown)) (place number : ℕ) : Type 0 where
  pub which : ℕ
  pub row : List TimedKnown
  pub at : slice_get rows which ≡ Some row
  pub own : IsOwnAt row place number

-- The list of place k among so many, of which these rows had all passes: what each row has seen
-- there begins it, each of its entries is one row's own and of the place's queues, and its times
-- never descend.
pub record IsTimedListOf (places : ℕ) (rows : List (List TimedKnown)) (k : ℕ)
    (list : List (Entry × ℕ)) : Type 0 where
  pub begins : (n : ℕ) (row : List TimedKnown) → slice_get rows n ≡ Some row →
      IsPrefix (seen_in row k) list
  pub owned : (i : ℕ) → i < length list → IsOwnOfOne rows k i
  pub here : AreHere places k (untimed list)
  pub rise : Pairs (λ x y. x.1 ≤ y.1) list

-- A letter that a port received is that of an arrival in one of these lists, which took the packet
-- at the letter's time or before.
pub record IsPostedIn (lists : List (List (Entry × ℕ))) (p : Post) : Type 0 where
  pub place : ℕ
  pub list : List (Entry × ℕ)
  pub at : slice_get lists place ≡ Some list
  pub front : List (Entry × ℕ)
  pub begins : IsPrefix front list
  pub early : EachIs (λ x. x.1 < p.time + 1) front
  pub posted : Has p.letter.number p.letter.visit
      (taken (history p.letter.queue (untimed front)))

-- These are all entries of so many places with their times, of which these rows had all passes, and
-- the ports received of them.
pub record AreTimedEntries (places : ℕ) (rows : List (List TimedKnown))
    (receivers : List PortReceiver) (es : List Entry) : Type 0 where
  pub lists : List (List (Entry × ℕ))
  pub as_many : length lists ≡ places
  pub each : AllFrom (IsTimedListOf places rows) 0 lists
  pub same : (queue : ℕ) (list : List (Entry × ℕ)) →
      slice_get lists (place_for queue places) ≡ Some list →
      history queue es ≡ history queue (untimed list)
  pub posted : Every (λ (p : PortReceiver). EachIs (IsPostedIn lists) p.receiver.received) receivers
