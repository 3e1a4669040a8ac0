-- All entries of places that ended, with their times.
use Rattle.std.proofs.Common.{◌≡◌, ◌<◌, ℕ, List, ◌∷◌, length, ◌∙◌, arith, map}
use Rattle.std.specs.List.{AllZip}
use Rattle.histories.specs.declared.entry.Entry.{Entry}
use Rattle.histories.specs.Grouping.{IsGrouped}
use Rattle.histories.specs.History.{history}
use Rattle.histories.specs.Places.{place_for}
use Rattle.total_order.specs.Orders.{untimed}
use Rattle.place_rows.specs.declared.ending.PortReceiver.{PortReceiver}
use Rattle.place_rows.specs.Lists.{Every, AllFrom, flat}
use Rattle.place_rows.specs.Rows.{TimedKnown, known_of}
use Rattle.place_rows.specs.Joining.{AllJoined}
use Rattle.place_rows.specs.Hearing.{IsHeard}
use Rattle.place_rows.specs.Timed.{IsTimedListAt, HearsInTime, AreTimedEntries}
use Rattle.place_rows.proofs.PlainRows.{item_mapped}
use Rattle.place_rows.proofs.PlaceLists.{flat_at}
use Rattle.place_rows.proofs.PlaceEnds.{here_all, plain_lists}
use Rattle.place_rows.proofs.TimedLists.{timed_lists_of}
use Rattle.place_rows.proofs.PostedNotices.{all_posted}

-- what places that ended leave: their lists with times, and what ports received of them
pub timed_left : (places : ℕ) (first : List TimedKnown) (others : List (List TimedKnown))
    (us : List TimedKnown) (lists : List (List (Entry × ℕ))) (es gathered : List Entry)
    (olds news : List PortReceiver) → 0 < places → AllJoined others first us →
    length lists ≡ places → AllFrom (IsTimedListAt places us) 0 lists →
    ((queue : ℕ) → history queue gathered ≡ history queue (flat (map untimed lists))) →
    IsGrouped gathered es → AllZip (HearsInTime places 0 lists) olds news → Every IsHeard news →
    AreTimedEntries places (first ∷ others) olds es
timed_left places first others us lists es gathered olds news some joined long all same grouped zip
    told = record {
      lists = lists;
      as_many = long;
      each = timed_lists_of places 0 first us others lists joined all;
      same = λ queue list at.
          grouped.same queue ∙ same queue
          ∙ flat_at places 0 (place_for queue places) queue (map untimed lists) (untimed list)
          (here_all places (known_of us) 0 (map untimed lists) (plain_lists places us 0 lists all))
          (omega arith) (item_mapped (λ (l : List (Entry × ℕ)). untimed l) lists
          (place_for queue places) list at);
      posted = all_posted places us lists some long all olds news zip told;
    }
