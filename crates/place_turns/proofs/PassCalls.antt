-- Calls of the pass at one place, as calls of its row: a turn of the row without times, what was
-- seen, and that its counts and times stand.
use Rattle.std.proofs.Common.{◌≡◌, ◌<◌, ◌^◌, ◌++◌, ◌∷◌, ℕ, List, [], length, Option, Some, subst}
use Rattle.std.proofs.Common.{sym}
use Rattle.std.specs.Prelude.{map, slice_set, get_or, Result, Ok, Err, IfOk, OnErr}
use Rattle.std.specs.BTreeMap.{BTreeMap}
use Rattle.packet_entry.specs.declared.packet.Card.{Card}
use Rattle.hook_chain.specs.declared.chain.Decision.{Decision}
use Rattle.nfqa_msgs.specs.declared.request.Request.{Request}
use Rattle.mailbox.specs.declared.view.Post.{Post}
use Rattle.turn_lock.specs.declared.storied.Storied.{Ghosts}
use Rattle.turn_lock.specs.declared.pass.Pass.{Pass}
use Rattle.turn_lock.specs.declared.lock.TurnLock.{TurnLock}
use Rattle.turn_lock.specs.Passes.{view_of}
use Rattle.turn_lock.specs.Places.{Ascends}
use Rattle.turn_lock.specs.Views.{HasSeenOwn}
use Rattle.histories.specs.declared.entry.Entry.{Entry}
use Rattle.histories.specs.declared.log.AskWords.{AskWords}
use Rattle.histories.specs.declared.log.Did.{Did}
use Rattle.histories.specs.declared.log.Did.TheVariants.{Sent}
use Rattle.histories.specs.Journeys.{Arrival}
use Rattle.locked_place.specs.declared.arrivals.Placed.{Placed}
use Rattle.locked_place.specs.Passes.{plain_view_of}
use Rattle.locked_place.specs.Turns.{ArrivesIn, AsksIn, GoesDownIn, LooksOn, HasSender}
use Rattle.locked_place.specs.Turns.{TimedLook, TimedArrival, TimedRequest, TimedClosing, TimedDown}
use Rattle.locked_place.specs.Views.{LockedView}
use Rattle.place_rows.specs.Rows.{TimedKnown, TurnsOne, known_of, label_at}
use Rattle.place_turns.specs.declared.places.Places.{Places}
use Rattle.place_turns.specs.Counts.{most_entries, IsCounted, AreCounted, CanCount, HasCounted}
use Rattle.place_turns.specs.Departures.{HasSeenCome, HasSeenBack, HaveSeenAll, SeeOn}
use Rattle.place_turns.specs.Passes.{Shuts}
use Rattle.place_turns.specs.Timely.{Holder, AreTimely, AreTimelyOpen, port_with}
use Rattle.place_turns.proofs.AtPlace.{AtPlace}
use Rattle.place_turns.proofs.NoticeCounts.{Grows, RepliesTell, can_count, counted_arrived}
use Rattle.place_turns.proofs.NoticeCounts.{counted_asked, counted_closed, counted_down}
use Rattle.place_turns.proofs.NoticeCounts.{counted_look, few_own, placed_so, short_so}
use Rattle.place_turns.proofs.PassTurns.{turns_one, plain_one}
use Rattle.place_turns.proofs.PlaceCalls.{look_sees, look_timely, arrival_sees, arrival_timely}
use Rattle.place_turns.proofs.PlaceCalls.{arrival_seen, request_timely, request_seen}
use Rattle.place_turns.proofs.PlaceCalls.{closing_timely, down_timely}
use Rattle.place_turns.proofs.RowCounts.{counted_kept, counted_set, counted_there}
use Rattle.place_turns.proofs.ToldCounts.{all_seen_own}

module _ {g : Ghosts LockedView (Entry × ℕ)} {places : Places}
    {row : List (Pass LockedView (Entry × ℕ) g)} {k : ℕ} {lock : TurnLock LockedView (Entry × ℕ)}
    {pass : Pass LockedView (Entry × ℕ) g} (at : AtPlace places row k lock pass)
    (new : Pass LockedView (Entry × ℕ) g) (clock time : ℕ) where
  -- what the row knew, and what it knows then
  abbrev olds : List TimedKnown
  olds = map view_of row

  abbrev news : List TimedKnown
  news = map view_of (slice_set row k new)

  one : (T : TimedKnown → TimedKnown → Type 0) → T (view_of pass) (view_of new) →
      TurnsOne k olds news T
  one T turn = turns_one row k pass new T at.inside at.has turn

  keeps : (counts : List (BTreeMap ℕ ℕ)) → AreCounted (known_of olds) counts →
      ((c : BTreeMap ℕ ℕ) → IsCounted (plain_view_of pass) c → IsCounted (plain_view_of new) c) →
      AreCounted (known_of news) counts
  keeps counts are still = counted_kept row counts k are at.inside pass new at.has still

  -- the same after a turn that sent nothing, which the pass has counted
  keeps_quiet : length (view_of new).seen < 2 ^ 64 → (counts : List (BTreeMap ℕ ℕ)) →
      AreCounted (known_of olds) counts →
      ((c : BTreeMap ℕ ℕ) → HasSeenOwn (plain_view_of pass) →
      Ascends 0 most_entries (view_of new).own → IsCounted (plain_view_of pass) c →
      IsCounted (plain_view_of new) c) → AreCounted (known_of news) counts
  keeps_quiet short counts are still =
      keeps counts are (λ c. still c (placed_so (view_of pass) pass.placed)
      (few_own (view_of new) new.placed short))

  -- ---- a look

  module _ (turn : TimedLook clock time (view_of pass) (view_of new)) where
    abbrev look : TurnsOne k olds news (TimedLook clock time)
    look = one (TimedLook clock time) turn

    pub look_turn : TurnsOne k (known_of olds) (known_of news) LooksOn
    look_turn = plain_one k olds news (TimedLook clock time) LooksOn (λ v w t. t.plain) look

    pub look_on : SeeOn olds news
    look_on = look_sees clock time k olds news look

    pub look_open : (h : Holder) → AreTimelyOpen clock olds h → AreTimelyOpen time news h
    look_open = look_timely clock time k olds news look (all_seen_own row)

    look_counts : Grows → (c : BTreeMap ℕ ℕ) → IsCounted (plain_view_of pass) c →
        IsCounted (plain_view_of new) c
    look_counts grows c is =
        counted_look grows (plain_view_of pass) (plain_view_of new) c
        (placed_so (view_of pass) pass.placed) turn.plain is

    pub look_kept : Grows → (counts : List (BTreeMap ℕ ℕ)) → AreCounted (known_of olds) counts →
        AreCounted (known_of news) counts
    look_kept grows counts are = keeps counts are (look_counts grows)

  -- ---- an arrival

  module _ (a : Arrival) (done : Placed)
      (turn : TimedArrival clock time a (view_of pass) (view_of new) done) where
    abbrev arrival : TurnsOne k olds news (λ v w. TimedArrival clock time a v w done)
    arrival = one (λ v w. TimedArrival clock time a v w done) turn

    pub arrival_turn : TurnsOne k (known_of olds) (known_of news) (λ v w. ArrivesIn a v w done)
    arrival_turn =
        plain_one k olds news (λ v w. TimedArrival clock time a v w done)
        (λ v w. ArrivesIn a v w done) (λ v w t. t.plain) arrival

    pub arrival_on : SeeOn olds news
    arrival_on = arrival_sees clock time k olds news a done arrival

    pub arrival_back : HasSeenBack news done
    arrival_back = arrival_seen clock time k olds news a done arrival

    pub arrival_open : (h : Holder) → HasSeenCome olds a.card.number a.card.visit →
        AreTimelyOpen clock olds h → AreTimelyOpen time news h
    arrival_open = arrival_timely clock time k olds news a done arrival (all_seen_own row)

  -- 64 bits count its notice, if it has one
  pub notice_fits : Grows → (a : Arrival) {B : Type 0} (r : Result Placed B) →
      IfOk r (TimedArrival clock time a (view_of pass) (view_of new)) →
      IfOk r (HasSender (label_at places.outlets k).senders) →
      length (view_of new).seen < 2 ^ 64 → (c : BTreeMap ℕ ℕ) →
      IsCounted (plain_view_of pass) c → IfOk r (CanCount c)
  notice_fits grows a (Ok done) turn sender short c is =
      can_count grows a (plain_view_of pass) (plain_view_of new) done c
      (placed_so (view_of pass) pass.placed) (placed_so (view_of new) new.placed) turn.plain is
      (short_so (view_of new) short) (label_at places.outlets k) at.of.named_so sender
  notice_fits grows a (Err e) turn sender short c is = tt

  -- and once it is counted, the counts stand
  pub arrival_kept : Grows → RepliesTell → (a : Arrival) {B : Type 0} (r : Result Placed B) →
      IfOk r (TimedArrival clock time a (view_of pass) (view_of new)) →
      OnErr r (TimedLook clock time (view_of pass) (view_of new)) →
      IfOk r (HasSender (label_at places.outlets k).senders) →
      length (view_of new).seen < 2 ^ 64 → (counts : List (BTreeMap ℕ ℕ)) →
      AreCounted (known_of olds) counts → (c after : BTreeMap ℕ ℕ) → c ≡ get_or counts k c →
      IfOk r (HasCounted c after) → OnErr r (after ≡ c) →
      AreCounted (known_of news) (slice_set counts k after)
  arrival_kept grows tell a {B} r turn looks sender short counts are c after has did same =
      let is = counted_there row counts k are at.inside pass c at.has has in
      counted_set row counts k are at.inside new after
      (by r turn looks (notice_fits grows a r turn sender short c is) did same is)
    where
      by : (r : Result Placed B) → IfOk r (TimedArrival clock time a (view_of pass) (view_of new)) →
          OnErr r (TimedLook clock time (view_of pass) (view_of new)) → IfOk r (CanCount c) →
          IfOk r (HasCounted c after) → OnErr r (after ≡ c) → IsCounted (plain_view_of pass) c →
          IsCounted (plain_view_of new) after
      by (Ok done) turn looks can did same is =
          counted_arrived grows tell a (plain_view_of pass) (plain_view_of new) done c after
          (placed_so (view_of pass) pass.placed) turn.plain
          (few_own (view_of new) new.placed short) is can did
      by (Err e) turn looks can did same is =
          subst (IsCounted (plain_view_of new)) (sym same) (look_counts looks grows c is)

  -- ---- a request

  module _ (port call : ℕ) (request : Request) (errno : ℕ) (handed : List (Card × Decision))
      (turn : TimedRequest clock time port call request (view_of pass) (view_of new) errno handed)
    where
      abbrev request_one : TurnsOne k olds news
          (λ v w. TimedRequest clock time port call request v w errno handed)
      request_one = one (λ v w. TimedRequest clock time port call request v w errno handed) turn

      pub request_turn : TurnsOne k (known_of olds) (known_of news)
          (λ v w. AsksIn port call request v w errno handed)
      request_turn =
          plain_one k olds news (λ v w. TimedRequest clock time port call request v w errno handed)
          (λ v w. AsksIn port call request v w errno handed) (λ v w t. t.plain) request_one

      pub request_handed : HaveSeenAll news handed
      request_handed =
          request_seen clock time k olds news port call request errno handed request_one

      pub request_open : (dids : List Did) (heard : List Post) (words : AskWords)
          (answer : Option ℕ) → AreTimelyOpen clock olds (port_with port dids heard) →
          AreTimelyOpen time news (port_with port (dids ++ Sent call words answer ∷ []) heard)
      request_open =
          request_timely clock time k olds news port call request errno handed request_one
          (all_seen_own row)

      pub request_kept : Grows → length (view_of new).seen < 2 ^ 64 →
          (counts : List (BTreeMap ℕ ℕ)) → AreCounted (known_of olds) counts →
          AreCounted (known_of news) counts
      request_kept grows short counts are =
          keeps_quiet short counts are (λ c placed. counted_asked grows port call request
          (plain_view_of pass) (plain_view_of new) errno handed c placed turn.plain)

  -- ---- a port that closes, and a device that goes down

  module _ (port count : ℕ)
      (turn : TimedClosing clock time port (view_of pass) (view_of new) count) where
    abbrev closing : TurnsOne k olds news (λ v w. TimedClosing clock time port v w count)
    closing = one (λ v w. TimedClosing clock time port v w count) turn

    pub closing_turn : TurnsOne k (known_of olds) (known_of news) (Shuts port)
    closing_turn =
        plain_one k olds news (λ v w. TimedClosing clock time port v w count) (Shuts port)
        (λ v w t. (count, t.plain)) closing

    pub closing_so : (h : Holder) → h.port ≡ Some port → AreTimely clock olds h →
        AreTimely time news h
    closing_so = closing_timely clock time k olds news port count closing (all_seen_own row)

    pub closing_kept : Grows → length (view_of new).seen < 2 ^ 64 →
        (counts : List (BTreeMap ℕ ℕ)) → AreCounted (known_of olds) counts →
        AreCounted (known_of news) counts
    closing_kept grows short counts are =
        keeps_quiet short counts are (λ c placed. counted_closed grows port (plain_view_of pass)
        (plain_view_of new) count c placed turn.plain)

  module _ (device count : ℕ)
      (turn : TimedDown clock time device (view_of pass) (view_of new) count) where
    abbrev down : TurnsOne k olds news (λ v w. TimedDown clock time device v w count)
    down = one (λ v w. TimedDown clock time device v w count) turn

    pub down_turn : TurnsOne k (known_of olds) (known_of news)
        (λ v w. GoesDownIn device v w count)
    down_turn =
        plain_one k olds news (λ v w. TimedDown clock time device v w count)
        (λ v w. GoesDownIn device v w count) (λ v w t. t.plain) down

    pub down_so : (h : Holder) → AreTimelyOpen clock olds h → AreTimelyOpen time news h
    down_so = down_timely clock time k olds news device count down (all_seen_own row)

    pub down_kept : Grows → length (view_of new).seen < 2 ^ 64 →
        (counts : List (BTreeMap ℕ ℕ)) → AreCounted (known_of olds) counts →
        AreCounted (known_of news) counts
    down_kept grows short counts are =
        keeps_quiet short counts are (λ c placed. counted_down grows device (plain_view_of pass)
        (plain_view_of new) count c placed turn.plain)
