-- Passes that have seen more, and appended nothing meanwhile, stay timely.
use Rattle.std.proofs.Common.{◌≡◌, ◌≤◌, ℕ, zero, suc, List, [], ◌∷◌, ◌++◌, length, Option}
use Rattle.std.proofs.Common.{refl, sym, ap, ◌∙◌, subst, arith, Some, append-nil, le_trans}
use Rattle.std.specs.Prelude.{slice_get, map, None}
use Rattle.std.proofs.lemmas.List.{length-map}
use Rattle.std.proofs.lemmas.Option.{slice_get_within}
use mathlib.Core.List.{IsPrefix}
use Rattle.mailbox.specs.declared.view.Post.{Post}
use Rattle.turn_lock.specs.Places.{In}
use Rattle.turn_lock.specs.Views.{HasSeenOwn, kept_view, split_view}
use Rattle.histories.specs.declared.entry.Entry.{Entry}
use Rattle.histories.specs.declared.log.AskWords.{AskWords}
use Rattle.histories.specs.declared.log.Did.{Did}
use Rattle.histories.specs.declared.log.Did.TheVariants.{Received, Sent}
use Rattle.total_order.specs.Orders.{EachIs}
use Rattle.packet_moves.specs.Calls.{next_call}
use Rattle.place_rows.specs.Rows.{TimedKnown}
use Rattle.place_turns.specs.Departures.{SeeOn}
use Rattle.place_turns.specs.Timely.{Holder, IsOwn, RestsOn, AreAllEarly, AreTimely, AreTimelyOpen}
use Rattle.place_turns.specs.Timely.{port_with, feeder}
use Rattle.place_turns.proofs.EarlyLetters.{all_later, all_sent, all_heard}
use Rattle.place_turns.proofs.OwnEntries.{each_map, before_in, own_seen, rests_on, rests_longer}
use Rattle.place_turns.proofs.PassTurns.{some_same}
use Rattle.place_turns.proofs.Departures.{sees_itself}
use Rattle.place_turns.proofs.ToldCounts.{item_at}

-- a pass was there before, with the same own entries, and had seen a beginning of what it sees
pub record Was (row : List TimedKnown) (k : ℕ) (w : TimedKnown) : Type 0 where
  pub before : TimedKnown
  pub at : slice_get row k ≡ Some before
  pub begins : IsPrefix before.seen w.seen
  pub own : w.own ≡ before.own

-- a row that has only seen more
pub record SeesMore (row news : List TimedKnown) : Type 0 where
  pub on : SeeOn row news
  pub was : (k : ℕ) (w : TimedKnown) → slice_get news k ≡ Some w → Was row k w
  pub placed : (k : ℕ) (v : TimedKnown) → slice_get row k ≡ Some v → HasSeenOwn v

-- nothing that they have seen is later than this
abbrev pub AreUpTo : ℕ → List TimedKnown → Type 0
AreUpTo clock row = (k : ℕ) (v : TimedKnown) → slice_get row k ≡ Some v →
    EachIs (λ x. x.1 ≤ clock) v.seen

module _ (row news : List TimedKnown) (more : SeesMore row news) where
  own_before : (k i : ℕ) (x : Entry × ℕ) → IsOwn news k i x → IsOwn row k i x
  own_before k i x own =
      let was = more.was k own.pass own.there in
      let old = subst (In i) was.own own.own in
      record {
        pass = was.before;
        there = was.at;
        own = old;
        is = before_in was.before.seen own.pass.seen i x was.begins
            (own_seen was.before i (more.placed k was.before was.at) old) own.is;
      }

  module _ (clock time : ℕ) (h g : Holder) (timely : AreTimely clock row h)
      (late : AreUpTo time news)
      (keeps : (k i : ℕ) (x : Entry × ℕ) → IsOwn row k i x →
      RestsOn news h x.1 (timely.position k i) x.0.event →
      RestsOn news g x.1 (timely.position k i) x.0.event)
      (told : AreAllEarly (suc time) g.dids g.heard) where
    more_seen : AreTimely time news g
    more_seen = record {
      late = late;
      told = told;
      position = timely.position;
      own = λ k i x own.
          let old = own_before k i x own in
          keeps k i x old (rests_on row news more.on h x.1 (timely.position k i) x.0.event
          (timely.own k i x old));
      kept = λ k i j l x y own other apart not_later.
          timely.kept k i j l x y (own_before k i x own) (own_before j l y other) apart not_later;
    }

  -- whoever has them
  module _ (clock time : ℕ) (h : Holder) (later : clock ≤ time) (late : AreUpTo time news) where
    pub still_timely : AreTimely clock row h → AreTimely time news h
    still_timely timely =
        more_seen clock time h h timely late (λ k i x own r. r)
        (all_later (suc clock) (suc time) h.dids h.heard (omega (arith, later)) timely.told)

    pub still_timely_open : AreTimelyOpen clock row h → AreTimelyOpen time news h
    still_timely_open is = record {
      timely = still_timely is.timely;
      none_closed = λ k i x own. is.none_closed k i x (own_before k i x own);
    }

-- the same row
pub row_itself : (row : List TimedKnown) →
    ((k : ℕ) (v : TimedKnown) → slice_get row k ≡ Some v → HasSeenOwn v) → SeesMore row row
row_itself row placed = record {
  on = sees_itself row;
  was = λ k w at. record {
    before = w;
    at = at;
    begins = ([], append-nil w.seen);
    own = refl;
  };
  placed = placed;
}

-- a row of passes that are each what they were, and have seen more
pub sees_more : (row news : List TimedKnown) → length news ≡ length row →
    ((k : ℕ) (w : TimedKnown) → slice_get news k ≡ Some w → Was row k w) →
    ((k : ℕ) (v : TimedKnown) → slice_get row k ≡ Some v → HasSeenOwn v) → SeesMore row news
sees_more row news many was placed = record {
  on = λ k v at.
      let w = item_at news k (omega (arith, many, slice_get_within row k v at)) in
      let old = was k w.0 w.1 in
      record {
        after = w.0;
        at = w.1;
        turns = subst (λ (x : TimedKnown). IsPrefix x.seen w.0.seen)
            (some_same old.before v (sym old.at ∙ at)) old.begins;
      };
  was = was;
  placed = placed;
}

-- what an item of a list was made of
pub record Made {A B : Type 0} (f : A → B) (xs : List A) (k : ℕ) (y : B) : Type 0 where
  pub of : A
  pub at : slice_get xs k ≡ Some of
  pub is : f of ≡ y

pub made_so : {A B : Type 0} (f : A → B) (xs : List A) (k : ℕ) (y : B) →
    slice_get (map f xs) k ≡ Some y → Made f xs k y
made_so f [] k y at = absurd (cc at)
made_so f (x ∷ xs) zero y at = record { of = x; at = refl; is = some_same (f x) y at }
made_so f (x ∷ xs) (suc k) y at =
    let made = made_so f xs k y at in record { of = made.of; at = made.at; is = made.is }

-- passes that were split
module _ (row : List TimedKnown)
    (placed : (k : ℕ) (v : TimedKnown) → slice_get row k ≡ Some v → HasSeenOwn v) where
  pub kept_more : SeesMore row (map kept_view row)
  kept_more = sees_more row (map kept_view row) (length-map row kept_view)
      (λ k w at. (let made = made_so kept_view row k w at in
      record {
        before = made.of;
        at = made.at;
        begins = subst (λ (x : TimedKnown). IsPrefix made.of.seen x.seen) made.is
            ([], append-nil made.of.seen);
        own = ap (λ (x : TimedKnown). x.own) (sym made.is);
      })) placed

  pub kept_late : (clock : ℕ) → AreUpTo clock row → AreUpTo clock (map kept_view row)
  kept_late clock late k w at =
      let made = made_so kept_view row k w at in
      subst (λ (x : TimedKnown). EachIs (λ y. y.1 ≤ clock) x.seen) made.is
      (late k made.of made.at)

-- passes without entries of their own, and whoever has done nothing yet
pub none_own : (clock : ℕ) (row : List TimedKnown) (port : Option ℕ) → AreUpTo clock row →
    ((k : ℕ) (v : TimedKnown) → slice_get row k ≡ Some v → v.own ≡ []) →
    AreTimelyOpen clock row (record { port = port; dids = []; heard = [] })
none_own clock row port late none = record {
  timely = record {
    late = late;
    told = (tt, refl);
    position = λ k i. 0;
    own = λ k i x own. absurd (subst (In i) (none k own.pass own.there) own.own);
    kept = λ k i j l x y own other apart not_later.
        absurd (subst (In i) (none k own.pass own.there) own.own);
  };
  none_closed = λ k i x own. absurd (subst (In i) (none k own.pass own.there) own.own);
}

-- the passes that a split makes
pub split_open : (clock : ℕ) (row : List TimedKnown) → AreUpTo clock row →
    AreTimelyOpen clock (map split_view row) feeder
split_open clock row late = none_own clock (map split_view row) None
    (λ k w at. (let made = made_so split_view row k w at in
    subst (λ (x : TimedKnown). EachIs (λ y. y.1 ≤ clock) x.seen) made.is (late k made.of made.at)))
    (λ k w at. (let made = made_so split_view row k w at in
    ap (λ (x : TimedKnown). x.own) (sym made.is)))

-- ---- a port does something more

module _ (clock time port : ℕ) (row : List TimedKnown)
    (later : clock ≤ time) (dids more : List Did) (heard letters : List Post)
    (is : AreTimelyOpen clock row (port_with port dids heard))
    (told : AreAllEarly (suc time) (dids ++ more) (heard ++ letters)) where
  done_more : AreTimelyOpen time row (port_with port (dids ++ more) (heard ++ letters))
  done_more = record {
    timely = record {
      late = λ k v at. each_map (λ x. x.1 ≤ clock) (λ x. x.1 ≤ time) v.seen
          (λ x l. le_trans l later) (is.timely.late k v at);
      told = told;
      position = is.timely.position;
      own = λ k i x own. rests_longer row (Some port) dids more heard letters x.1
          (is.timely.position k i) x.0.event (is.none_closed k i x own) (is.timely.own k i x own);
      kept = is.timely.kept;
    };
    none_closed = is.none_closed;
  }

-- it receives a letter
pub heard_open : (clock time port : ℕ) (row : List TimedKnown) (dids : List Did)
    (heard : List Post) (p : Post) → clock ≤ time → p.time ≤ time →
    AreTimelyOpen clock row (port_with port dids heard) →
    AreTimelyOpen time row (port_with port
    (dids ++ Received p.letter.queue p.letter.number p.letter.visit ∷ []) (heard ++ p ∷ []))
heard_open clock time port row dids heard p later also is =
    done_more clock time port row later dids
    (Received p.letter.queue p.letter.number p.letter.visit ∷ []) heard (p ∷ []) is
    (all_heard (suc time) p dids heard (omega (arith, also))
    (all_later (suc clock) (suc time) dids heard (omega (arith, later)) is.timely.told))

-- it sends a message that asks for nothing, or is refused
pub sent_open : (clock port call : ℕ) (words : AskWords) (answer : Option ℕ)
    (row : List TimedKnown) (dids : List Did) (heard : List Post) →
    AreTimelyOpen clock row (port_with port dids heard) →
    AreTimelyOpen clock row (port_with port (dids ++ Sent call words answer ∷ []) heard)
sent_open clock port call words answer row dids heard is =
    subst (λ (ps : List Post). AreTimelyOpen clock row
    (port_with port (dids ++ Sent call words answer ∷ []) ps)) (append-nil heard)
    (done_more clock clock port row (omega arith) dids (Sent call words answer ∷ []) heard [] is
    (subst (λ (ps : List Post). AreAllEarly (suc clock) (dids ++ Sent call words answer ∷ []) ps)
    (sym (append-nil heard)) (all_sent (suc clock) call words answer dids heard is.timely.told)))

-- and the log then has the message with the number that the log gave it
pub noted_open : (clock port : ℕ) (row : List TimedKnown) (dids before logged : List Did)
    (call : ℕ) (words : AskWords) (answer : Option ℕ) (heard : List Post) → before ≡ dids →
    call ≡ next_call dids → logged ≡ before ++ Sent (next_call before) words answer ∷ [] →
    AreTimelyOpen clock row (port_with port (dids ++ Sent call words answer ∷ []) heard) →
    AreTimelyOpen clock row (port_with port logged heard)
noted_open clock port row dids before logged call words answer heard same number noted is =
    subst (λ (ds : List Did). AreTimelyOpen clock row (port_with port ds heard))
    (sym (noted ∙ ap (λ (ds : List Did). ds ++ Sent (next_call ds) words answer ∷ []) same
    ∙ ap (λ n. dids ++ Sent n words answer ∷ []) (sym number))) is
