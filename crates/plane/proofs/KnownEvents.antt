-- What an event of a row's own rests on is known at the places, once nothing more happens: what the
-- row has seen begins their lists, and the letters that its port received were posted there.
use Rattle.std.proofs.Common.{◌≡◌, ◌<◌, ◌≤◌, ◌+◌, ℕ, List, [], ◌∷◌, ◌++◌, sym, ap}
use Rattle.std.proofs.Common.{subst, ◌∙◌, arith, take, length, append_assoc}
use Rattle.std.specs.Prelude.{slice_get, Option, Some, None}
use Rattle.std.proofs.lemmas.Option.{slice_get_within}
use mathlib.Core.List.{IsPrefix}
use Rattle.mailbox.specs.declared.view.Post.{Post}
use Rattle.queue_core.specs.declared.event.Event.{Event}
use Rattle.queue_core.specs.declared.event.Event.TheVariants.{Arrive, Ask, PortClosed, DeviceDown}
use Rattle.histories.specs.declared.entry.Entry.{Entry}
use Rattle.histories.specs.declared.log.Did.{Did}
use Rattle.histories.specs.declared.log.Did.TheVariants.{Received, Sent, Closed}
use Rattle.histories.specs.declared.log.PortLog.{PortLog}
use Rattle.histories.specs.History.{history}
use Rattle.total_order.specs.Orders.{EachIs, untimed}
use Rattle.total_order.specs.Places.{Lists, IsKnown, AreHeard, IsKnownAs}
use Rattle.total_order.specs.Steps.{Has, HasCome, taken, log_of, IsSent}
use Rattle.place_rows.specs.Rows.{TimedKnown}
use Rattle.place_rows.specs.Timed.{IsPostedIn, seen_by, seen_in}
use Rattle.place_turns.specs.Timely.{AreEarly, HasSeenBefore, Holder, RestsOn}
use Rattle.plane.proofs.TimedSteps.{steps, entries_of, steps_begin, each_step}

-- the list of a place, where there is one
abbrev pub list_in : Option (List (Entry × ℕ)) → List (Entry × ℕ)
list_in None = []
list_in (Some list) = list

abbrev pub list_of : List (List (Entry × ℕ)) → ℕ → List (Entry × ℕ)
list_of lists k = list_in (slice_get lists k)

-- and its steps, with a position for each
abbrev pub steps_of : List (List (Entry × ℕ)) → (ℕ → ℕ → ℕ) → Lists
steps_of lists at k = steps (at k) 0 (list_of lists k)

-- what begins a beginning begins the list
prefix_trans : {A : Type 0} (xs ys zs : List A) → IsPrefix xs ys → IsPrefix ys zs → IsPrefix xs zs
prefix_trans xs ys zs p q =
    (p.0 ++ q.0, sym (append_assoc xs p.0 q.0) ∙ ap (λ (w : List _). w ++ q.0) p.1 ∙ q.1)

-- what is earlier than a time is earlier than a later one
each_later : (time later : ℕ) (xs : List (Entry × ℕ)) → time ≤ later →
    EachIs (λ x. x.1 < time) xs → EachIs (λ x. x.1 < later) xs
each_later time later [] most all = tt
each_later time later (x ∷ xs) most all =
    let less = all.0 in
    (omega (arith, less, most), each_later time later xs most all.1)

module _ (lists : List (List (Entry × ℕ))) (at : ℕ → ℕ → ℕ) where
  -- an early beginning of a place's list
  pub front_known : (k time : ℕ) (front : List (Entry × ℕ)) (Q : List Entry → Type 0) →
      k < length lists → IsPrefix front (list_of lists k) → EachIs (λ x. x.1 < time) front →
      Q (untimed front) → IsKnown (length lists) (steps_of lists at) time Q
  front_known k time front Q within begins early so = record {
    place = k;
    within = within;
    front = steps (at k) 0 front;
    begins = steps_begin (at k) 0 front (list_of lists k) begins;
    early = each_step (λ x. x.1 < time) (λ x. x.1 < time) (at k) (λ i x less. less) 0 front early;
    so = subst Q (sym (entries_of (at k) 0 front)) so;
  }

  -- a letter that was posted before this time
  post_known : (time : ℕ) (p : Post) → p.time < time → IsPostedIn lists p →
      IsKnown (length lists) (steps_of lists at) time
      (λ es. Has p.letter.number p.letter.visit (taken (history p.letter.queue es)))
  post_known time p less in_list = front_known in_list.place time in_list.front
      (λ es. Has p.letter.number p.letter.visit (taken (history p.letter.queue es)))
      (slice_get_within lists in_list.place in_list.list in_list.at)
      (subst (λ (l : List (Entry × ℕ)). IsPrefix in_list.front l)
      (sym (ap list_in in_list.at)) in_list.begins)
      (each_later (p.time + 1) time in_list.front (omega (arith, less)) in_list.early)
      in_list.posted

  -- of early notices the arrivals are known
  heard_known : (time : ℕ) (ds : List Did) (ps : List Post) → AreEarly time ds ps →
      EachIs (IsPostedIn lists) ps → AreHeard (length lists) (steps_of lists at) time ds
  heard_known time [] ps early posted = tt
  heard_known time (Received queue number visit ∷ ds) [] early posted = absurd early
  heard_known time (Received queue number visit ∷ ds) (p ∷ ps) early posted = (
    subst (λ q. IsKnown (length lists) (steps_of lists at) time
        (λ es. Has number visit (taken (history q es)))) early.0
        (subst (λ n. IsKnown (length lists) (steps_of lists at) time
        (λ es. Has n visit (taken (history p.letter.queue es)))) early.1
        (subst (λ v. IsKnown (length lists) (steps_of lists at) time
        (λ es. Has p.letter.number v (taken (history p.letter.queue es)))) early.2
        (post_known time p early.3 posted.0))),
    heard_known time ds ps early.4 posted.1,
  )
  heard_known time (Sent call ask answer ∷ ds) ps early posted =
      heard_known time ds ps early posted
  heard_known time (Closed ∷ ds) ps early posted = heard_known time ds ps early posted

  module _ (row : List TimedKnown) (as_many : length row ≡ length lists)
      (begins : (k : ℕ) → k < length lists → IsPrefix (seen_in row k) (list_of lists k)) where
    -- what a row has seen before a time
    seen_known : (time : ℕ) (Q : List Entry → Type 0) → HasSeenBefore row time Q →
        IsKnown (length lists) (steps_of lists at) time Q
    seen_known time Q seen =
        let within = slice_get_within row seen.place seen.pass seen.there in
        front_known seen.place time seen.front Q (omega (arith, within, as_many))
        (prefix_trans seen.front seen.pass.seen (list_of lists seen.place) seen.begins
        (subst (λ (l : List (Entry × ℕ)). IsPrefix l (list_of lists seen.place))
        (ap seen_by seen.there) (begins seen.place (omega (arith, within, as_many)))))
        seen.early seen.so

    -- what an event of its own rests on
    pub rest_known : (h : Holder) (logs : List PortLog) (time n : ℕ) (event : Event) →
        EachIs (IsPostedIn lists) h.heard →
        ((port : ℕ) → h.port ≡ Some port → log_of port logs ≡ h.dids) →
        RestsOn row h time n event →
        IsKnownAs (length lists) (steps_of lists at) logs time n event
    rest_known h logs time n (Arrive card bypass room) posted logged rests =
        seen_known time (HasCome card.number card.visit) rests
    rest_known h logs time n (Ask port call request) posted logged rests =
        subst (λ (ds : List Did). IsSent call (slice_get ds n)
        × AreHeard (length lists) (steps_of lists at) time (take n ds))
        (sym (logged port rests.0))
        (rests.2, heard_known time (take n h.dids) h.heard rests.3 posted)
    rest_known h logs time n (PortClosed port) posted logged rests =
        subst (λ (ds : List Did). AreHeard (length lists) (steps_of lists at) time ds)
        (sym (logged port rests.0)) (heard_known time h.dids h.heard rests.1 posted)
    rest_known h logs time n (DeviceDown device) posted logged rests = tt
