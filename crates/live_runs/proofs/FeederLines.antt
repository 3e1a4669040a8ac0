-- The feeder: each of its calls keeps the lines that can be put into each queue's history.
use Rattle.std.proofs.Common.{◌*◌, ◌++◌, ◌+◌, ◌<◌, ◌∙◌, ◌∷◌, ◌≡◌, ◌≤◌, ◌⊎◌, Bool, List, None}
use Rattle.std.proofs.Common.{Option, Some, [], ap, append-nil, append_assoc, arith, false, inl}
use Rattle.std.proofs.Common.{inr, refl, subst, sym, true, ℕ}
use Rattle.std.proofs.Math.Nat.{mod-lt}
use Rattle.std.proofs.lemmas.Bool.{cases_Bool, eq-eqb, eqb-true, ne_eqb}
use Rattle.std.specs.Prelude.{◌==◌, flat_map}
use Rattle.packet_entry.specs.declared.packet.Card.{Card}
use Rattle.hook_chain.specs.declared.chain.Next.{Next}
use Rattle.hook_chain.specs.declared.chain.Next.TheVariants.{Released, To}
use Rattle.queue_core.specs.State.{Bound}
use Rattle.queue_core.specs.declared.event.Event.{Event}
use Rattle.queue_core.specs.declared.event.Event.TheVariants.{Arrive, Ask, DeviceDown, PortClosed}
use Rattle.histories.specs.Happenings.{down_of, downs}
use Rattle.histories.specs.States.{entry_of, every_number, state_of}
use Rattle.histories.specs.declared.entry.Entry.{Entry}
use Rattle.histories.specs.Places.{place_for}
use Rattle.script_lines.specs.declared.line.Down.{Down}
use Rattle.run_parts.specs.Feeder.{IsNoDown, times_of_event}
use Rattle.run_parts.specs.Underway.{AllFed}
use Rattle.live_runs.specs.Calls.{Enters, Falls, FallsAt, Feeds, IsLater, IsLaterEvent, IsTurn}
use Rattle.live_runs.specs.Calls.{entering}
use Rattle.live_runs.specs.Feeding.{TakesDownTo}
use Rattle.live_runs.specs.Owners.{IsFeeders, IsFeedersEvent, IsFeeding, IsNotFed}
use Rattle.live_runs.specs.Seen.{EachIs, Grows, OursAre, Seen, Shares, TheirsAre, all_ours, entries}
use Rattle.live_runs.proofs.LowerLaws.{FeedingLaws}
use Rattle.live_runs.proofs.Marks.{each_of_both, entries_append, grows_as, grows_on, same_grows}
use Rattle.live_runs.proofs.Marks.{theirs_front, theirs_rest, turn_entries, turn_grows, turn_guard}
use Rattle.live_runs.proofs.Marks.{turn_others}

-- others' entries go on with it
others_fed : FeedingLaws → (time : ℕ) (fallen : List Down) (es fs : List Entry) →
    EachIs IsNotFed fs → AllFed time fallen es → AllFed time fallen (es ++ fs)
others_fed laws time fallen es [] are is = subst (AllFed time fallen) (sym (append-nil es)) is
others_fed laws time fallen es (f ∷ fs) are is =
    subst (AllFed time fallen) (append_assoc es (f ∷ []) fs)
    (others_fed laws time fallen (es ++ f ∷ []) fs are.1
    (laws.entry time fallen es f are.0.0 (inl are.0.1) is))

later_event : (event : Event) → IsLaterEvent event → IsNoDown event × (times_of_event event ≡ [])
later_event (Arrive card bypass room) later =
    (tt, rw (ne_eqb card.visit 1 (λ same. absurd (omega (arith, same, later)))) refl)
later_event (Ask port call request) later = absurd later
later_event (PortClosed port) later = absurd later
later_event (DeviceDown device) later = absurd later

pub later_not_fed : (e : Entry) → IsLater e → IsNotFed e
later_not_fed e later = later_event e.event later

pub grown_feeding : FeedingLaws → (time : ℕ) (fallen : List Down) (xs ys : List Seen) →
    Grows IsNotFed xs ys → IsFeeding time fallen xs → IsFeeding time fallen ys
grown_feeding laws time fallen xs ys g is = record {
  fed = λ guard.
      let so = subst (TheirsAre IsNotFed) g.is guard in
      subst (λ (zs : List Seen). AllFed time fallen (entries zs)) (sym g.is)
      (subst (AllFed time fallen) (sym (entries_append xs g.more))
      (others_fed laws time fallen (entries xs) (entries g.more)
      (each_of_both IsNotFed g.more g.ours (theirs_rest IsNotFed xs g.more so))
      (is.fed (theirs_front IsNotFed xs g.more so))));
}

pub later_feeding : FeedingLaws → (t u : ℕ) (fallen : List Down) (xs : List Seen) → t ≤ u →
    IsFeeding t fallen xs → IsFeeding u fallen xs
later_feeding laws t u fallen xs less is = record {
  fed = λ guard. laws.later t u fallen fallen (entries xs) less refl (is.fed guard);
}

-- a turn of the feeder
turn_feeding : FeedingLaws → (t u : ℕ) (fallen more : List Down) (others mine : List Entry)
    (xs ys : List Seen) → IsTurn others mine xs ys →
    (AllFed t fallen (entries xs ++ others) → AllFed u more ((entries xs ++ others) ++ mine)) →
    IsFeeding t fallen xs → IsFeeding u more ys
turn_feeding laws t u fallen more others mine xs ys turn goes is = record {
  fed = λ guard. subst (AllFed u more) (sym (turn_entries others mine xs ys turn))
      (goes (others_fed laws t fallen (entries xs) others
      (turn_others IsNotFed others mine xs ys turn guard)
      (is.fed (turn_guard IsNotFed others mine xs ys turn guard))));
}

-- all places
abbrev pub AreFeeding : ℕ → ℕ → List Down → Shares → Type 0
AreFeeding places time fallen shares = (k : ℕ) → k < places → IsFeeding time fallen (shares k)

-- a packet enters
pub enters_feeding : FeedingLaws → (places queue table time number : ℕ) (bypass : Bool)
    (fallen : List Down)
    (card : Card) (old new : Shares) → 0 < places → card.number ≡ number → time ≤ 2 * number →
    Enters places queue table bypass card old new → AreFeeding places time fallen old →
    AreFeeding places (2 * number + 1) fallen new
enters_feeding laws places queue table time number bypass fallen card old new some at less is are k
    within = by (cases_Bool (k == (place_for queue places)))
  where
    here : ℕ
    here = place_for queue places

    later : (xs ys : List Seen) → Grows IsLater xs ys → Grows IsNotFed xs ys
    later xs ys g = grows_as IsLater IsNotFed later_not_fed xs ys g

    e : Entry
    e = entry_of (entries (old here) ++ is.others) queue
        (entering table bypass card is.room)

    by : ((k == here) ≡ true) ⊎ ((k == here) ≡ false) →
        IsFeeding (2 * number + 1) fallen (new k)
    by (inl h) = subst (λ j. IsFeeding (2 * number + 1) fallen (new j))
        (sym (eqb-true k here h))
        (grown_feeding laws (2 * number + 1) fallen is.between (new here)
        (later is.between (new here) is.here)
        (turn_feeding laws time (2 * number + 1) fallen fallen is.others (e ∷ []) (old here)
        is.between
        is.turn
        (λ fed. laws.first time number fallen (entries (old here) ++ is.others) e tt
        (ap (λ n. 2 * n ∷ (2 * n + 1) ∷ []) at) less fed) (are here (mod-lt queue some))))
    by (inr h) = grown_feeding laws (2 * number + 1) fallen (old k) (new k)
        (later (old k) (new k) (is.elsewhere k (λ same. differ (eq-eqb k here same))))
        (later_feeding laws time (2 * number + 1) fallen (old k) (omega (arith, less))
        (are k within))
      where
        differ : (k == here) ≡ true → ⊥
        differ it_is = absurd (cc)

pub feeds_feeding : FeedingLaws → (places time number : ℕ) (route : Next) (fallen : List Down)
    (card : Card) (old new : Shares) → 0 < places → card.number ≡ number → time ≤ 2 * number →
    Feeds places route card old new → AreFeeding places time fallen old →
    AreFeeding places (2 * number + 1) fallen new
feeds_feeding laws places time number Released fallen card old new some at less is are k within =
    subst (IsFeeding (2 * number + 1) fallen) (sym (is k))
    (later_feeding laws time (2 * number + 1) fallen (old k) (omega (arith, less)) (are k within))
feeds_feeding laws places time number (To queue bypass table) fallen card old new some at less is
    are k within = enters_feeding laws places queue table time number bypass fallen card old new some
    at less is are k within

-- a device goes down at a place
pub falls_feeding : FeedingLaws → (place time : ℕ) (fallen : List Down) (d : Down)
    (old new : Shares) →
    time ≤ 2 * d.after + 1 → Falls d.device place old new → IsFeeding time fallen (old place) →
    IsFeeding (2 * d.after + 1) (fallen ++ d ∷ []) (new place)
falls_feeding laws place time fallen d old new less is was =
    let es = entries (old place) ++ is.others in
    turn_feeding laws time (2 * d.after + 1) fallen (fallen ++ d ∷ []) is.others (downs d.device es)
    (old place) (new place) is.turn (λ fed. laws.line time fallen d es less fed) was

-- ---- what is new is the feeder's own

event_downs : (device : ℕ) (es : List Entry) → OursAre IsFeeders (all_ours (downs device es))
event_downs device es = all_places every_number
  where
    one : (k : ℕ) (o : Option Bound) → OursAre IsFeeders (all_ours (down_of device k o))
    one k None = tt
    one k (Some b) = (tt, tt)

    more : (xs ys : List Entry) → OursAre IsFeeders (all_ours xs) →
        OursAre IsFeeders (all_ours ys) →
        OursAre IsFeeders (all_ours (xs ++ ys))
    more [] ys one two = two
    more (x ∷ xs) ys one two = (one.0, more xs ys one.1 two)

    all_places : (ks : List ℕ) →
        OursAre IsFeeders (all_ours (flat_map (λ k. down_of device k (state_of es k)) ks))
    all_places [] = tt
    all_places (k ∷ ks) = more (down_of device k (state_of es k)) _ (one k (state_of es k))
        (all_places ks)

falls_grows : (device place : ℕ) (old new : Shares) → Falls device place old new → (k : ℕ) →
    Grows IsFeeders (old k) (new k)
falls_grows device place old new f k = by (cases_Bool (k == place))
  where
    by : ((k == place) ≡ true) ⊎ ((k == place) ≡ false) → Grows IsFeeders (old k) (new k)
    by (inl h) = subst (λ j. Grows IsFeeders (old j) (new j)) (sym (eqb-true k place h))
        (turn_grows IsFeeders f.others (downs device (entries (old place) ++ f.others)) (old place)
        (new place) f.turn (event_downs device (entries (old place) ++ f.others)))
    by (inr h) = same_grows IsFeeders (old k) (new k)
        (f.elsewhere k (λ same. no_way (eq-eqb k place same)))
      where
        no_way : (k == place) ≡ true → ⊥
        no_way wrong = absurd (cc)

later_feeders : (e : Entry) → IsLater e → IsFeeders e
later_feeders e later = by e.event later
  where
    by : (event : Event) → IsLaterEvent event → IsFeedersEvent event
    by (Arrive card bypass room) later = tt
    by (Ask port call request) later = absurd later
    by (PortClosed port) later = absurd later
    by (DeviceDown device) later = absurd later

enters_grows : (places queue table : ℕ) (bypass : Bool) (card : Card) (old new : Shares) →
    Enters places queue table bypass card old new → (k : ℕ) → Grows IsFeeders (old k) (new k)
enters_grows places queue table bypass card old new is k = by
    (cases_Bool (k == (place_for queue places)))
  where
    here : ℕ
    here = place_for queue places

    by : ((k == here) ≡ true) ⊎ ((k == here) ≡ false) → Grows IsFeeders (old k) (new k)
    by (inl h) = subst (λ j. Grows IsFeeders (old j) (new j)) (sym (eqb-true k here h))
        (grows_on IsFeeders (old here) is.between (new here)
        (turn_grows IsFeeders is.others (entry_of (entries (old here) ++ is.others) queue
        (entering table bypass card is.room) ∷ []) (old here) is.between is.turn (tt, tt))
        (grows_as IsLater IsFeeders later_feeders is.between (new here) is.here))
    by (inr h) = grows_as IsLater IsFeeders later_feeders (old k) (new k)
        (is.elsewhere k (λ same. no_way (eq-eqb k here same)))
      where
        no_way : (k == here) ≡ true → ⊥
        no_way wrong = absurd (cc)

pub feeds_grows : (places : ℕ) (route : Next) (card : Card) (old new : Shares) →
    Feeds places route card old new → (k : ℕ) → Grows IsFeeders (old k) (new k)
feeds_grows places Released card old new is k = same_grows IsFeeders (old k) (new k) (is k)
feeds_grows places (To queue bypass table) card old new is k =
    enters_grows places queue table bypass card old new is k

-- ---- at each place

pub nothing_down : (places : ℕ) (d : Down) (old : Shares) → TakesDownTo 0 places d old old
nothing_down places d old = record {
  done = λ time fallen less k below within is. absurd (omega (arith, below));
  turned = λ k below. absurd (omega (arith, below));
  rest = λ k least. refl;
  grows = λ k. same_grows IsFeeders (old k) (old k) refl;
}

pub one_down : FeedingLaws → (place places : ℕ) (d : Down) (old mid new : Shares) →
    TakesDownTo place places d old mid → Falls d.device place mid new →
    TakesDownTo (place + 1) places d old new
one_down laws place places d old mid new so f = record {
  done = λ time fallen less k below within is. by k time fallen less below within is
      (cases_Bool (k == place));
  turned = λ k below. turn_of k below (cases_Bool (k == place));
  rest = λ k least. f.elsewhere k (λ same. absurd (omega (arith, least, same)))
      ∙ so.rest k (omega (arith, least));
  grows = λ k. grows_on IsFeeders (old k) (mid k) (new k) (so.grows k)
      (falls_grows d.device place mid new f k);
}
  where
    by : (k time : ℕ) (fallen : List Down) → time ≤ 2 * d.after + 1 → k < place + 1 → k < places →
        IsFeeding time fallen (old k) → ((k == place) ≡ true) ⊎ ((k == place) ≡ false) →
        IsFeeding (2 * d.after + 1) (fallen ++ d ∷ []) (new k)
    by k time fallen less below within is (inl h) =
        let same : k ≡ place = eqb-true k place h in
        subst (λ j. IsFeeding (2 * d.after + 1) (fallen ++ d ∷ []) (new j)) (sym same)
        (falls_feeding laws place time fallen d mid new less f
        (subst (IsFeeding time fallen) (sym (so.rest place (omega arith)))
        (subst (λ j. IsFeeding time fallen (old j)) same is)))
    by k time fallen less below within is (inr h) =
        let away : k ≡ place → ⊥ = λ same. no_way (eq-eqb k place same) in
        subst (IsFeeding (2 * d.after + 1) (fallen ++ d ∷ [])) (sym (f.elsewhere k away))
        (so.done time fallen less k (before k below away) within is)
      where
        no_way : (k == place) ≡ true → ⊥
        no_way wrong = absurd (cc)

        before : (k : ℕ) → k < place + 1 → (k ≡ place → ⊥) → k < place
        before k below away = omega (arith, below, away)

    turn_of : (k : ℕ) → k < place + 1 → ((k == place) ≡ true) ⊎ ((k == place) ≡ false) →
        FallsAt d.device (old k) (new k)
    turn_of k below (inl h) =
        subst (λ j. FallsAt d.device (old j) (new j)) (sym (eqb-true k place h))
        (subst (λ xs. FallsAt d.device xs (new place)) (so.rest place (omega arith))
        (record { others = f.others; turn = f.turn }))
    turn_of k below (inr h) =
        let away : k ≡ place → ⊥ = λ same. no_way (eq-eqb k place same) in
        subst (FallsAt d.device (old k)) (sym (f.elsewhere k away))
        (so.turned k (omega (arith, below, away)))
      where
        no_way : (k == place) ≡ true → ⊥
        no_way wrong = absurd (cc)

-- where nothing has happened yet
pub first_feeding : FeedingLaws → IsFeeding 0 [] []
first_feeding laws = record {
  fed = λ guard. record { each = λ queue below. laws.none };
}
