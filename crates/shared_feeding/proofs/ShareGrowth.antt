-- A feeder's share goes on with one thing more that it sees or does.
use Rattle.std.proofs.Common.{◌*◌, ◌++◌, ◌+◌, ◌∙◌, ◌∷◌, ◌≡◌, ◌≤◌, Bool, List, None, Option, Some}
use Rattle.std.proofs.Common.{[], ap, append-nil, append_assoc, arith, false, refl, subst, sym}
use Rattle.std.proofs.Common.{true, ℕ}
use Rattle.std.proofs.lemmas.List.Concat.{flat_map-append}
use Rattle.std.specs.Prelude.{◌==◌, flat_map, if◌then◌else◌}
use Rattle.queue_core.specs.State.{Bound}
use Rattle.queue_core.specs.declared.event.Event.{Event}
use Rattle.queue_core.specs.declared.event.Event.TheVariants.{Arrive, Ask, DeviceDown, PortClosed}
use Rattle.histories.specs.Happenings.{down_of}
use Rattle.histories.specs.History.{is_of, replay_from}
use Rattle.histories.specs.States.{entry_in}
use Rattle.histories.specs.declared.entry.Entry.{Entry}
use Rattle.histories.specs.QueueHistories.{replay_on}
use Rattle.script_lines.specs.declared.line.Down.{Down}
use Rattle.run_parts.specs.Ascending.{AscendFrom}
use Rattle.run_parts.specs.Feeder.{Fell, IsNoDown, Passed, Was, entries_of}
use Rattle.run_parts.specs.Feeder.{times_of_event}
use Rattle.run_parts.specs.Underway.{last_of}
use Rattle.live_runs.specs.Owners.{IsNotFed}
use Rattle.live_runs.specs.Seen.{Ours, OursAre, Seen, Theirs, all_ours, entries}
use Rattle.shared_feeding.specs.Sights.{AreSightsFrom, AscendTo, IsEventOf, IsFrameOf, IsShareOf}
use Rattle.shared_feeding.specs.Sights.{IsSight, IsThis, Own, OwnAreOf, Saw, Sight, front_time}
use Rattle.shared_feeding.specs.Sights.{history_seen, item_of, own_lines, own_times, seen_of}

-- ---- the entries under what is seen and done

abbrev pub under : Sight → List Entry
under s = entries_of (item_of s)

pub under_is : (ss : List Sight) → flat_map under ss ≡ entries (flat_map seen_of ss)
under_is [] = refl
under_is (Saw e ∷ ss) = ap (λ es. e ∷ es) (under_is ss)
under_is (Own (Was e) ∷ ss) = ap (λ es. e ∷ es) (under_is ss)
under_is (Own (Fell d e) ∷ ss) = ap (λ es. e ∷ es) (under_is ss)
under_is (Own (Passed d) ∷ ss) = under_is ss

sights_push : (q : Option Bound) (ss : List Sight) (s : Sight) → AreSightsFrom q ss →
    IsSight (replay_from q (flat_map under ss)) s → AreSightsFrom q (ss ++ s ∷ [])
sights_push q [] s are next = (next, tt)
sights_push q (x ∷ ss) s are next = (
  are.0,
  sights_push (replay_from q (under x)) ss s are.1
      (subst (λ p. IsSight p s) (replay_on q (under x) (flat_map under ss)) next),
)

own_push : (Frame : ℕ → Type 0) (ss : List Sight) (s : Sight) → OwnAreOf Frame ss →
    OwnAreOf Frame (s ∷ []) → OwnAreOf Frame (ss ++ s ∷ [])
own_push Frame [] s are one = one
own_push Frame (Saw e ∷ ss) s are one = own_push Frame ss s are one
own_push Frame (Own i ∷ ss) s are one = (are.0, own_push Frame ss s are.1 one)

-- ---- times

ascend_push : (low : ℕ) (xs : List ℕ) (k : ℕ) → AscendFrom low xs → last_of low xs ≤ k →
    AscendFrom low (xs ++ k ∷ [])
ascend_push low [] k are least = (least, tt)
ascend_push low (x ∷ xs) k are least = (are.0, ascend_push x xs k are.1 least)

last_push : (low : ℕ) (xs : List ℕ) (k : ℕ) → last_of low (xs ++ k ∷ []) ≡ k
last_push low [] k = refl
last_push low (x ∷ xs) k = last_push x xs k

time_push : (low high k : ℕ) (xs : List ℕ) → high ≤ k → AscendTo low high xs →
    AscendTo low k (xs ++ k ∷ [])
time_push low high k xs less is = record {
  ascend = ascend_push low xs k is.ascend (omega (arith, is.last, less));
  last = omega (arith, last_push low xs k);
}

pub twice_push : (low high k : ℕ) (xs : List ℕ) → high ≤ k → AscendTo low high xs →
    AscendTo low (k + 1) (xs ++ k ∷ (k + 1) ∷ [])
twice_push low high k xs less is =
    subst (AscendTo low (k + 1)) (append_assoc xs (k ∷ []) ((k + 1) ∷ []))
    (time_push low k (k + 1) (xs ++ k ∷ []) (omega arith) (time_push low high k xs less is))

pub time_later : (low high later : ℕ) (xs : List ℕ) → high ≤ later → AscendTo low high xs →
    AscendTo low later xs
time_later low high later xs less is =
    record { ascend = is.ascend; last = omega (arith, is.last, less) }

no_time : (low high : ℕ) (xs ys : List ℕ) → ys ≡ [] → AscendTo low high xs →
    AscendTo low high (xs ++ ys)
no_time low high xs ys none is =
    subst (λ zs. AscendTo low high (xs ++ zs)) (sym none)
    (subst (AscendTo low high) (sym (append-nil xs)) is)

-- ---- one thing more

module _ (feeders feeder : ℕ) (q : Option Bound) where
  abbrev Shared : ℕ → List Down → List Seen → Type 0
  Shared time fallen h = IsShareOf feeders feeder time q fallen h

  pub share_push : (time later : ℕ) (fallen : List Down) (h : List Seen) (s : Sight) →
      IsSight (replay_from q (entries h)) s →
      OwnAreOf (IsFrameOf feeders (IsThis feeder)) (s ∷ []) →
      ((xs : List ℕ) → AscendTo front_time time xs →
      AscendTo front_time later (xs ++ own_times s)) →
      Shared time fallen h → Shared later (fallen ++ own_lines s) (h ++ seen_of s)
  share_push time later fallen h s at of on is = record {
    sights = is.sights ++ s ∷ [];
    seen = flat_map-append seen_of is.sights (s ∷ [])
        ∙ ap (λ xs. xs ++ (seen_of s ++ [])) is.seen
        ∙ ap (λ xs. h ++ xs) (append-nil (seen_of s));
    each = sights_push q is.sights s is.each
        (subst (λ es. IsSight (replay_from q es) s)
        (sym (under_is is.sights ∙ ap entries is.seen)) at);
    own = own_push (IsFrameOf feeders (IsThis feeder)) is.sights s is.own of;
    lines = flat_map-append own_lines is.sights (s ∷ [])
        ∙ ap (λ ls. ls ++ (own_lines s ++ [])) is.lines
        ∙ ap (λ ls. fallen ++ ls) (append-nil (own_lines s));
    times = subst (AscendTo front_time later) (sym (flat_map-append own_times is.sights (s ∷ [])
        ∙ ap (λ ts. flat_map own_times is.sights ++ ts) (append-nil (own_times s))))
        (on (flat_map own_times is.sights) is.times);
  }

  pub share_later : (time later : ℕ) (fallen : List Down) (h : List Seen) → time ≤ later →
      Shared time fallen h → Shared later fallen h
  share_later time later fallen h less is = record {
    sights = is.sights;
    seen = is.seen;
    each = is.each;
    own = is.own;
    lines = is.lines;
    times = time_later front_time time later (flat_map own_times is.sights) less is.times;
  }

  -- another's entry
  saw_push : (time : ℕ) (fallen : List Down) (h : List Seen) (e : Entry) →
      Shared time fallen h → Shared time fallen (h ++ Theirs e ∷ [])
  saw_push time fallen h e is =
      subst (λ ls. Shared time ls (h ++ Theirs e ∷ [])) (append-nil fallen)
      (share_push time time fallen h (Saw e) tt tt
      (λ xs were. no_time front_time time xs [] refl were) is)

  -- an own entry that takes up no time
  quiet_event : (Frame : ℕ → Type 0) (event : Event) → times_of_event event ≡ [] →
      IsEventOf Frame event
  quiet_event Frame (Arrive card bypass room) none = λ first.
      absurd (by (card.visit == 1) (rw first refl) none)
    where
      by : (c : Bool) → c ≡ true →
          (if c then 2 * card.number ∷ (2 * card.number + 1) ∷ [] else []) ≡ [] → ⊥
      by true is wrong = absurd (cc)
      by false wrong none = absurd (cc)
  quiet_event Frame (Ask port call request) none = tt
  quiet_event Frame (PortClosed port) none = tt
  quiet_event Frame (DeviceDown device) none = tt

  quiet_push : (time : ℕ) (fallen : List Down) (h : List Seen) (e : Entry) → IsNotFed e →
      Shared time fallen h → Shared time fallen (h ++ Ours e ∷ [])
  quiet_push time fallen h e not_fed is =
      subst (λ ls. Shared time ls (h ++ Ours e ∷ [])) (append-nil fallen)
      (share_push time time fallen h (Own (Was e)) not_fed.0
      (quiet_event (IsFrameOf feeders (IsThis feeder)) e.event not_fed.1, tt)
      (λ xs were. no_time front_time time xs (times_of_event e.event) not_fed.1 were) is)

  -- an entry, if it is of the queue, and then the rest
  if_of_queue : (c : Bool) (time : ℕ) (fallen : List Down) (h rest : List Seen) (x : Seen) →
      Shared time fallen h → Shared time fallen (h ++ x ∷ []) →
      ((g : List Seen) → Shared time fallen g → Shared time fallen (g ++ rest)) →
      Shared time fallen (h ++ (if c then x ∷ rest else rest))
  if_of_queue true time fallen h rest x is pushed on =
      subst (Shared time fallen) (append_assoc h (x ∷ []) rest) (on (h ++ x ∷ []) pushed)
  if_of_queue false time fallen h rest x is pushed on = on h is

  -- the entries of a list, those that are of the queue
  pub quiet_share : (queue time : ℕ) (fallen : List Down) (h ys : List Seen) →
      OursAre IsNotFed ys → Shared time fallen h →
      Shared time fallen (h ++ history_seen queue ys)
  quiet_share queue time fallen h [] are is =
      subst (Shared time fallen) (sym (append-nil h)) is
  quiet_share queue time fallen h (Theirs e ∷ ys) are is =
      if_of_queue (is_of queue e) time fallen h (history_seen queue ys) (Theirs e) is
      (saw_push time fallen h e is) (λ g so. quiet_share queue time fallen g ys are so)
  quiet_share queue time fallen h (Ours e ∷ ys) are is =
      if_of_queue (is_of queue e) time fallen h (history_seen queue ys) (Ours e) is
      (quiet_push time fallen h e are.0 is)
      (λ g so. quiet_share queue time fallen g ys are.1 so)

  -- the first arrival of a frame of the share
  first_push : (time number : ℕ) (fallen : List Down) (h : List Seen) (e : Entry) →
      IsNoDown e.event → IsEventOf (IsFrameOf feeders (IsThis feeder)) e.event →
      times_of_event e.event ≡ 2 * number ∷ (2 * number + 1) ∷ [] → time ≤ 2 * number →
      Shared time fallen h → Shared (2 * number + 1) fallen (h ++ Ours e ∷ [])
  first_push time number fallen h e plain of at less is =
      subst (λ ls. Shared (2 * number + 1) ls (h ++ Ours e ∷ [])) (append-nil fallen)
      (share_push time (2 * number + 1) fallen h (Own (Was e)) plain (of, tt)
      (λ xs were. subst (λ ts. AscendTo front_time (2 * number + 1) (xs ++ ts)) (sym at)
      (twice_push front_time time (2 * number) xs less were)) is)

  pub first_share : (queue time number : ℕ) (fallen : List Down) (h : List Seen) (e : Entry) →
      IsNoDown e.event → IsEventOf (IsFrameOf feeders (IsThis feeder)) e.event →
      times_of_event e.event ≡ 2 * number ∷ (2 * number + 1) ∷ [] → time ≤ 2 * number →
      Shared time fallen h →
      Shared (2 * number + 1) fallen (h ++ history_seen queue (Ours e ∷ []))
  first_share queue time number fallen h e plain of at less is = by (is_of queue e)
    where
      by : (c : Bool) →
          Shared (2 * number + 1) fallen (h ++ (if c then Ours e ∷ [] else []))
      by true = first_push time number fallen h e plain of at less is
      by false = subst (Shared (2 * number + 1) fallen) (sym (append-nil h))
          (share_later time (2 * number + 1) fallen h (omega (arith, less)) is)

  -- a line of the share
  pub down_share : (queue time : ℕ) (fallen : List Down) (d : Down) (h : List Seen)
      (o : Option Bound) → replay_from q (entries h) ≡ o →
      IsFrameOf feeders (IsThis feeder) d.after → time ≤ 2 * d.after + 1 → Shared time fallen h →
      Shared (2 * d.after + 1) (fallen ++ d ∷ []) (h ++ all_ours (down_of d.device queue o))
  down_share queue time fallen d h None at of less is =
      share_push time (2 * d.after + 1) fallen h (Own (Passed d)) at (of, tt)
      (λ xs were. time_push front_time time (2 * d.after + 1) xs less were) is
  down_share queue time fallen d h (Some b) at of less is =
      share_push time (2 * d.after + 1) fallen h
      (Own (Fell d (entry_in queue (Some b) (DeviceDown d.device)))) refl (of, tt)
      (λ xs were. time_push front_time time (2 * d.after + 1) xs less were) is
