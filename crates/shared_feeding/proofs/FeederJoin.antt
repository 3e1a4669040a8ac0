-- The pass of one more feeder is joined.
use Rattle.std.proofs.Common.{◌%◌, ◌*◌, ◌++◌, ◌+◌, ◌-◌, ◌<◌, ◌∙◌, ◌∷◌, ◌≡◌, ◌⊎◌, Bool, List}
use Rattle.std.proofs.Common.{Option, [], ap, arith, false, inl, inr, refl}
use Rattle.std.proofs.Common.{subst, sym, true, ℕ}
use Rattle.std.proofs.lemmas.Bool.{cases_Bool, eq-eqb, eqb-true, ne_eqb}
use Rattle.std.proofs.lemmas.List.Elements.{filter-append}
use Rattle.std.specs.Prelude.{◌==◌, filter, flat_map, if◌then◌else◌}
use Rattle.packet_entry.specs.declared.packet.Card.{Card}
use Rattle.queue_core.specs.State.{Bound}
use Rattle.queue_core.specs.declared.event.Event.{Event}
use Rattle.queue_core.specs.declared.event.Event.TheVariants.{Arrive, Ask, DeviceDown, PortClosed}
use Rattle.histories.specs.History.{history, is_of, replay}
use Rattle.histories.specs.declared.entry.Entry.{Entry}
use Rattle.script_lines.specs.declared.line.Down.{Down}
use Rattle.run_parts.specs.Ascending.{AscendFrom}
use Rattle.run_parts.specs.Feeder.{Fell, Item, Passed, Was, falling_time, is_line_of, is_share}
use Rattle.run_parts.specs.Feeder.{shared_times, times_of_event}
use Rattle.live_runs.specs.Seen.{Grows, Ours, OursAre, Seen, Theirs, all_theirs, entries, entry}
use Rattle.shared_feeding.specs.Joining.{AreJoined, AreSharesOf, IsJoinedOf, IsOneMark}
use Rattle.shared_feeding.specs.Joining.{own_times_in}
use Rattle.shared_feeding.specs.Sights.{IsBefore, IsEventOf, IsFrameOf, IsItemOf, IsShareOf}
use Rattle.shared_feeding.specs.Sights.{IsSharing, IsThis, Own, OwnAreOf, Saw, Sight, front_time}
use Rattle.shared_feeding.specs.Sights.{history_seen, own_lines, own_times, seen_of}
use Rattle.shared_feeding.proofs.ShareInvariant.{entries_theirs}
use Rattle.shared_feeding.proofs.ListUnion.{Both, SaysNone, both}

-- ---- lists that are joined, queue by queue

same_entry : (x y z : Seen) → IsOneMark x y z → (entry y ≡ entry x) × (entry z ≡ entry x)
same_entry (Ours e) (Ours f) z is = absurd is
same_entry (Ours e) (Theirs f) z is = (sym is.0, ap entry is.1)
same_entry (Theirs e) (Ours f) z is = (sym is.0, ap entry is.1)
same_entry (Theirs e) (Theirs f) z is = (sym is.0, ap entry is.1)

pub joined_none : (xs zs : List Seen) → zs ≡ xs → IsJoinedOf xs [] zs
joined_none [] zs is = is
joined_none (x ∷ xs) zs is = is

pub history_joined : (queue : ℕ) (xs ys zs : List Seen) → IsJoinedOf xs ys zs →
    IsJoinedOf (history_seen queue xs) (history_seen queue ys) (history_seen queue zs)
history_joined queue [] ys zs is = ap (history_seen queue) is
history_joined queue (x ∷ xs) [] zs is =
    joined_none (history_seen queue (x ∷ xs)) (history_seen queue zs) (ap (history_seen queue) is)
history_joined queue (x ∷ xs) (y ∷ ys) [] is = absurd is
history_joined queue (x ∷ xs) (y ∷ ys) (z ∷ zs) is =
    by (is_of queue (entry x)) (is_of queue (entry y)) (is_of queue (entry z))
    (ap (is_of queue) (same_entry x y z is.0).0) (ap (is_of queue) (same_entry x y z is.0).1)
    (history_joined queue xs ys zs is.1)
  where
    by : (a b c : Bool) → b ≡ a → c ≡ a →
        IsJoinedOf (history_seen queue xs) (history_seen queue ys) (history_seen queue zs) →
        IsJoinedOf (if a then x ∷ history_seen queue xs else history_seen queue xs)
        (if b then y ∷ history_seen queue ys else history_seen queue ys)
        (if c then z ∷ history_seen queue zs else history_seen queue zs)
    by true true true same_b same_c rest = (is.0, rest)
    by true true false same_b same_c rest = absurd (cc)
    by true false c same_b same_c rest = absurd (cc)
    by false true c same_b same_c rest = absurd (cc)
    by false false true same_b same_c rest = absurd (cc)
    by false false false same_b same_c rest = rest

-- the front stays as it is
behind_front : (front more other zs : List Seen) →
    IsJoinedOf (front ++ more) (all_theirs (entries front) ++ other) zs →
    (rest : List Seen) × (zs ≡ front ++ rest) × IsJoinedOf more other rest
behind_front [] more other zs is = (zs, refl, is)
behind_front (x ∷ front) more other [] is = absurd is
behind_front (x ∷ front) more other (z ∷ zs) is =
    let on = behind_front front more other zs is.1 in
    (on.0, ap (λ w. w ∷ zs) (kept x is.0) ∙ ap (λ us. x ∷ us) on.1, on.2)
  where
    kept : (x : Seen) → IsOneMark x (Theirs (entry x)) z → z ≡ x
    kept (Ours e) is = is.1
    kept (Theirs e) is = is.1

joined_ours : (Q : Entry → Type 0) (xs ys zs : List Seen) → OursAre Q xs → OursAre Q ys →
    IsJoinedOf xs ys zs → OursAre Q zs
joined_ours Q [] ys zs one two is = subst (OursAre Q) (sym is) two
joined_ours Q (x ∷ xs) [] zs one two is = subst (OursAre Q) (sym is) one
joined_ours Q (x ∷ xs) (y ∷ ys) [] one two is = absurd is
joined_ours Q (Ours e ∷ xs) (Ours f ∷ ys) (z ∷ zs) one two is = absurd is.0
joined_ours Q (Ours e ∷ xs) (Theirs f ∷ ys) (z ∷ zs) one two is =
    subst (λ w. OursAre Q (w ∷ zs)) (sym is.0.1)
    (one.0, joined_ours Q xs ys zs one.1 two is.1)
joined_ours Q (Theirs e ∷ xs) (Ours f ∷ ys) (z ∷ zs) one two is =
    subst (λ w. OursAre Q (w ∷ zs)) (sym is.0.1)
    (subst Q (sym is.0.0) two.0, joined_ours Q xs ys zs one two.1 is.1)
joined_ours Q (Theirs e ∷ xs) (Theirs f ∷ ys) (z ∷ zs) one two is =
    subst (λ w. OursAre Q (w ∷ zs)) (sym is.0.1) (joined_ours Q xs ys zs one two is.1)

pub joined_grows : (Q : Entry → Type 0) (front xs ys zs : List Seen) → Grows Q front xs →
    Grows Q (all_theirs (entries front)) ys → IsJoinedOf xs ys zs → Grows Q front zs
joined_grows Q front xs ys zs one two is = record {
  more = behind.0;
  is = behind.1;
  ours = joined_ours Q one.more two.more behind.0 one.ours two.ours behind.2;
}
  where
    behind : (rest : List Seen) × (zs ≡ front ++ rest) × IsJoinedOf one.more two.more rest
    behind = behind_front front one.more two.more zs
        (subst (λ us. IsJoinedOf us (all_theirs (entries front) ++ two.more) zs) one.is
        (subst (λ us. IsJoinedOf xs us zs) two.is is))

-- ---- whose frames

own_as : (P Q : ℕ → Type 0) → ((n : ℕ) → P n → Q n) → (ss : List Sight) → OwnAreOf P ss →
    OwnAreOf Q ss
own_as P Q so [] are = tt
own_as P Q so (Saw e ∷ ss) are = own_as P Q so ss are
own_as P Q so (Own i ∷ ss) are = (item i are.0, own_as P Q so ss are.1)
  where
    event : (e : Event) → IsEventOf P e → IsEventOf Q e
    event (Arrive card bypass room) is = λ first. so card.number (is first)
    event (Ask port call request) is = tt
    event (PortClosed port) is = tt
    event (DeviceDown device) is = tt

    item : (i : Item) → IsItemOf P i → IsItemOf Q i
    item (Was e) is = event e.event is
    item (Fell d e) is = so d.after is
    item (Passed d) is = so d.after is

frame_as : (feeders : ℕ) (P Q : ℕ → Type 0) → ((f : ℕ) → P f → Q f) → (n : ℕ) →
    IsFrameOf feeders P n → IsFrameOf feeders Q n
frame_as feeders P Q so n is =
    record { counted = is.counted; own = so ((n - 1) % feeders) is.own }

one_before : (count f : ℕ) → IsThis count f → IsBefore (count + 1) f
one_before count f same = omega (arith, same)

still_before : (count f : ℕ) → IsBefore count f → IsBefore (count + 1) f
still_before count f below = omega (arith, below)

pub shared : (feeders f n : ℕ) → IsFrameOf feeders (IsThis f) n → is_share feeders f n ≡ true
shared feeders f n is =
    rw (ne_eqb n 0 (λ none. absurd (omega (arith, none, is.counted))))
    (eq-eqb ((n - 1) % feeders) f is.own)

pub not_shared : (feeders f n : ℕ) (Who : ℕ → Type 0) → IsFrameOf feeders Who n →
    (Who f → ⊥) → is_share feeders f n ≡ false
not_shared feeders f n Who is away =
    rw (ne_eqb n 0 (λ none. absurd (omega (arith, none, is.counted))))
    (ne_eqb ((n - 1) % feeders) f (λ same. away (subst Who same is.own)))

-- ---- lines and times of a share

abbrev pub lines_in : ℕ → ℕ → Sight → List Down
lines_in feeders f s = filter (is_line_of feeders f) (own_lines s)

pub filtered : (feeders f : ℕ) (ss : List Sight) →
    filter (is_line_of feeders f) (flat_map own_lines ss) ≡ flat_map (lines_in feeders f) ss
filtered feeders f [] = refl
filtered feeders f (s ∷ ss) =
    filter-append (is_line_of feeders f) (own_lines s) (flat_map own_lines ss)
    ∙ ap (λ l. lines_in feeders f s ++ l) (filtered feeders f ss)

if_false : {X : Type 0} (c : Bool) (x y : X) → c ≡ false → (if c then x else y) ≡ y
if_false true x y wrong = absurd (cc)
if_false false x y is = refl

if_true : {X : Type 0} (c : Bool) (x y : X) → c ≡ true → (if c then x else y) ≡ x
if_true true x y is = refl
if_true false x y wrong = absurd (cc)

-- an arrival that isn't the first takes up no time
first_or_not : (card : Card) (bypass room : Bool) →
    (card.visit ≡ 1) ⊎ (times_of_event (Arrive card bypass room) ≡ [])
first_or_not card bypass room = by (cases_Bool (card.visit == 1))
  where
    by : ((card.visit == 1) ≡ true) ⊎ ((card.visit == 1) ≡ false) →
        (card.visit ≡ 1) ⊎ (times_of_event (Arrive card bypass room) ≡ [])
    by (inl first) = inl (eqb-true card.visit 1 first)
    by (inr other) = inr (if_false (card.visit == 1)
        (2 * card.number ∷ (2 * card.number + 1) ∷ []) [] other)

pub if_none : {X : Type 0} (c : Bool) (xs : List X) → xs ≡ [] → (if c then xs else []) ≡ []
if_none true xs none = none
if_none false xs none = refl

module _ (feeders f : ℕ) where
  -- of another's share nothing
  module _ (Who : ℕ → Type 0) (away : Who f → ⊥) where
    abbrev Frame : ℕ → Type 0
    Frame n = IsFrameOf feeders Who n

    no_share : (n : ℕ) → Frame n → is_share feeders f n ≡ false
    no_share n is = not_shared feeders f n Who is away

    pub no_lines : (ss : List Sight) → OwnAreOf Frame ss → SaysNone (lines_in feeders f) ss
    no_lines [] are = tt
    no_lines (Saw e ∷ ss) are = (refl, no_lines ss are)
    no_lines (Own (Was e) ∷ ss) are = (refl, no_lines ss are.1)
    no_lines (Own (Fell d e) ∷ ss) are = (
      if_false (is_line_of feeders f d) (d ∷ []) [] (no_share d.after are.0),
      no_lines ss are.1,
    )
    no_lines (Own (Passed d) ∷ ss) are = (
      if_false (is_line_of feeders f d) (d ∷ []) [] (no_share d.after are.0),
      no_lines ss are.1,
    )

    no_event : (event : Event) → IsEventOf Frame event → shared_times feeders f event ≡ []
    no_event (Arrive card bypass room) is = by (first_or_not card bypass room)
      where
        by : (card.visit ≡ 1) ⊎ (times_of_event (Arrive card bypass room) ≡ []) →
            shared_times feeders f (Arrive card bypass room) ≡ []
        by (inl first) = if_false (is_share feeders f card.number)
            (times_of_event (Arrive card bypass room)) [] (no_share card.number (is first))
        by (inr none) = if_none (is_share feeders f card.number)
            (times_of_event (Arrive card bypass room)) none
    no_event (Ask port call request) is = refl
    no_event (PortClosed port) is = refl
    no_event (DeviceDown device) is = refl

    pub no_times : (ss : List Sight) → OwnAreOf Frame ss →
        SaysNone (own_times_in feeders f) ss
    no_times [] are = tt
    no_times (Saw e ∷ ss) are = (refl, no_times ss are)
    no_times (Own (Was e) ∷ ss) are = (no_event e.event are.0, no_times ss are.1)
    no_times (Own (Fell d e) ∷ ss) are = (
      if_false (is_line_of feeders f d) (falling_time d.after ∷ []) []
          (no_share d.after are.0),
      no_times ss are.1,
    )
    no_times (Own (Passed d) ∷ ss) are = (
      if_false (is_line_of feeders f d) (falling_time d.after ∷ []) []
          (no_share d.after are.0),
      no_times ss are.1,
    )

  -- of one's own share all
  abbrev Mine : ℕ → Type 0
  Mine n = IsFrameOf feeders (IsThis f) n

  line_is : (s : Sight) → OwnAreOf Mine (s ∷ []) → lines_in feeders f s ≡ own_lines s
  line_is (Saw e) are = refl
  line_is (Own (Was e)) are = refl
  line_is (Own (Fell d e)) are =
      if_true (is_line_of feeders f d) (d ∷ []) [] (shared feeders f d.after are.0)
  line_is (Own (Passed d)) are =
      if_true (is_line_of feeders f d) (d ∷ []) [] (shared feeders f d.after are.0)

  event_is : (event : Event) → IsEventOf Mine event →
      shared_times feeders f event ≡ times_of_event event
  event_is (Arrive card bypass room) is = by (first_or_not card bypass room)
    where
      by : (card.visit ≡ 1) ⊎ (times_of_event (Arrive card bypass room) ≡ []) →
          shared_times feeders f (Arrive card bypass room)
          ≡ times_of_event (Arrive card bypass room)
      by (inl first) = if_true (is_share feeders f card.number)
          (times_of_event (Arrive card bypass room)) []
          (shared feeders f card.number (is first))
      by (inr none) = if_none (is_share feeders f card.number)
          (times_of_event (Arrive card bypass room)) none ∙ sym none
  event_is (Ask port call request) is = refl
  event_is (PortClosed port) is = refl
  event_is (DeviceDown device) is = refl

  time_is : (s : Sight) → OwnAreOf Mine (s ∷ []) → own_times_in feeders f s ≡ own_times s
  time_is (Saw e) are = refl
  time_is (Own (Was e)) are = event_is e.event are.0
  time_is (Own (Fell d e)) are = if_true (is_line_of feeders f d) (falling_time d.after ∷ []) []
      (shared feeders f d.after are.0)
  time_is (Own (Passed d)) are = if_true (is_line_of feeders f d) (falling_time d.after ∷ []) []
      (shared feeders f d.after are.0)

  all_are : {X : Type 0} (g h : Sight → List X) →
      ((s : Sight) → OwnAreOf Mine (s ∷ []) → g s ≡ h s) → (ss : List Sight) →
      OwnAreOf Mine ss → flat_map g ss ≡ flat_map h ss
  all_are g h same [] are = refl
  all_are g h same (Saw e ∷ ss) are = ap (λ l. l ++ flat_map g ss) (same (Saw e) tt)
      ∙ ap (λ l. h (Saw e) ++ l) (all_are g h same ss are)
  all_are g h same (Own i ∷ ss) are =
      ap (λ l. l ++ flat_map g ss) (same (Own i) (are.0, tt))
      ∙ ap (λ l. h (Own i) ++ l) (all_are g h same ss are.1)

  pub all_lines : (ss : List Sight) → OwnAreOf Mine ss →
      flat_map (lines_in feeders f) ss ≡ flat_map own_lines ss
  all_lines ss are = all_are (lines_in feeders f) own_lines line_is ss are

  pub all_times : (ss : List Sight) → OwnAreOf Mine ss →
      flat_map (own_times_in feeders f) ss ≡ flat_map own_times ss
  all_times ss are = all_are (own_times_in feeders f) own_times time_is ss are

-- ---- the first

first_at : (feeders time : ℕ) (q : Option Bound) (fallen : ℕ → List Down) (h : List Seen) →
    IsShareOf feeders 0 time q (fallen 0) h → AreSharesOf feeders 1 q fallen h
first_at feeders time q fallen h is = record {
  sights = is.sights;
  seen = is.seen;
  each = is.each;
  own = own_as (IsFrameOf feeders (IsThis 0)) (IsFrameOf feeders (IsBefore 1))
      (λ n. frame_as feeders (IsThis 0) (IsBefore 1) (λ f same. one_before 0 f same) n) is.sights
      is.own;
  lines = λ f below. line_of f (omega (arith, below));
  times = λ f below. time_of f (omega (arith, below));
}
  where
    line_of : (f : ℕ) → f ≡ 0 →
        filter (is_line_of feeders f) (flat_map own_lines is.sights) ≡ fallen f
    line_of f none = subst (λ g. filter (is_line_of feeders g) (flat_map own_lines is.sights)
        ≡ fallen g) (sym none)
        (filtered feeders 0 is.sights ∙ all_lines feeders 0 is.sights is.own ∙ is.lines)

    time_of : (f : ℕ) → f ≡ 0 →
        AscendFrom front_time (flat_map (own_times_in feeders f) is.sights)
    time_of f none = subst (λ g. AscendFrom front_time (flat_map (own_times_in feeders g)
        is.sights)) (sym none)
        (subst (AscendFrom front_time) (sym (all_times feeders 0 is.sights is.own))
        is.times.ascend)

pub first_one : (feeders time : ℕ) (fallen : ℕ → List Down) (front xs : List Seen) →
    IsSharing feeders 0 time (fallen 0) front xs → AreJoined feeders 1 fallen front xs
first_one feeders time fallen front xs is = record {
  more = is.more;
  is = is.is;
  each = λ queue below. first_at feeders time (replay (history queue (entries front))) fallen
      (history_seen queue is.more) (is.each queue below);
}

-- ---- one more

module _ (feeders count time : ℕ) (q : Option Bound) (fallen : ℕ → List Down) (h k l : List Seen)
    (one : AreSharesOf feeders count q fallen h)
    (two : IsShareOf feeders count time q (fallen count) k) (joined : IsJoinedOf h k l) where
  abbrev Now : ℕ → Type 0
  Now n = IsFrameOf feeders (IsBefore (count + 1)) n

  united : Both Now q one.sights two.sights l
  united = both Now q one.sights two.sights l
      (subst (λ xs. IsJoinedOf xs (flat_map seen_of two.sights) l) (sym one.seen)
      (subst (λ ys. IsJoinedOf h ys l) (sym two.seen) joined)) one.each two.each
      (own_as (IsFrameOf feeders (IsBefore count)) Now
      (λ n. frame_as feeders (IsBefore count) (IsBefore (count + 1)) (still_before count) n)
      one.sights one.own)
      (own_as (IsFrameOf feeders (IsThis count)) Now
      (λ n. frame_as feeders (IsThis count) (IsBefore (count + 1)) (one_before count) n)
      two.sights two.own)

  apart : count < count → ⊥
  apart wrong = absurd (omega (arith, wrong))

  below_other : (f : ℕ) → f < count + 1 → (f == count) ≡ false → f < count
  below_other f below other = below_it (λ same. no_way (eq-eqb f count same))
    where
      no_way : (f == count) ≡ true → ⊥
      no_way it_is = absurd (cc)

      below_it : (f ≡ count → ⊥) → f < count
      below_it away = omega (arith, below, away)

  line_of : (f : ℕ) → f < count + 1 → ((f == count) ≡ true) ⊎ ((f == count) ≡ false) →
      filter (is_line_of feeders f) (flat_map own_lines united.sights) ≡ fallen f
  line_of f below (inl at) = subst (λ g.
      filter (is_line_of feeders g) (flat_map own_lines united.sights) ≡ fallen g)
      (sym (eqb-true f count at))
      (filtered feeders count united.sights
      ∙ united.lines_two (lines_in feeders count) (λ e. refl)
      (no_lines feeders count (IsBefore count) apart one.sights one.own)
      ∙ all_lines feeders count two.sights two.own ∙ two.lines)
  line_of f below (inr other) =
      let less = below_other f below other in
      filtered feeders f united.sights
      ∙ united.lines_one (lines_in feeders f) (λ e. refl)
      (no_lines feeders f (IsThis count) (λ same. absurd (omega (arith, same, less))) two.sights
      two.own)
      ∙ sym (filtered feeders f one.sights) ∙ one.lines f less

  time_of : (f : ℕ) → f < count + 1 → ((f == count) ≡ true) ⊎ ((f == count) ≡ false) →
      AscendFrom front_time (flat_map (own_times_in feeders f) united.sights)
  time_of f below (inl at) = subst (λ g.
      AscendFrom front_time (flat_map (own_times_in feeders g) united.sights))
      (sym (eqb-true f count at))
      (subst (AscendFrom front_time)
      (sym (united.times_two (own_times_in feeders count) (λ e. refl)
      (no_times feeders count (IsBefore count) apart one.sights one.own)
      ∙ all_times feeders count two.sights two.own)) two.times.ascend)
  time_of f below (inr other) =
      let less = below_other f below other in
      subst (AscendFrom front_time)
      (sym (united.times_one (own_times_in feeders f) (λ e. refl)
      (no_times feeders f (IsThis count) (λ same. absurd (omega (arith, same, less))) two.sights
      two.own))) (one.times f less)

  more_at : AreSharesOf feeders (count + 1) q fallen l
  more_at = record {
    sights = united.sights;
    seen = united.seen;
    each = united.each;
    own = united.own;
    lines = λ f below. line_of f below (cases_Bool (f == count));
    times = λ f below. time_of f below (cases_Bool (f == count));
  }

pub one_more : (feeders count time : ℕ) (fallen : ℕ → List Down) (front xs ys zs : List Seen) →
    AreJoined feeders count fallen front xs →
    IsSharing feeders count time (fallen count) (all_theirs (entries front)) ys →
    IsJoinedOf xs ys zs → AreJoined feeders (count + 1) fallen front zs
one_more feeders count time fallen front xs ys zs is other joined = record {
  more = behind.0;
  is = behind.1;
  each = λ queue below. more_at feeders count time (replay (history queue (entries front)))
      fallen (history_seen queue is.more) (history_seen queue other.more)
      (history_seen queue behind.0) (is.each queue below)
      (subst (λ es. IsShareOf feeders count time (replay (history queue es)) (fallen count)
      (history_seen queue other.more)) (entries_theirs (entries front))
      (other.each queue below))
      (history_joined queue is.more other.more behind.0 behind.2);
}
  where
    behind : (rest : List Seen) × (zs ≡ front ++ rest) × IsJoinedOf is.more other.more rest
    behind = behind_front front is.more other.more zs
        (subst (λ us. IsJoinedOf us (all_theirs (entries front) ++ other.more) zs) is.is
        (subst (λ us. IsJoinedOf xs us zs) other.is joined))
