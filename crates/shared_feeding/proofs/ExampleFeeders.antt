-- The two feeders that are written out.
use Rattle.std.proofs.Common.{◌*◌, ◌++◌, ◌+◌, ◌<◌, ◌∙◌, ◌∷◌, ◌≡◌, ◌≤◌, Bool, List, None, Option}
use Rattle.std.proofs.Common.{[], ap, arith, false, refl, subst, suc, sym, true, zero, ℕ}
use Rattle.std.specs.List.{AllByRecursion}
use Rattle.std.specs.Prelude.{◌==◌, flat_map, if◌then◌else◌}
use Rattle.queue_core.specs.State.{Bound}
use Rattle.queue_core.specs.declared.event.Event.TheVariants.{Arrive, DeviceDown}
use Rattle.histories.specs.Examples.{packet}
use Rattle.histories.specs.History.{history, is_of, replay, replay_from}
use Rattle.histories.specs.declared.entry.Entry.{Entry}
use Rattle.script_lines.specs.declared.line.Down.{Down}
use Rattle.run_parts.specs.Ascending.{AscendFrom}
use Rattle.run_parts.specs.FedExamples.{arrives, binds, down_5, falls}
use Rattle.run_parts.specs.Feeder.{AreItemsFrom, Fell, IsFed, IsNoDown, Item, Passed, Was}
use Rattle.run_parts.specs.Feeder.{downs_after, entries_of, lines_of, times_of, times_of_event}
use Rattle.run_parts.specs.Underway.{Fed}
use Rattle.live_runs.specs.ByHand.{script}
use Rattle.live_runs.specs.Owners.{IsFeeding}
use Rattle.live_runs.specs.Seen.{Ours, Seen, Theirs, all_theirs, entries, entry}
use Rattle.shared_feeding.specs.ByHand.{fallen, front, seen_by_0, seen_by_1, seen_by_both}
use Rattle.shared_feeding.specs.Joining.{IsJoinedOf}
use Rattle.shared_feeding.specs.Lines.{share_downs}
use Rattle.shared_feeding.specs.Sights.{AreSightsFrom, IsEventOf, IsFrameOf, IsShareOf, IsSharing}
use Rattle.shared_feeding.specs.Sights.{IsThis, Own, OwnAreOf, Saw, Sight, front_time, history_seen}
use Rattle.shared_feeding.specs.Sights.{seen_of}
use Rattle.shared_feeding.proofs.ShareInvariant.{entries_seen}

-- ---- one queue

-- these are entries of queue 3
abbrev AreOf3 : List Seen → Type 0
AreOf3 [] = Unit {0}
AreOf3 (x ∷ xs) = ((entry x).queue ≡ 3) × AreOf3 xs

abbrev all_if : Bool → List Seen → List Seen
all_if c xs = if c then xs else []

seen_so : (queue : ℕ) (xs : List Seen) → AreOf3 xs → history_seen queue xs ≡ all_if (3 == queue) xs
seen_so queue [] are = by (3 == queue)
  where
    by : (c : Bool) → [] ≡ all_if c []
    by true = refl
    by false = refl
seen_so queue (x ∷ xs) are = by (is_of queue (entry x)) (3 == queue)
    (ap (λ q. q == queue) are.0) (seen_so queue xs are.1)
  where
    by : (b c : Bool) → b ≡ c → history_seen queue xs ≡ all_if c xs →
        (if b then x ∷ history_seen queue xs else history_seen queue xs) ≡ all_if c (x ∷ xs)
    by true true same rest = ap (λ ys. x ∷ ys) rest
    by true false same rest = absurd (cc)
    by false true same rest = absurd (cc)
    by false false same rest = rest

-- what holds of the queue, and of none, holds of each
each_queue : (Q : List Entry → List Seen → Type 0) (before more : List Seen) → AreOf3 before →
    AreOf3 more → Q (entries before) more → Q [] [] → (queue : ℕ) →
    Q (history queue (entries before)) (history_seen queue more)
each_queue Q before more are_before are_more all none queue =
    subst (λ hs. Q hs (history_seen queue more))
    (ap entries (sym (seen_so queue before are_before)) ∙ entries_seen queue before)
    (subst (λ xs. Q (entries (all_if (3 == queue) before)) xs) (sym (seen_so queue more are_more))
    (by (3 == queue)))
  where
    by : (c : Bool) → Q (entries (all_if c before)) (all_if c more)
    by true = all
    by false = none

-- ---- the front

abbrev line : Down
line = record { device = 5; after = 1 }

pub front_fed : IsFeeding front_time (downs_after script 0) front
front_fed = record {
  fed = λ guard. record {
    each = λ queue below. each_queue (λ hs xs. Fed front_time (downs_after script 0) hs) front []
        (refl, tt) tt
        (record {
          items = Was binds ∷ [];
          entries = refl;
          lines = refl;
          each = (tt, tt);
          times = record { ascend = tt; last = omega arith };
        })
        (record {
          items = [];
          entries = refl;
          lines = refl;
          each = tt;
          times = record { ascend = tt; last = omega arith };
        }) queue;
  };
}

-- ---- the shares

frame_1 : IsFrameOf 2 (IsThis 0) 1
frame_1 = record { counted = omega arith; own = refl }

frame_2 : IsFrameOf 2 (IsThis 1) 2
frame_2 = record { counted = omega arith; own = refl }

pub by_zero : IsSharing 2 0 3 (fallen 0) front seen_by_0
by_zero = record {
  more = Ours (arrives 1) ∷ Theirs (arrives 2) ∷ Ours (falls 5) ∷ [];
  is = refl;
  each = λ queue below. each_queue (λ hs xs. IsShareOf 2 0 3 (replay hs) down_5 xs) front
      (Ours (arrives 1) ∷ Theirs (arrives 2) ∷ Ours (falls 5) ∷ []) (refl, tt)
      (refl, (refl, (refl, tt)))
      (record {
        sights = Own (Was (arrives 1)) ∷ Saw (arrives 2) ∷ Own (Fell line (falls 5)) ∷ [];
        seen = refl;
        each = (tt, (tt, (refl, tt)));
        own = (λ first. frame_1, (frame_1, tt));
        lines = refl;
        times = record {
          ascend = (omega arith, (omega arith, (omega arith, tt)));
          last = omega arith;
        };
      })
      (record {
        sights = Own (Passed line) ∷ [];
        seen = refl;
        each = (refl, tt);
        own = (frame_1, tt);
        lines = refl;
        times = record { ascend = (omega arith, tt); last = omega arith };
      }) queue;
}

pub by_one : IsSharing 2 1 5 (fallen 1) (all_theirs (entries front)) seen_by_1
by_one = record {
  more = Theirs (arrives 1) ∷ Ours (arrives 2) ∷ [];
  is = refl;
  each = λ queue below. each_queue (λ hs xs. IsShareOf 2 1 5 (replay hs) [] xs) front
      (Theirs (arrives 1) ∷ Ours (arrives 2) ∷ []) (refl, tt) (refl, (refl, tt))
      (record {
        sights = Saw (arrives 1) ∷ Own (Was (arrives 2)) ∷ [];
        seen = refl;
        each = (tt, (tt, tt));
        own = (λ first. frame_2, tt);
        lines = refl;
        times = record { ascend = (omega arith, (omega arith, tt)); last = omega arith };
      })
      (record {
        sights = [];
        seen = refl;
        each = tt;
        own = tt;
        lines = refl;
        times = record { ascend = tt; last = omega arith };
      }) queue;
}

pub by_both : IsJoinedOf seen_by_0 seen_by_1 seen_by_both
by_both = ((refl, refl), ((refl, refl), ((refl, refl), refl)))

pub lines_so : (feeder : ℕ) → feeder < 2 → fallen feeder ≡ share_downs script 2 feeder 2
lines_so zero below = refl
lines_so (suc zero) below = refl
lines_so (suc (suc n)) below = absurd (omega (arith, below))

-- ---- one feeder hasn't done so

abbrev AreAfter1 : List Down → Type 0
AreAfter1 ds = AllByRecursion (λ (d : Down). d.after ≡ 1) ds

-- items of such lines, from a time on, with these entries
abbrev CanBe : ℕ → List Entry → Type 0
CanBe low es = (q : Option Bound) (is : List Item) → flat_map entries_of is ≡ es →
    AreAfter1 (flat_map lines_of is) → AreItemsFrom q is → AscendFrom low (flat_map times_of is) →
    ⊥

first_is : (e x : Entry) (es xs : List Entry) → e ∷ es ≡ x ∷ xs → e ≡ x
first_is e x es xs is = cc

rest_is : (e x : Entry) (es xs : List Entry) → e ∷ es ≡ x ∷ xs → es ≡ xs
rest_is e x es xs is = cc

-- behind the second frame the line comes too late
too_late : CanBe 4 (falls 5 ∷ [])
too_late q [] wrong after are times = let same : [] ≡ falls 5 ∷ [] = wrong in cc
too_late q (Was x ∷ is) es after are times =
    subst (λ (z : Entry). IsNoDown z.event)
    (first_is x (falls 5) (flat_map entries_of is) [] es) are.0
too_late q (Fell d x ∷ is) es after are times =
    let at : d.after ≡ 1 = after.0 in
    let least : 4 ≤ 2 * d.after + 1 = times.0 in
    absurd (omega (arith, at, least))
too_late q (Passed d ∷ is) es after are times =
    let at : d.after ≡ 1 = after.0 in
    let least : 4 ≤ 2 * d.after + 1 = times.0 in
    absurd (omega (arith, at, least))

lower : (low high : ℕ) (xs : List ℕ) → low ≤ high → AscendFrom high xs → AscendFrom low xs
lower low high [] less are = tt
lower low high (x ∷ xs) less are = (omega (arith, less, are.0), are.1)

-- an entry in front that is no line's
in_front : (low : ℕ) (e : Entry) (es : List Entry) →
    ((device : ℕ) → e.event ≡ DeviceDown device → ⊥) →
    ((q : Option Bound) (is : List Item) → flat_map entries_of is ≡ es →
    AreAfter1 (flat_map lines_of is) → AreItemsFrom q is →
    AscendFrom low (times_of_event e.event ++ flat_map times_of is) → ⊥) → CanBe low (e ∷ es)
in_front low e es no_line on q [] wrong after are times = let same : [] ≡ e ∷ es = wrong in cc
in_front low e es no_line on q (Was x ∷ is) same after are times =
    on (replay_from q (x ∷ [])) is (rest_is x e (flat_map entries_of is) es same) after are.1
    (subst (λ (z : Entry). AscendFrom low (times_of_event z.event ++ flat_map times_of is))
    (first_is x e (flat_map entries_of is) es same) times)
in_front low e es no_line on q (Fell d x ∷ is) same after are times =
    no_line d.device (ap (λ (z : Entry). z.event)
    (sym (first_is x e (flat_map entries_of is) es same)) ∙ are.0)
in_front low e es no_line on q (Passed d ∷ is) same after are times =
    in_front low e es no_line on q is same after.1 are.1
    (lower low (2 * d.after + 1) (flat_map times_of is) times.0 times.1)

no_down : (number device : ℕ) → (arrives number).event ≡ DeviceDown device → ⊥
no_down number device is =
    let wrong : Arrive (packet number) false true ≡ DeviceDown device = is in cc

binds_no_down : (device : ℕ) → binds.event ≡ DeviceDown device → ⊥
binds_no_down device is = cc

pub not_fed_by_one : IsFed down_5 (history 3 (entries seen_by_both)) → ⊥
not_fed_by_one is =
    in_front 0 binds (arrives 1 ∷ arrives 2 ∷ falls 5 ∷ []) binds_no_down
    (in_front 0 (arrives 1) (arrives 2 ∷ falls 5 ∷ []) (no_down 1)
    (λ q is same after are times.
    in_front 3 (arrives 2) (falls 5 ∷ []) (no_down 2)
    (λ p js so afters ares later. too_late p js so afters ares
    (lower 4 5 (flat_map times_of js) (omega arith) later.1.1))
    q is same after are times.1.1))
    None is.items is.entries (subst AreAfter1 (sym is.lines) (refl, tt)) is.each is.times

-- ---- what is no share, and no join

-- an arrival of frame 1 is none of feeder 1's
not_own : (q : Option Bound) (ss : List Sight) →
    flat_map seen_of ss ≡ Ours (arrives 1) ∷ [] → AreSightsFrom q ss →
    OwnAreOf (IsFrameOf 2 (IsThis 1)) ss → ⊥
not_own q [] wrong each own = let same : [] ≡ Ours (arrives 1) ∷ [] = wrong in cc
not_own q (Saw e ∷ ss) wrong each own = cc
not_own q (Own (Was e) ∷ ss) same each own =
    let it_is : e ≡ arrives 1 = cc in
    let frame = subst (λ (z : Entry). IsEventOf (IsFrameOf 2 (IsThis 1)) z.event) it_is own.0 in
    let wrong : 0 ≡ 1 = (frame refl).own in
    absurd (omega (arith, wrong))
not_own q (Own (Fell d e) ∷ ss) same each own =
    let it_is : e ≡ arrives 1 = cc in
    no_down 1 d.device (ap (λ (z : Entry). z.event) (sym it_is) ∙ each.0)
not_own q (Own (Passed d) ∷ ss) same each own = not_own q ss same each.1 own.1

pub no_stranger : (time : ℕ) (lines : List Down) →
    IsSharing 2 1 time lines [] (Ours (arrives 1) ∷ []) → ⊥
no_stranger time lines is =
    let share = is.each 3 (omega arith) in
    not_own (replay []) share.sights
    (share.seen ∙ ap (history_seen 3) (sym is.is)) share.each share.own

pub not_both : (e : Entry) (zs : List Seen) → IsJoinedOf (Ours e ∷ []) (Ours e ∷ []) zs → ⊥
not_both e [] is = is
not_both e (z ∷ zs) is = is.0
