-- Histories of one queue that two feeders fed, written out.
use Rattle.std.proofs.Common.{◌≤◌, ◌<◌, ◌≡◌, ◌+◌, ◌*◌, ℕ, zero, suc, List, [], ◌∷◌, ◌++◌}
use Rattle.std.proofs.Common.{Option, None, Bool, true, false, refl, ap, subst, arith}
use Rattle.std.specs.Prelude.{flat_map, filter, ◌-◌, ◌%◌, ◌==◌, ◌||◌, if◌then◌else◌}
use Rattle.queue_core.specs.State.{Bound}
use Rattle.histories.specs.declared.entry.Entry.{Entry}
use Rattle.histories.specs.History.{replay_from}
use Rattle.script_lines.specs.declared.line.Down.{Down}
use Rattle.run_parts.specs.Ascending.{Ascend, AscendFrom}
use Rattle.run_parts.specs.Feeder.{Item, Was, Fell, Passed, entries_of, times_in, IsFedBy}
use Rattle.run_parts.specs.Feeder.{AreItemsFrom, IsNoDown, is_line_of, is_share, lines_of}
use Rattle.run_parts.specs.Feeder.{shared_times}
use Rattle.run_parts.specs.FedExamples.{arrives, down_5, early_5, falls}
use Rattle.run_parts.proofs.FeederExamples.{AreNoDowns, line, no_more, rest_of, first_is}
use Rattle.run_parts.proofs.FeederExamples.{no_arrival}

times_across : (f : ℕ) → f < 2 →
    Ascend (flat_map (times_in 2 f) (Was (arrives 2) ∷ Was (arrives 1) ∷ []))
times_across zero below = (omega arith, (omega arith, tt))
times_across (suc zero) below = (omega arith, (omega arith, tt))
times_across (suc (suc f)) below = absurd (omega (arith, below))

-- frames of two shares may come in any order
pub across_shares : IsFedBy 2 [] (arrives 2 ∷ arrives 1 ∷ [])
across_shares = record {
  items = Was (arrives 2) ∷ Was (arrives 1) ∷ [];
  entries = refl;
  each = (tt, (tt, tt));
  lines = λ f below. refl;
  times = times_across;
}

-- frame 1 isn't fed late in its share
one_is_early : (low : ℕ) (q : Option Bound) (is : List Item) →
    flat_map entries_of is ≡ arrives 1 ∷ [] → AreItemsFrom q is →
    AscendFrom low (flat_map (times_in 2 0) is) → low ≤ 2
one_is_early low q [] e a t = let wrong = e in cc
one_is_early low q (Was x ∷ is) e a t =
    let same : x ≡ arrives 1 = cc in
    let u = subst (λ (z : Entry). AscendFrom low (shared_times 2 0 z.event
    ++ flat_map (times_in 2 0) is)) same t in
    u.0
one_is_early low q (Fell d x ∷ is) e a t =
    absurd (no_arrival x 1 d.device (first_is x (arrives 1) (flat_map entries_of is) [] e) a.0)
one_is_early low q (Passed d ∷ is) e a t =
    by (is_line_of 2 0 d) (λ below. one_is_early below q is e a.1) t
  where
    by : (b : Bool) →
        ((below : ℕ) → AscendFrom below (flat_map (times_in 2 0) is) → below ≤ 2) →
        AscendFrom low ((if b then (2 * d.after + 1) ∷ [] else [])
        ++ flat_map (times_in 2 0) is) → low ≤ 2
    by true rest u = omega (arith, u.0, rest (2 * d.after + 1) u.1)
    by false rest u = rest low u

late_one : (low : ℕ) (q : Option Bound) (is : List Item) →
    flat_map entries_of is ≡ arrives 3 ∷ arrives 1 ∷ [] → AreItemsFrom q is →
    AscendFrom low (flat_map (times_in 2 0) is) → ⊥
late_one low q [] e a t = let wrong = e in cc
late_one low q (Was x ∷ is) e a t =
    let same : x ≡ arrives 3 = cc in
    let more : flat_map entries_of is ≡ arrives 1 ∷ [] = cc in
    let u = subst (λ (z : Entry). AscendFrom low (shared_times 2 0 z.event
    ++ flat_map (times_in 2 0) is)) same t in
    absurd (omega (arith, one_is_early 7 (replay_from q (x ∷ [])) is more a.1 u.1.1))
late_one low q (Fell d x ∷ is) e a t =
    no_arrival x 3 d.device
    (first_is x (arrives 3) (flat_map entries_of is) (arrives 1 ∷ []) e) a.0
late_one low q (Passed d ∷ is) e a t =
    by (is_line_of 2 0 d) (λ below. late_one below q is e a.1) t
  where
    by : (b : Bool) →
        ((below : ℕ) → AscendFrom below (flat_map (times_in 2 0) is) → ⊥) →
        AscendFrom low ((if b then (2 * d.after + 1) ∷ [] else [])
        ++ flat_map (times_in 2 0) is) → ⊥
    by true rest u = rest (2 * d.after + 1) u.1
    by false rest u = rest low u

-- those of one share come in theirs
pub within_a_share : IsFedBy 2 [] (arrives 3 ∷ arrives 1 ∷ []) → ⊥
within_a_share is =
    late_one 0 None is.items is.entries is.each (is.times 0 (omega arith))

-- ---- lines in shares

-- each line is one feeder's
no_third : (number : ℕ) → is_share 2 0 number ≡ false → is_share 2 1 number ≡ false → ⊥
no_third number a b =
    by (number == 0) ((number - 1) % 2) (omega arith) a b
  where
    by : (z : Bool) (r : ℕ) → r < 2 → (z || (r == 0)) ≡ false → (z || (r == 1)) ≡ false → ⊥
    by true r below a b = let wrong = a in cc
    by false zero below a b = let wrong = a in cc
    by false (suc zero) below a b = let wrong = b in cc
    by false (suc (suc r)) below a b = absurd (omega (arith, below))

-- of the first line of a list, whether it is in a share of which this is all
skipped : (b : Bool) (d : Down) (ds : List Down) → (if b then d ∷ ds else ds) ≡ [] → b ≡ false
skipped true d ds wrong = absurd (cc)
skipped false d ds is = refl

kept : (b : Bool) (d l : Down) (ds : List Down) → b ≡ true →
    (if b then d ∷ ds else ds) ≡ l ∷ [] → (d ≡ l) × (ds ≡ [])
kept true d l ds shown is = (cc, cc)
kept false d l ds wrong is = absurd (cc)

none_left : (ds : List Down) → filter (is_line_of 2 0) ds ≡ [] → filter (is_line_of 2 1) ds ≡ [] →
    ds ≡ []
none_left [] a b = refl
none_left (d ∷ ds) a b =
    absurd (no_third d.after
    (skipped (is_line_of 2 0 d) d (filter (is_line_of 2 0) ds) a)
    (skipped (is_line_of 2 1 d) d (filter (is_line_of 2 1) ds) b))

-- a device goes down without a line
no_lines : (is : List Item) → flat_map entries_of is ≡ falls 5 ∷ [] → flat_map lines_of is ≡ [] →
    AreItemsFrom None is → ⊥
no_lines is e l a = (subst AreNoDowns e (no_more None is l a)).0

pub lineless : IsFedBy 2 [] (falls 5 ∷ []) → ⊥
lineless is =
    no_lines is.items is.entries
    (none_left (flat_map lines_of is.items) (is.lines 0 (omega arith)) (is.lines 1 (omega arith)))
    is.each

-- ---- the one line

left_out : (b : Bool) (d : Down) (ds : List Down) → (if b then d ∷ ds else ds) ≡ [] → ds ≡ []
left_out true d ds wrong = absurd (cc)
left_out false d ds is = is

not_false : (b : Bool) → (b ≡ false → ⊥) → b ≡ true
not_false true never = refl
not_false false never = absurd (never refl)

-- of a line of the first share
only_line : (l : Down) (ds : List Down) → filter (is_line_of 2 0) ds ≡ l ∷ [] →
    filter (is_line_of 2 1) ds ≡ [] → ds ≡ l ∷ []
only_line l [] a b = let wrong = a in cc
only_line l (d ∷ ds) a b =
    let mine = not_false (is_line_of 2 0 d) (λ its. no_third d.after its
    (skipped (is_line_of 2 1 d) d (filter (is_line_of 2 1) ds) b)) in
    let first = kept (is_line_of 2 0 d) d l (filter (is_line_of 2 0) ds) mine a in
    let none =
    none_left ds first.1 (left_out (is_line_of 2 1 d) d (filter (is_line_of 2 1) ds) b) in
    let same : d ≡ l = first.0 in
    cc

early_by : (is : List Item) → flat_map entries_of is ≡ falls 5 ∷ arrives 1 ∷ [] →
    flat_map lines_of is ≡ down_5 → AreItemsFrom None is →
    AscendFrom 0 (flat_map (times_in 2 0) is) → ⊥
early_by [] e l a t = let wrong = e in cc
early_by (Was x ∷ is) e l a t =
    let same : x ≡ falls 5 = cc in
    subst (λ (z : Entry). IsNoDown z.event) same a.0
early_by (Passed d ∷ is) e l a t =
    (subst AreNoDowns e (no_more None is (rest_of d line (flat_map lines_of is) l) a.1)).0
early_by (Fell d x ∷ is) e l a t =
    let its : d ≡ line = cc in
    let more : flat_map entries_of is ≡ arrives 1 ∷ [] = cc in
    let u = subst (λ (k : Down). AscendFrom 0
    ((if is_line_of 2 0 k then (2 * k.after + 1) ∷ [] else []) ++ flat_map (times_in 2 0) is))
    its t in
    absurd (omega (arith, one_is_early 3 (replay_from None (x ∷ [])) is more a.1 u.1))

-- no line has effect before its own frame
pub early_line : IsFedBy 2 down_5 (falls 5 ∷ arrives 1 ∷ []) → ⊥
early_line is =
    early_by is.items is.entries
    (only_line line (flat_map lines_of is.items)
    (is.lines 0 (omega arith)) (is.lines 1 (omega arith)))
    is.each (is.times 0 (omega arith))

-- ---- the line before all frames

abbrev callers : Down
callers = record { device = 5; after = 0 }

-- it is in both shares
of_both : (ds : List Down) → filter (is_line_of 2 0) ds ≡ early_5 →
    filter (is_line_of 2 1) ds ≡ early_5 → ds ≡ early_5
of_both [] a b = let wrong = a in cc
of_both (d ∷ ds) a b =
    by (is_line_of 2 0 d) refl
  where
    same : (b0 : Bool) → is_line_of 2 0 d ≡ b0 → d ≡ callers → d ∷ ds ≡ early_5
    same b0 is its =
        let zero : is_line_of 2 0 d ≡ true = ap (λ (k : Down). is_line_of 2 0 k) its in
        let one : is_line_of 2 1 d ≡ true = ap (λ (k : Down). is_line_of 2 1 k) its in
        let left =
        none_left ds (kept (is_line_of 2 0 d) d callers (filter (is_line_of 2 0) ds) zero a).1
        (kept (is_line_of 2 1 d) d callers (filter (is_line_of 2 1) ds) one b).1 in
        cc

    by : (b0 : Bool) → is_line_of 2 0 d ≡ b0 → d ∷ ds ≡ early_5
    by true is =
        same true is (kept (is_line_of 2 0 d) d callers (filter (is_line_of 2 0) ds) is a).0
    by false is =
        let one = not_false (is_line_of 2 1 d) (no_third d.after is) in
        same false is (kept (is_line_of 2 1 d) d callers (filter (is_line_of 2 1) ds) one b).0

behind_by : (is : List Item) → flat_map entries_of is ≡ arrives 1 ∷ falls 5 ∷ [] →
    flat_map lines_of is ≡ early_5 → AreItemsFrom None is →
    AscendFrom 0 (flat_map (times_in 2 0) is) → ⊥
behind_by [] e l a t = let wrong = e in cc
behind_by (Passed d ∷ is) e l a t =
    (subst AreNoDowns e (no_more None is (rest_of d callers (flat_map lines_of is) l) a.1)).1.0
behind_by (Fell d x ∷ is) e l a t =
    no_arrival x 1 d.device (first_is x (arrives 1) (flat_map entries_of is) (falls 5 ∷ []) e) a.0
behind_by (Was x ∷ []) e l a t = let wrong = e in cc
behind_by (Was x ∷ Was y ∷ is) e l a t =
    let same : y ≡ falls 5 = cc in
    subst (λ (z : Entry). IsNoDown z.event) same a.1.0
behind_by (Was x ∷ Fell d y ∷ is) e l a t =
    let same : x ≡ arrives 1 = cc in
    let its : d ≡ callers = cc in
    let u = subst (λ (z : Entry). AscendFrom 0 (shared_times 2 0 z.event
    ++ ((if is_line_of 2 0 d then (2 * d.after + 1) ∷ [] else [])
    ++ flat_map (times_in 2 0) is))) same t in
    let v = subst (λ (k : Down). AscendFrom 3
    ((if is_line_of 2 0 k then (2 * k.after + 1) ∷ [] else []) ++ flat_map (times_in 2 0) is))
    its u.1.1 in
    absurd (omega (arith, v.0))
behind_by (Was x ∷ Passed d ∷ is) e l a t =
    let more : flat_map entries_of is ≡ falls 5 ∷ [] = cc in
    (subst AreNoDowns more (no_more (replay_from None (x ∷ [])) is
    (rest_of d callers (flat_map lines_of is) l) a.1.1)).0

-- and has no effect behind one
pub callers_behind : IsFedBy 2 early_5 (arrives 1 ∷ falls 5 ∷ []) → ⊥
callers_behind is =
    behind_by is.items is.entries
    (of_both (flat_map lines_of is.items) (is.lines 0 (omega arith)) (is.lines 1 (omega arith)))
    is.each (is.times 0 (omega arith))
