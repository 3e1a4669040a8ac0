-- The histories that are written out, fed and in order or not.
use Rattle.std.proofs.Common.{◌≤◌, ◌≡◌, ◌∙◌, ◌+◌, ◌*◌, ℕ, List, [], ◌∷◌, ◌++◌, Option, None}
use Rattle.std.proofs.Common.{Some}
use Rattle.std.proofs.Common.{Bool, true, false, refl, sym, ap, subst, arith}
use Rattle.std.specs.Prelude.{flat_map, map, ◌==◌, if◌then◌else◌}
use Rattle.nfqa_msgs.specs.declared.request.Request.{Request}
use Rattle.nfqa_msgs.specs.declared.request.Request.TheVariants.{Config}
use Rattle.queue_core.specs.State.{Bound}
use Rattle.queue_core.specs.declared.event.Event.TheVariants.{Arrive, Ask, DeviceDown}
use Rattle.histories.specs.declared.entry.Entry.{Entry}
use Rattle.histories.specs.History.{replay_from}
use Rattle.histories.specs.Examples.{packet}
use Rattle.script_lines.specs.declared.line.Down.{Down}
use Rattle.run_parts.specs.Requests.{Plea}
use Rattle.run_parts.specs.Ascending.{Ascend, AscendFrom}
use Rattle.run_parts.specs.Feeder.{Item, Was, Fell, Passed, entries_of, lines_of, times_of, IsFed}
use Rattle.run_parts.specs.Feeder.{AreItemsFrom, IsNoDown, times_of_event}
use Rattle.run_parts.specs.Order.{Kind, Opens, Answers, Ends, Marked, kinds_of, early_rank}
use Rattle.run_parts.specs.Order.{late_ranks, IsOrdered}
use Rattle.run_parts.specs.FedExamples.{binds, asks, arrives, falls, comes_again}
use Rattle.run_parts.specs.FedExamples.{shuts, down_5, whole, kinds_of_7}
use Rattle.run_parts.specs.FedExamples.{opens_7, ends_7, no_kinds}

-- ---- fed

abbrev pub line : Down
line = record { device = 5; after = 1 }

pub whole_fed : (request : Request) → IsFed down_5 (whole request)
whole_fed request = record {
  items = Was binds ∷ Was (arrives 1) ∷ Fell (record { device = 5; after = 1 }) (falls 5)
      ∷ Was (arrives 2) ∷ Was (asks request) ∷ Was (shuts 7) ∷ [];
  entries = refl;
  lines = refl;
  each = (tt, (tt, (refl, (tt, (tt, (tt, tt))))));
  times = (omega arith, (omega arith, (omega arith, (omega arith, (omega arith, tt)))));
}

-- where no line is left, no device goes down
abbrev pub AreNoDowns : List Entry → Type 0
AreNoDowns [] = Unit {0}
AreNoDowns (e ∷ es) = IsNoDown e.event × AreNoDowns es

pub no_more : (q : Option Bound) (is : List Item) → flat_map lines_of is ≡ [] → AreItemsFrom q is →
    AreNoDowns (flat_map entries_of is)
no_more q [] none are = tt
no_more q (Was e ∷ is) none are = (are.0, no_more (replay_from q (e ∷ [])) is none are.1)
no_more q (Fell d e ∷ is) wrong are = absurd (cc)
no_more q (Passed d ∷ is) wrong are = absurd (cc)

pub rest_of : (d l : Down) (ds : List Down) → d ∷ ds ≡ l ∷ [] → ds ≡ []
rest_of d l ds is = cc

pub first_is : (e x : Entry) (es xs : List Entry) → e ∷ es ≡ x ∷ xs → e ≡ x
first_is e x es xs is = cc

pub no_arrival : (e : Entry) (number device : ℕ) → e ≡ arrives number → e.event ≡ DeviceDown device → ⊥
no_arrival e number device same down =
    let wrong : Arrive (packet number) false true ≡ DeviceDown device =
    sym (ap (λ (e : Entry). e.event) same) ∙ down in
    cc

late_by_one : (is : List Item) → flat_map entries_of is ≡ arrives 2 ∷ falls 5 ∷ [] →
    flat_map lines_of is ≡ down_5 → AreItemsFrom None is →
    AscendFrom 0 (flat_map times_of is) → ⊥
late_by_one [] e l a t = let wrong = e in cc
late_by_one (Passed d ∷ is) e l a t =
    (subst AreNoDowns e (no_more None is (rest_of d line (flat_map lines_of is) l) a.1)).1.0
late_by_one (Fell d x ∷ is) e l a t =
    no_arrival x 2 d.device (first_is x (arrives 2) (flat_map entries_of is) (falls 5 ∷ []) e) a.0
late_by_one (Was x ∷ []) e l a t = let wrong = e in cc
late_by_one (Was x ∷ Was y ∷ is) e l a t =
    let same : y ≡ falls 5 = cc in
    subst (λ (z : Entry). IsNoDown z.event) same a.1.0
late_by_one (Was x ∷ Fell d y ∷ is) e l a t =
    let same : x ≡ arrives 2 = cc in
    let its : d ≡ line = cc in
    let u = subst (λ (z : Entry). AscendFrom 0 (times_of_event z.event
    ++ ((2 * d.after + 1) ∷ flat_map times_of is))) same t in
    let after : d.after ≡ 1 = ap (λ (d : Down). d.after) its in
    absurd (omega (arith, u.1.1.0, after))
late_by_one (Was x ∷ Passed d ∷ is) e l a t =
    let more : flat_map entries_of is ≡ falls 5 ∷ [] = cc in
    (subst AreNoDowns more (no_more (replay_from None (x ∷ [])) is
    (rest_of d line (flat_map lines_of is) l) a.1.1)).0

-- a device goes down without a line
pub lineless_not_fed : IsFed [] (falls 5 ∷ []) → ⊥
lineless_not_fed is = by is.items is.entries is.lines is.each
  where
    by : (items : List Item) → flat_map entries_of items ≡ falls 5 ∷ [] →
        flat_map lines_of items ≡ [] → AreItemsFrom None items → ⊥
    by [] wrong lines each = cc
    by (Was e ∷ is) entries lines each =
        let same : e ≡ falls 5 = cc in
        subst (λ (f : Entry). IsNoDown f.event) same each.0
    by (Fell d e ∷ is) entries wrong each = cc
    by (Passed d ∷ is) entries wrong each = cc

pub late_not_fed : IsFed down_5 (arrives 2 ∷ falls 5 ∷ []) → ⊥
late_not_fed is =
    late_by_one is.items is.entries is.lines is.each is.times

pub backward_not_fed : (m n : ℕ) → n ≤ m → IsFed [] (arrives m ∷ arrives n ∷ []) → ⊥
backward_not_fed m n less is = by is.items is.entries is.lines is.times
  where
    by : (is : List Item) → flat_map entries_of is ≡ arrives m ∷ arrives n ∷ [] →
        flat_map lines_of is ≡ [] → AscendFrom 0 (flat_map times_of is) → ⊥
    by [] e l t = let wrong = e in cc
    by (Passed d ∷ is) e l t = let wrong = l in cc
    by (Fell d x ∷ is) e l t = let wrong = l in cc
    by (Was x ∷ []) e l t = let wrong = e in cc
    by (Was x ∷ Passed d ∷ is) e l t = let wrong = l in cc
    by (Was x ∷ Fell d y ∷ is) e l t = let wrong = l in cc
    by (Was x ∷ Was y ∷ is) e l t =
        let one : x ≡ arrives m = cc in
        let two : y ≡ arrives n = cc in
        let u = subst (λ (z : Entry). AscendFrom 0 (times_of_event z.event
        ++ (times_of_event y.event ++ flat_map times_of is))) one t in
        let v = subst (λ (z : Entry). AscendFrom 0 (2 * m ∷ (2 * m + 1) ∷ (times_of_event z.event
        ++ flat_map times_of is))) two u in
        absurd (omega (arith, v.1.1.0, less))

-- ---- in order

-- a history of two entries with their kinds
pub record Two (ports : List ℕ) (told : ℕ → List Kind) (a b : Entry) : Type 0 where
  pub k : Kind
  pub l : Kind
  pub kinds : (port : ℕ) → kinds_of port (record { entry = a; kind = k })
      ++ (kinds_of port (record { entry = b; kind = l }) ++ []) ≡ told port
  pub early : Ascend (early_rank ports (record { entry = a; kind = k })
      ∷ early_rank ports (record { entry = b; kind = l }) ∷ [])
  pub late : Ascend (late_ranks ports (record { entry = a; kind = k })
      ++ (late_ranks ports (record { entry = b; kind = l }) ++ []))

two_of : (ports : List ℕ) (told : ℕ → List Kind) (a b : Entry) →
    IsOrdered ports told (a ∷ b ∷ []) → Two ports told a b
two_of ports told a b is = by is.marks is.entries is.kinds is.early is.late
  where
    by : (ms : List Marked) → map (λ (m : Marked). m.entry) ms ≡ a ∷ b ∷ [] →
        ((port : ℕ) → flat_map (kinds_of port) ms ≡ told port) →
        Ascend (map (early_rank ports) ms) → Ascend (flat_map (late_ranks ports) ms) →
        Two ports told a b
    by [] e ks up on = let wrong = e in absurd (cc)
    by (m ∷ []) e ks up on = let wrong = e in absurd (cc)
    by (m ∷ n ∷ o ∷ ms) e ks up on = let wrong = e in absurd (cc)
    by (m ∷ n ∷ []) e ks up on =
        let one : m.entry ≡ a = cc in
        let two : n.entry ≡ b = cc in
        subst (λ x. Two ports told x b) one
        (subst (λ y. Two ports told m.entry y) two
        (record { k = m.kind; l = n.kind; kinds = ks; early = up; late = on }))

pub whole_ordered : (request : Request) → IsOrdered (7 ∷ []) kinds_of_7 (whole request)
whole_ordered request = record {
  marks = record { entry = binds; kind = Opens } ∷ other (arrives 1) ∷ other (falls 5)
      ∷ other (arrives 2) ∷ record { entry = asks request; kind = Ends } ∷ other (shuts 7) ∷ [];
  entries = refl;
  kinds = λ port. by (port == 7) _ _;
  early = (
    omega arith,
    (
      omega arith,
      (
        omega arith,
        (
          omega arith,
          (
            omega arith,
            (
              omega arith,
              tt,
            ),
          ),
        ),
      ),
    ),
  );
  late = (omega arith, (omega arith, (omega arith, (omega arith, (omega arith, tt)))));
}
  where
    other : Entry → Marked
    other e = record { entry = e; kind = Answers }

    by : (c : Bool) (x y : Plea) → map (λ (p : Plea). Opens) (if c then x ∷ [] else [])
        ++ (map (λ (p : Plea). Ends) (if c then y ∷ [] else []) ++ [])
        ≡ (if c then Opens ∷ Ends ∷ [] else [])
    by true x y = refl
    by false x y = refl

pub late_opening : IsOrdered (7 ∷ []) opens_7 (arrives 1 ∷ binds ∷ []) → ⊥
late_opening is =
    let two = two_of (7 ∷ []) opens_7 (arrives 1) binds is in
    by two.k two.l (two.kinds 7) two.early
  where
    by : (k l : Kind) → l ∷ [] ≡ Opens ∷ [] →
        Ascend (early_rank (7 ∷ []) (record { entry = arrives 1; kind = k })
        ∷ early_rank (7 ∷ []) (record { entry = binds; kind = l }) ∷ []) → ⊥
    by Opens Opens same up = absurd (omega (arith, up.1.0))
    by Answers Opens same up = absurd (omega (arith, up.1.0))
    by Ends Opens same up = absurd (omega (arith, up.1.0))
    by k Answers same up = let wrong = same in cc
    by k Ends same up = let wrong = same in cc

pub early_end : (request : Request) → IsOrdered (7 ∷ []) ends_7 (asks request ∷ arrives 1 ∷ []) → ⊥
early_end request is =
    let two = two_of (7 ∷ []) ends_7 (asks request) (arrives 1) is in
    by two.k two.l (two.kinds 7) two.late
  where
    by : (k l : Kind) → k ∷ [] ≡ Ends ∷ [] →
        Ascend (late_ranks (7 ∷ []) (record { entry = asks request; kind = k })
        ++ (late_ranks (7 ∷ []) (record { entry = arrives 1; kind = l }) ++ [])) → ⊥
    by Ends l same on = absurd (omega (arith, on.1.0))
    by Opens l same on = let wrong = same in cc
    by Answers l same on = let wrong = same in cc

pub early_closing : IsOrdered (7 ∷ []) no_kinds (shuts 7 ∷ arrives 1 ∷ []) → ⊥
early_closing is =
    let two = two_of (7 ∷ []) no_kinds (shuts 7) (arrives 1) is in
    absurd (omega (arith, two.late.1.0))

pub wrong_closings : IsOrdered (7 ∷ 9 ∷ []) no_kinds (shuts 9 ∷ shuts 7 ∷ []) → ⊥
wrong_closings is =
    let two = two_of (7 ∷ 9 ∷ []) no_kinds (shuts 9) (shuts 7) is in
    absurd (omega (arith, two.late.1.0))

pub again_fed : IsFed [] (arrives 1 ∷ arrives 2 ∷ comes_again 1 ∷ [])
again_fed = record {
  items = Was (arrives 1) ∷ Was (arrives 2) ∷ Was (comes_again 1) ∷ [];
  entries = refl;
  lines = refl;
  each = (tt, (tt, (tt, tt)));
  times = (omega arith, (omega arith, (omega arith, (omega arith, tt))));
}

-- ---- lines without an entry

pub absent_fed : IsFed down_5 (arrives 1 ∷ [])
absent_fed = record {
  items = Was (arrives 1) ∷ Passed (record { device = 5; after = 1 }) ∷ [];
  entries = refl;
  lines = refl;
  each = (tt, (refl, tt));
  times = (omega arith, (omega arith, (omega arith, tt)));
}

no_binding : (e : Entry) (device : ℕ) → e ≡ binds → e.event ≡ DeviceDown device → ⊥
no_binding e device same down =
    let wrong : Ask 7 1 (Config 3 (Some 1) None None None None) ≡ DeviceDown device =
    sym (ap (λ (e : Entry). e.event) same) ∙ down in
    cc

-- it can't pass before the frame
passed_early : (low : ℕ) (is : List Item) → 3 ≤ low →
    flat_map entries_of is ≡ binds ∷ arrives 1 ∷ [] → flat_map lines_of is ≡ [] →
    AscendFrom low (flat_map times_of is) → ⊥
passed_early low [] least e l t = let wrong = e in cc
passed_early low (Passed d ∷ is) least e l t = let wrong = l in cc
passed_early low (Fell d x ∷ is) least e l t = let wrong = l in cc
passed_early low (Was x ∷ []) least e l t = let wrong = e in cc
passed_early low (Was x ∷ Passed d ∷ is) least e l t = let wrong = l in cc
passed_early low (Was x ∷ Fell d y ∷ is) least e l t = let wrong = l in cc
passed_early low (Was x ∷ Was y ∷ is) least e l t =
    let one : x ≡ binds = cc in
    let two : y ≡ arrives 1 = cc in
    let u = subst (λ (z : Entry). AscendFrom low (times_of_event z.event
    ++ (times_of_event y.event ++ flat_map times_of is))) one t in
    let v = subst (λ (z : Entry). AscendFrom low (times_of_event z.event
    ++ flat_map times_of is)) two u in
    absurd (omega (arith, v.0, least))

missed_by : (is : List Item) → flat_map entries_of is ≡ binds ∷ arrives 1 ∷ [] →
    flat_map lines_of is ≡ down_5 → AreItemsFrom None is →
    AscendFrom 0 (flat_map times_of is) → ⊥
missed_by [] e l a t = let wrong = e in cc
missed_by (Fell d x ∷ is) e l a t =
    no_binding x d.device (first_is x binds (flat_map entries_of is) (arrives 1 ∷ []) e) a.0
missed_by (Passed d ∷ is) e l a t =
    let its : d ≡ line = cc in
    let after : d.after ≡ 1 = ap (λ (d : Down). d.after) its in
    passed_early (2 * d.after + 1) is (omega (arith, after)) e
    (rest_of d line (flat_map lines_of is) l) t.1
missed_by (Was x ∷ []) e l a t = let wrong = e in cc
missed_by (Was x ∷ Passed d ∷ is) e l a t =
    let one : x ≡ binds = cc in
    let wrong = subst (λ (z : Entry). replay_from None (z ∷ []) ≡ None) one a.1.0 in
    cc
missed_by (Was x ∷ Fell d y ∷ is) e l a t =
    let two : y ≡ arrives 1 = cc in
    no_arrival y 1 d.device two a.1.0
missed_by (Was x ∷ Was y ∷ []) e l a t = let wrong = l in cc
missed_by (Was x ∷ Was y ∷ Was z ∷ is) e l a t = let wrong = e in cc
missed_by (Was x ∷ Was y ∷ Fell d z ∷ is) e l a t = let wrong = e in cc
missed_by (Was x ∷ Was y ∷ Passed d ∷ is) e l a t =
    let one : x ≡ binds = cc in
    let two : y ≡ arrives 1 = cc in
    let u = subst (λ (z : Entry). replay_from None (z ∷ y ∷ []) ≡ None) one a.1.1.0 in
    let wrong = subst (λ (z : Entry). replay_from None (binds ∷ z ∷ []) ≡ None) two u in
    cc

pub missed_not_fed : IsFed down_5 (binds ∷ arrives 1 ∷ []) → ⊥
missed_not_fed is = missed_by is.items is.entries is.lines is.each is.times
