-- Each kind of step keeps the rule of the deque of jobs, and tells what it says.
use Rattle.std.proofs.Common.{◌≡◌, ℕ, ◌+◌, ◌<◌, List, [], ◌∷◌, ◌∙◌, set, refl, ap, arith}
use Rattle.std.proofs.Common.{sum_by}
use Rattle.std.proofs.lemmas.List.Elements.{All-cons, All-nil}
use Rattle.std.proofs.lemmas.List.Sums.{sum_by_push}
use mathlib.Core.Option.{some}
use lib.ListN.{get_elem?}
use Rattle.crossbeam_deque.specs.Tasks.{Pushes, Takes, Forks, Merges, Finds}
use Rattle.atomic_table.proofs.Lists.{set_else}
use Rattle.table_seats.specs.Seats.{each_first, each_set, each_split, each_joined}
use Rattle.table_seats.specs.Sums.{sum_set, sum_more, sum_joined, sum_of_one}
use Rattle.inspector_pool.specs.declared.deque.Tally.{Tally}
use Rattle.inspector_pool.specs.Answers.{times}
use Rattle.inspector_pool.specs.Rule.{tally, all_parts, first_tally, guest_tally, cut_tally}
use Rattle.inspector_pool.specs.Rule.{new_tally, joined_tally, put_tally, took_tally, parts_of}
use Rattle.inspector_pool.specs.Rule.{times_taken, jobs, IsJob, Knows, EachOnce}
use Rattle.inspector_pool.specs.Rule.{HasTaken, AreAllTaken}
use Rattle.inspector_pool.proofs.Occurrences.{times_append, hit, times_more, in_range}

pub begins : EachOnce [] (first_tally ∷ [])
begins = record {
  put = 0;
  parts = refl;
  each = each_first (λ id v. Knows 0 v) first_tally
      (record { known = λ _. refl; idle = λ _. refl });
  once = λ x. refl;
}

-- a pass that has every part is the only one that has a part
alone : (views : List Tally) (id : ℕ) (v : Tally) → get_elem? views id ≡ some v
    → sum_by parts_of views ≡ v.parts
    → (i : ℕ) (u : Tally) → ¬ (i ≡ id) → get_elem? views i ≡ some u → u.parts ≡ 0
alone views id v at all i u ne at_u =
    let w : Tally = tally 0 0 [] in
    let a = sum_set parts_of views id v w at in
    let there : get_elem? (set views id w) i ≡ some u = set_else views id i w ne ∙ at_u in
    let b = sum_set parts_of (set views id w) i u w there in
    omega arith

pub puts : (id : ℕ) (v : Tally) (x : ℕ) → v.parts ≡ all_parts → x ≡ v.put + 1
    → Pushes EachOnce id v (x ∷ []) (λ w. w ≡ put_tally v)
puts id v x all is items views h at =
    let w : Tally = put_tally v in
    let know = (h.each id v at).known (omega arith) in
    let ps = sum_set parts_of views id v w at in
    let p = h.parts in (
      w,
      record {
        put = v.put + 1;
        parts = omega arith;
        each = each_set (λ i u. Knows (v.put + 1) u) views id w
            (record { known = λ _. refl; idle = λ none. absurd (omega arith) })
            (λ i u ne at_u. let none = alone views id v at (omega arith) i u ne at_u in
            record { known = λ some. absurd (omega arith); idle = (h.each i u at_u).idle });
        once = λ y.
            let e = h.once y in
            let m = ap (λ k. times y (jobs k)) know in
            let r = times_more y v.put in
            let t = sum_set (times_taken y) views id v w at in
            let s = times_append y items (x ∷ []) in
            let q : times y (x ∷ []) ≡ times y ((v.put + 1) ∷ []) = ap (λ k. times y (k ∷ [])) is in
            omega arith;
      },
      refl,
    )

pub takes : (id : ℕ) (v : Tally) → 0 < v.parts → Takes EachOnce id v 1 (HasTaken v)
takes id v part [] items views low high h at = absurd (omega arith)
takes id v part (x ∷ y ∷ xs) items views low high h at = absurd (omega arith)
takes id v part (x ∷ []) items views low high h at =
    let w : Tally = took_tally v (x ∷ []) in
    let know = (h.each id v at).known part in
    let ps = sum_set parts_of views id v w at in
    let p = h.parts in
    let one = hit x in
    let e = h.once x in
    let m = ap (λ k. times x (jobs k)) know in
    let r = in_range x 1 v.put (omega arith) in
    let lo = r.0 in let hi = r.1 in (
      w,
      record {
        put = h.put;
        parts = omega arith;
        each = each_set (λ i u. Knows h.put u) views id w
            (record { known = λ _. know; idle = λ none. absurd (omega arith) })
            (λ i u ne at_u. h.each i u at_u);
        once = λ z.
            let e = h.once z in
            let t = sum_set (times_taken z) views id v w at in
            let s = times_append z v.taken (x ∷ []) in
            omega arith;
      },
      (
        refl,
        All-cons (IsJob v.put) x [] (record { low = lo; high = omega arith })
            (All-nil (IsJob v.put)),
      ),
    )

pub forks : (id : ℕ) (v : Tally) → 1 < v.parts → Forks EachOnce id v (cut_tally v) (new_tally v)
forks id v two items views h at =
    let know = (h.each id v at).known (omega arith) in
    let a = sum_set parts_of views id v (cut_tally v) at in
    let b = sum_by_push parts_of (set views id (cut_tally v)) (new_tally v) in
    let p = h.parts in
    record {
      put = h.put;
      parts = omega arith;
      each = each_split (λ i u. Knows h.put u) views id (cut_tally v) (new_tally v)
          (record { known = λ _. know; idle = λ none. absurd (omega arith) })
          (record { known = λ _. know; idle = λ none. refl })
          (λ i u ne at_u. h.each i u at_u);
      once = λ x.
          let e = h.once x in
          let t = sum_more (times_taken x) views id v (cut_tally v) (new_tally v) at refl refl in
          omega arith;
    }

pub merges : (id : ℕ) (v : Tally) (other : ℕ) (w : Tally) → 0 < v.parts
    → Merges EachOnce id v other w (joined_tally v w) guest_tally
merges id v other w part items views h at apart at_w =
    let both : Tally = joined_tally v w in
    let know = (h.each id v at).known part in
    let a = sum_joined parts_of views id other v w both guest_tally at at_w in
    let p = h.parts in
    record {
      put = h.put;
      parts = omega arith;
      each = each_joined (λ i u. Knows h.put u) views id other both guest_tally
          (record { known = λ _. know; idle = λ none. absurd (omega arith) })
          (record { known = λ some. absurd (omega arith); idle = λ _. refl })
          (λ i u ne no at_u. h.each i u at_u);
      once = λ x.
          let e = h.once x in
          let t = sum_joined (times_taken x) views id other v w both guest_tally at at_w in
          let s = times_append x v.taken w.taken in
          omega arith;
    }

pub finds : (id : ℕ) (v : Tally) → Finds EachOnce id v (AreAllTaken v)
finds id v views h at all x =
    let know = (h.each id v at).known (omega arith) in
    let e = h.once x in
    let p = h.parts in
    let m = ap (λ k. times x (jobs k)) know in
    let o = sum_of_one (times_taken x) views id v at
    (λ i u ne at_u. ap (times x)
    ((h.each i u at_u).idle (alone views id v at (omega arith) i u ne at_u))) in
    omega arith
