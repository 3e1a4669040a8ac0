-- A history in order goes on with an entry that has the ranks that are due.
use Rattle.std.proofs.Common.{◌++◌, ◌∙◌, ◌∷◌, ◌≡◌, ◌≤◌, List, [], ap, append-nil, arith, inl, inr}
use Rattle.std.proofs.Common.{refl, subst, sym, ℕ}
use Rattle.std.proofs.lemmas.List.{map-append}
use Rattle.std.proofs.lemmas.List.Concat.{flat_map-append}
use Rattle.std.specs.Prelude.{flat_map, map}
use Rattle.histories.specs.declared.entry.Entry.{Entry}
use Rattle.run_parts.specs.Ascending.{AscendFrom}
use Rattle.run_parts.specs.Order.{Kind, Marked, early_rank, kinds_of, late_ranks}
use Rattle.run_parts.specs.Underway.{IsNow, Ordered, Rise, last_of}

ascend_push : (low : ℕ) (xs : List ℕ) (k : ℕ) → AscendFrom low xs → last_of low xs ≤ k →
    AscendFrom low (xs ++ k ∷ [])
ascend_push low [] k are least = (least, tt)
ascend_push low (x ∷ xs) k are least = (are.0, ascend_push x xs k are.1 least)

last_push : (low : ℕ) (xs : List ℕ) (k : ℕ) → last_of low (xs ++ k ∷ []) ≡ k
last_push low [] k = refl
last_push low (x ∷ xs) k = last_push x xs k

rise_later : (k l : ℕ) (xs : List ℕ) → k ≤ l → Rise k xs → Rise l xs
rise_later k l xs less is = record { ascend = is.ascend; last = omega (arith, is.last, less) }

rise_push : (k : ℕ) (xs ys : List ℕ) → IsNow k ys → Rise k xs → Rise k (xs ++ ys)
rise_push k xs ys (inl none) is =
    subst (λ zs. Rise k (xs ++ zs)) (sym none) (subst (Rise k) (sym (append-nil xs)) is)
rise_push k xs ys (inr one) is = subst (λ zs. Rise k (xs ++ zs)) (sym one) (record {
  ascend = ascend_push 0 xs k is.ascend is.last;
  last = omega (arith, last_push 0 xs k);
})

module _ (ports : List ℕ) where
  pub ordered_later : (e f l n : ℕ) (told more : ℕ → List Kind) (h : List Entry) → e ≤ f → l ≤ n →
      ((port : ℕ) → told port ≡ more port) → Ordered ports e l told h → Ordered ports f n more h
  ordered_later e f l n told more h up on same is = record {
    marks = is.marks;
    entries = is.entries;
    kinds = λ port. is.kinds port ∙ same port;
    early = rise_later e f (map (early_rank ports) is.marks) up is.early;
    late = rise_later l n (flat_map (late_ranks ports) is.marks) on is.late;
  }

  pub ordered_push : (e l : ℕ) (told more : ℕ → List Kind) (h : List Entry) (m : Marked) →
      early_rank ports m ≡ e → IsNow l (late_ranks ports m) →
      ((port : ℕ) → told port ++ kinds_of port m ≡ more port) → Ordered ports e l told h →
      Ordered ports e l more (h ++ m.entry ∷ [])
  ordered_push e l told more h m first last same is = record {
    marks = is.marks ++ m ∷ [];
    entries = map-append (λ (m : Marked). m.entry) is.marks (m ∷ [])
        ∙ ap (λ es. es ++ m.entry ∷ []) is.entries;
    kinds = λ port. flat_map-append (kinds_of port) is.marks (m ∷ [])
        ∙ ap (λ ks. flat_map (kinds_of port) is.marks ++ ks) (append-nil (kinds_of port m))
        ∙ ap (λ ks. ks ++ kinds_of port m) (is.kinds port) ∙ same port;
    early = subst (Rise e) (sym (map-append (early_rank ports) is.marks (m ∷ [])))
        (rise_push e (map (early_rank ports) is.marks) (early_rank ports m ∷ [])
        (inr (ap (λ k. k ∷ []) first)) is.early);
    late = subst (Rise l) (sym (flat_map-append (late_ranks ports) is.marks (m ∷ [])
        ∙ ap (λ ks. flat_map (late_ranks ports) is.marks ++ ks) (append-nil (late_ranks ports m))))
        (rise_push l (flat_map (late_ranks ports) is.marks) (late_ranks ports m) last is.late);
  }
