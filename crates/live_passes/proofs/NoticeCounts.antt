-- How many notices a pass sent, by its places and by its marks, is the same.
use Rattle.std.proofs.Common.{◌++◌, ◌+◌, ◌<◌, ◌∙◌, ◌∷◌, ◌≡◌, ◌≤◌, ◌⊎◌, Bool, List, Some, [], ap}
use Rattle.std.proofs.Common.{append_assoc, arith, false, inl, inr, length, refl, subst, suc, sym}
use Rattle.std.proofs.Common.{true, ℕ}
use Rattle.std.proofs.lemmas.Bool.{cases_Bool, eq-eqb, eqb-true, ne_eqb}
use Rattle.std.proofs.lemmas.List.{length-append}
use Rattle.std.proofs.lemmas.List.Sums.{sum_by-cons}
use Rattle.std.specs.Prelude.{◌==◌, if◌then◌else◌, option_to_list, slice_get, sum_by}
use Rattle.histories.specs.declared.entry.Entry.{Entry}
use Rattle.live_runs.specs.ClosedPlanes.{own_taken}
use Rattle.live_runs.specs.Locks.{is_in, marked, marked_from}
use Rattle.live_runs.specs.Seen.{Ours, Seen, Theirs}
use Rattle.locked_place.specs.Points.{Point, point_after, points_after}
use Rattle.place_rows.specs.Rows.{Known}
use Rattle.place_rows.specs.Shares.{at_places, notices_at}
use Rattle.turn_lock.specs.Places.{Ascends}
use Rattle.turn_lock.specs.Views.{HasSeenOwn}
use Rattle.place_rows.specs.Shares as row

-- marks that agree from a place on
marked_alike : (f g : ℕ → Bool) (at : ℕ) (xs : List Entry) →
    ((i : ℕ) → at ≤ i → f i ≡ g i) → marked_from f at xs ≡ marked_from g at xs
marked_alike f g at [] same = refl
marked_alike f g at (x ∷ xs) same =
    ap (λ b. (if b then Ours x else Theirs x) ∷ marked_from f (at + 1) xs) (same at (omega arith))
    ∙ ap (λ zs. (if g at then Ours x else Theirs x) ∷ zs)
    (marked_alike f g (at + 1) xs (λ i least. same i (omega (arith, least))))

-- a place before all of these is none of them
before_all : (low high : ℕ) (own : List ℕ) (i : ℕ) → Ascends low high own → i < low →
    is_in own i ≡ false
before_all low high [] i are less = refl
before_all low high (x ∷ own) i are less =
    let least = are.0 in
    rw (ne_eqb i x (λ same. absurd (omega (arith, same, least, less))))
    (before_all (x + 1) high own i are.1.1 (omega (arith, least, less)))

in_front : {X : Type 0} (xs ys : List X) (y : X) → slice_get (xs ++ y ∷ ys) (length xs) ≡ Some y
in_front [] ys y = refl
in_front (x ∷ xs) ys y = in_front xs ys y

-- none is left where the list ends
no_more : (low : ℕ) (own : List ℕ) → Ascends low (low + 0) own → own ≡ []
no_more low [] are = refl
no_more low (x ∷ own) are =
    let least = are.0 in
    let most = are.1.0 in
    absurd (omega (arith, least, most))

module _ (port : ℕ) where
  abbrev notices : List Point → ℕ
  notices ps = sum_by (notices_at port) ps

  -- a mark in front
  marked_own : (before : List Entry) (e : Entry) (xs : List Seen) (b : Bool) → b ≡ true →
      notices_at port (point_after before e) + own_taken port (before ++ e ∷ []) xs
      ≡ own_taken port before ((if b then Ours e else Theirs e) ∷ xs)
  marked_own before e xs true is = refl
  marked_own before e xs false wrong = absurd (cc)

  marked_other : (before : List Entry) (e : Entry) (xs : List Seen) (b : Bool) → b ≡ false →
      own_taken port (before ++ e ∷ []) xs
      ≡ own_taken port before ((if b then Ours e else Theirs e) ∷ xs)
  marked_other before e xs true wrong = absurd (cc)
  marked_other before e xs false is = refl

  abbrev Agree : List Point → List Entry → List Entry → List ℕ → Type 0
  Agree front before es own =
      notices (at_places (front ++ points_after before es) own)
      ≡ own_taken port before (marked_from (is_in own) (length front) es)

  agree : (front : List Point) (before es : List Entry) (own : List ℕ) →
      Ascends (length front) (length front + length es) own → Agree front before es own
  agree front before [] own are =
      ap (λ ks. notices (at_places (front ++ []) ks)) (no_more (length front) own are)
  agree front before (e ∷ es) own are =
      by own are (λ ks so. on ks (agree (front ++ p ∷ []) (before ++ e ∷ []) es ks (longer ks so)))
    where
      p : Point
      p = point_after before e

      at : ℕ
      at = length front

      rest : List Point
      rest = points_after (before ++ e ∷ []) es

      long : length (front ++ p ∷ []) ≡ at + 1
      long = length-append front (p ∷ [])

      longer : (ks : List ℕ) → Ascends (at + 1) (at + suc (length es)) ks →
          Ascends (length (front ++ p ∷ [])) (length (front ++ p ∷ []) + length es) ks
      longer ks so =
          let same : at + suc (length es) ≡ length (front ++ p ∷ []) + length es =
          omega (arith, long) in
          subst (λ high. Ascends (length (front ++ p ∷ [])) high ks) same
          (subst (λ low. Ascends low (at + suc (length es)) ks) (sym long) so)

      -- the rest agrees, in the words of the whole
      on : (ks : List ℕ) → Agree (front ++ p ∷ []) (before ++ e ∷ []) es ks →
          notices (at_places (front ++ p ∷ rest) ks)
          ≡ own_taken port (before ++ e ∷ []) (marked_from (is_in ks) (at + 1) es)
      on ks so =
          ap (λ ps. notices (at_places ps ks)) (sym (append_assoc front (p ∷ []) rest)) ∙ so
          ∙ ap (λ n. own_taken port (before ++ e ∷ []) (marked_from (is_in ks) n es)) long

      first : (ks : List ℕ) → notices (option_to_list (slice_get (front ++ p ∷ rest) at)
          ++ at_places (front ++ p ∷ rest) ks)
          ≡ notices_at port p + notices (at_places (front ++ p ∷ rest) ks)
      first ks = ap (λ o. notices (option_to_list o ++ at_places (front ++ p ∷ rest) ks))
          (in_front front rest p)
          ∙ sum_by-cons (notices_at port) p (at_places (front ++ p ∷ rest) ks)

      by : (ks : List ℕ) → Ascends at (at + suc (length es)) ks →
          ((js : List ℕ) → Ascends (at + 1) (at + suc (length es)) js →
          notices (at_places (front ++ p ∷ rest) js)
          ≡ own_taken port (before ++ e ∷ []) (marked_from (is_in js) (at + 1) es)) →
          notices (at_places (front ++ p ∷ rest) ks)
          ≡ own_taken port before (marked_from (is_in ks) at (e ∷ es))
      by [] so next = next [] tt
      by (k ∷ ks) so next = here (cases_Bool (at == k))
        where
          here : ((at == k) ≡ true) ⊎ ((at == k) ≡ false) →
              notices (at_places (front ++ p ∷ rest) (k ∷ ks))
              ≡ own_taken port before (marked_from (is_in (k ∷ ks)) at (e ∷ es))
          here (inl same) =
              let is : at ≡ k = eqb-true at k same in
              let later = subst (λ n. Ascends (n + 1) (at + suc (length es)) ks) (sym is) so.1.1 in
              let alike : marked_from (is_in ks) (at + 1) es
              ≡ marked_from (is_in (k ∷ ks)) (at + 1) es =
              marked_alike (is_in ks) (is_in (k ∷ ks)) (at + 1) es (λ i least.
              sym (rw (ne_eqb i k (λ j. absurd (omega (arith, j, is, least)))) refl)) in
              let sum : notices (at_places (front ++ p ∷ rest) (k ∷ ks))
              ≡ notices_at port p
              + own_taken port (before ++ e ∷ []) (marked_from (is_in (k ∷ ks)) (at + 1) es) =
              subst (λ n. notices (option_to_list (slice_get (front ++ p ∷ rest) n)
              ++ at_places (front ++ p ∷ rest) ks)
              ≡ notices_at port p + notices (at_places (front ++ p ∷ rest) ks)) is (first ks)
              ∙ ap (λ n. notices_at port p + n) (next ks later
              ∙ ap (own_taken port (before ++ e ∷ [])) alike) in
              sum ∙ marked_own before e (marked_from (is_in (k ∷ ks)) (at + 1) es)
              (is_in (k ∷ ks) at) (rw same refl)
          here (inr other) =
              let least = so.0 in
              let apart : at ≡ k → ⊥ = λ is. no_way (eq-eqb at k is) in
              next (k ∷ ks) (next_place apart least, so.1)
              ∙ marked_other before e (marked_from (is_in (k ∷ ks)) (at + 1) es) (is_in (k ∷ ks) at)
              (before_all (at + 1) (at + suc (length es)) (k ∷ ks) at
              (next_place apart least, so.1) (omega arith))
            where
              no_way : (at == k) ≡ true → ⊥
              no_way wrong = absurd (cc)

              next_place : (at ≡ k → ⊥) → at ≤ k → at + 1 ≤ k
              next_place apart least = omega (arith, apart, least)

  pub sent_agrees : (v : Known) → HasSeenOwn v →
      row.sent_at port v ≡ own_taken port [] (marked v.own v.seen)
  sent_agrees v placed =
      let same : length v.seen ≡ 0 + length v.seen = omega arith in
      agree [] [] v.seen v.own (subst (λ high. Ascends 0 high v.own) same placed)
