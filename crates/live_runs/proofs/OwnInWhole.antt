-- What each pass has of its own, the whole list has.
use Rattle.std.proofs.Common.{◌++◌, ◌∙◌, ◌∷◌, ◌≡◌, ◌≢◌, Bool, List, None, Option, Some, [], ap}
use Rattle.std.proofs.Common.{inl, inr, refl, subst, suc, sym, true, zero, ℕ}
use Rattle.std.proofs.lemmas.Bool.Decides.{eqb_tells}
use Rattle.std.proofs.lemmas.Option.{slice_get-map}
use Rattle.std.specs.Prelude.{flat_map, option_map, slice_get}
use Rattle.histories.specs.declared.entry.Entry.{Entry}
use Rattle.run_parts.specs.Log.{Note}
use Rattle.run_parts.specs.Requests.{pleas_told}
use Rattle.live_runs.specs.ClosedPlanes.{AreOwned, IsCovered}
use Rattle.live_runs.specs.Owners.{IsEven, IsNotBy}
use Rattle.live_runs.specs.Seen.{EachIs, Ours, OursAre, Seen, Theirs, TheirsAre, all_theirs}
use Rattle.live_runs.specs.Seen.{entries, entry}
use Rattle.live_runs.proofs.Marks.{entries_append, entries_theirs, met_grows}
use Rattle.live_runs.proofs.RequestCounts.{grown_even, no_pleas, pleas}

pub theirs_by_index : (Q : Entry → Type 0) (xs : List Seen) →
    ((i : ℕ) (e : Entry) → slice_get xs i ≡ Some (Theirs e) → Q e) → TheirsAre Q xs
theirs_by_index Q [] at = tt
theirs_by_index Q (Ours e ∷ xs) at = theirs_by_index Q xs (λ i f is. at (suc i) f is)
theirs_by_index Q (Theirs e ∷ xs) at =
    (at zero e refl, theirs_by_index Q xs (λ i f is. at (suc i) f is))

pub each_by_index : (Q : Entry → Type 0) (es : List Entry) →
    ((i : ℕ) (e : Entry) → slice_get es i ≡ Some e → Q e) → EachIs Q es
each_by_index Q [] at = tt
each_by_index Q (e ∷ es) at = (at zero e refl, each_by_index Q es (λ i f is. at (suc i) f is))

pub clash : (e f : Entry) → Some (Theirs e) ≡ Some (Ours f) → ⊥
clash e f is = subst by is tt
  where
    by : Option Seen → Type 0
    by None = Unit {0}
    by (Some (Ours x)) = ⊥
    by (Some (Theirs x)) = Unit {0}

pub ours_at : (Q : Entry → Type 0) (xs : List Seen) → OursAre Q xs → (i : ℕ) (e : Entry) →
    slice_get xs i ≡ Some (Ours e) → Q e
ours_at Q [] are i e is = absurd (none is)
  where
    none : None ≡ Some (Ours e) → ⊥
    none is = subst by is tt
      where
        by : Option Seen → Type 0
        by None = Unit {0}
        by (Some x) = ⊥
ours_at Q (Ours f ∷ xs) are zero e is = subst by is are.0
  where
    by : Option Seen → Type 0
    by None = Unit {0}
    by (Some (Ours x)) = Q x
    by (Some (Theirs x)) = Unit {0}
ours_at Q (Ours f ∷ xs) are (suc i) e is = ours_at Q xs are.1 i e is
ours_at Q (Theirs f ∷ xs) are zero e is = absurd (clash f e is)
ours_at Q (Theirs f ∷ xs) are (suc i) e is = ours_at Q xs are i e is

pub at_front : (xs ys : List Seen) (i : ℕ) (x : Seen) → slice_get xs i ≡ Some x →
    slice_get (xs ++ ys) i ≡ Some x
at_front [] ys i x is = absurd (none is)
  where
    none : None ≡ Some x → ⊥
    none is = subst by is tt
      where
        by : Option Seen → Type 0
        by None = Unit {0}
        by (Some x) = ⊥
at_front (y ∷ xs) ys zero x is = is
at_front (y ∷ xs) ys (suc i) x is = at_front xs ys i x is

-- where each entry is some pass's own, those in a list that goes on from what a pass has seen, and
-- that aren't its own, are other passes'
pub theirs_of_others : (Q : Entry → Type 0) (count : ℕ → Bool) (all : ℕ → List Seen) (p : ℕ)
    (xs : List Seen) → AreOwned count all (entries xs) →
    ((i : ℕ) (x : Seen) → slice_get (all p) i ≡ Some x → slice_get xs i ≡ Some x) →
    ((k : ℕ) → count k ≡ true → k ≢ p → OursAre Q (all k)) → TheirsAre Q xs
theirs_of_others Q count all p xs owned longer others =
    theirs_by_index Q xs (λ i e is. found i e is
    (owned.owned i e (slice_get-map entry xs i ∙ ap (option_map entry) is)))
  where
    found : (i : ℕ) (e : Entry) → slice_get xs i ≡ Some (Theirs e) →
        (k : ℕ) × (count k ≡ true) × (slice_get (all k) i ≡ Some (Ours e)) → Q e
    found i e is o =
        elim (eqb_tells o.0 p) [
          | inl (yes_, same) ↦
              absurd (clash e e (sym is ∙ longer i (Ours e)
              (ap (λ k. slice_get (all k) i) (sym same) ∙ o.2)))
          | inr (no_, other) ↦
              ours_at Q (all o.0) (others o.0 o.1 other) i e o.2
        ]

module _ (count : ℕ → Bool) (all : ℕ → List Seen) (whole : List Entry)
    (c : IsCovered count all whole) where
  abbrev filled : ℕ → List Seen
  filled p = all p ++ all_theirs (c.rest p)

  pub full_entries : (p : ℕ) → count p ≡ true → entries (filled p) ≡ whole
  full_entries p below = entries_append (all p) (all_theirs (c.rest p))
      ∙ ap (λ es. entries (all p) ++ es) (entries_theirs (c.rest p)) ∙ sym (c.begins p below)

  -- the entries that aren't this pass's own are other passes'
  pub theirs_are : (Q : Entry → Type 0) (p : ℕ) → count p ≡ true →
      ((k : ℕ) → count k ≡ true → k ≢ p → OursAre Q (all k)) → TheirsAre Q (filled p)
  theirs_are Q p below others =
      theirs_of_others Q count all p (filled p)
      (subst (AreOwned count all) (sym (full_entries p below)) c.owned)
      (at_front (all p) (all_theirs (c.rest p))) others

  -- what holds of each pass's own holds of all
  pub each_is : (Q : Entry → Type 0) → ((k : ℕ) → count k ≡ true → OursAre Q (all k)) →
      EachIs Q whole
  each_is Q own = each_by_index Q whole (λ i e is.
      let o = c.owned.owned i e is in ours_at Q (all o.0) (own o.0 o.1) i e o.2)

  -- ---- requests
  pub whole_even : (port queue p : ℕ) (notes : List Note) → count p ≡ true →
      ((k : ℕ) → count k ≡ true → k ≢ p → OursAre (IsNotBy port) (all k)) →
      IsEven port queue (all p) notes →
      pleas port queue whole ≡ flat_map (pleas_told queue) notes
  whole_even port queue p notes below others even =
      ap (pleas port queue) (sym (full_entries p below))
      ∙ (grown_even port queue (all p) (filled p) notes
      (met_grows (IsNotBy port) (all p) (filled p) (c.rest p) refl) even).even
      (theirs_are (IsNotBy port) p below others)

  pub nobody_asks : (port queue : ℕ) →
      ((k : ℕ) → count k ≡ true → OursAre (IsNotBy port) (all k)) → pleas port queue whole ≡ []
  nobody_asks port queue own = no_pleas port queue whole (each_is (IsNotBy port) own)
