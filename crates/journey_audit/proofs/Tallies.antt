-- Tallies that grow arrival by arrival.
use Rattle.std.proofs.Common.{◌≡◌, ℕ, List, [], ◌∷◌, ◌++◌, Option, None, Bool, true, false}
use Rattle.std.proofs.Common.{cond, refl, sym, ap, ◌∙◌, subst, append_assoc, append-nil}
use Rattle.std.specs.Prelude.{flat_map}
use Rattle.std.specs.BTreeMap.{get, is_at}
use Rattle.std.specs.Ordering.{nat_cmp}
use Rattle.std.proofs.lemmas.Bool.{eq-eqb}
use Rattle.std.proofs.lemmas.List.Elements.{filter-append}
use Rattle.std.proofs.lemmas.Grind.{flat_map-append}
use Rattle.histories.specs.Journeys.{Arrival}
use Rattle.histories.specs.NumberKeys.{not_of, each_number}
use Rattle.journey_audit.specs.declared.tally.Tally.{Tally}
use Rattle.journey_audit.specs.Unmet.{of_number, has_number}
use Rattle.journey_audit.specs.Tallying.{TallyMap, IsTallied, NotesCame, NotesAsked, Grows}
use Rattle.journey_audit.specs.Tallying.{came_in, asked_in}

-- ---- the arrivals of one number, with one more

one_of : (n : ℕ) (a : Arrival) (b : Bool) → has_number n a ≡ b →
    of_number n (a ∷ []) ≡ cond b (a ∷ []) []
one_of n a b is = ap (λ c. cond c (a ∷ []) []) is

own_more : (a : Arrival) (xs : List Arrival) →
    of_number a.card.number (xs ++ a ∷ []) ≡ of_number a.card.number xs ++ a ∷ []
own_more a xs =
    filter-append (has_number a.card.number) xs (a ∷ [])
    ∙ ap (λ ys. of_number a.card.number xs ++ ys)
    (one_of a.card.number a true (eq-eqb a.card.number a.card.number refl))

others_same : (n : ℕ) (a : Arrival) (xs : List Arrival) →
    is_at (nat_cmp a.card.number) n ≡ false → of_number n (xs ++ a ∷ []) ≡ of_number n xs
others_same n a xs other =
    filter-append (has_number n) xs (a ∷ [])
    ∙ ap (λ ys. of_number n xs ++ ys) (one_of n a false (not_of a.card.number n other))
    ∙ append-nil (of_number n xs)

-- ---- tallies

-- what is kept of each number is a list of its arrivals, after one more
module _ (kept : Option Tally → List Arrival) (old new : TallyMap) (a : Arrival)
    (xs : List Arrival) (was : (n : ℕ) → kept (get nat_cmp old n) ≡ of_number n xs)
    (others : (n : ℕ) → is_at (nat_cmp a.card.number) n ≡ false →
    get nat_cmp new n ≡ get nat_cmp old n) where
  with_one_more : kept (get nat_cmp new a.card.number)
      ≡ kept (get nat_cmp old a.card.number) ++ a ∷ [] →
      (n : ℕ) → kept (get nat_cmp new n) ≡ of_number n (xs ++ a ∷ [])
  with_one_more own =
      each_number (λ n. kept (get nat_cmp new n) ≡ of_number n (xs ++ a ∷ [])) a.card.number
      (own ∙ ap (λ ys. ys ++ a ∷ []) (was a.card.number) ∙ sym (own_more a xs))
      (λ n other. ap kept (others n other) ∙ was n ∙ sym (others_same n a xs other))

  with_none : kept (get nat_cmp new a.card.number) ≡ kept (get nat_cmp old a.card.number) →
      (n : ℕ) → kept (get nat_cmp new n) ≡ of_number n xs
  with_none own =
      each_number (λ n. kept (get nat_cmp new n) ≡ of_number n xs) a.card.number
      (own ∙ was a.card.number) (λ n other. ap kept (others n other) ∙ was n)

none_more : (xs : List Arrival) → xs ≡ xs ++ []
none_more xs = sym (append-nil xs)

pub grows_came : (old new : TallyMap) (a : Arrival) → NotesCame old new a →
    Grows old new (a ∷ []) []
grows_came old new a notes cs ds is = record {
  came = with_one_more came_in old new a cs is.came notes.others notes.came;
  asked = λ n. with_none asked_in old new a ds is.asked notes.others notes.asked n
      ∙ ap (of_number n) (none_more ds);
}

pub grows_asked : (old new : TallyMap) (a : Arrival) → NotesAsked old new a →
    Grows old new [] (a ∷ [])
grows_asked old new a notes cs ds is = record {
  came = λ n. with_none came_in old new a cs is.came notes.others notes.came n
      ∙ ap (of_number n) (none_more cs);
  asked = with_one_more asked_in old new a ds is.asked notes.others notes.asked;
}

-- nothing more
pub grows_by_none : (tallies : TallyMap) → Grows tallies tallies [] []
grows_by_none tallies cs ds is = record {
  came = λ n. is.came n ∙ ap (of_number n) (none_more cs);
  asked = λ n. is.asked n ∙ ap (of_number n) (none_more ds);
}

-- and more again
pub grows_on : (first second third : TallyMap) (came asked more also : List Arrival) →
    Grows first second came asked → Grows second third more also →
    Grows first third (came ++ more) (asked ++ also)
grows_on first second third came asked more also one two cs ds is = record {
  came = λ n. after.came n ∙ ap (of_number n) (append_assoc cs came more);
  asked = λ n. after.asked n ∙ ap (of_number n) (append_assoc ds asked also);
}
  where
    after : IsTallied third ((cs ++ came) ++ more) ((ds ++ asked) ++ also)
    after = two (cs ++ came) (ds ++ asked) (one cs ds is)

-- the same lists, said otherwise
pub grows_as : (old new : TallyMap) (came asked more also : List Arrival) → came ≡ more →
    asked ≡ also → Grows old new came asked → Grows old new more also
grows_as old new came asked more also c d grows =
    subst (λ xs. Grows old new xs also) c (subst (λ ys. Grows old new came ys) d grows)

-- nothing is kept yet
pub nothing_tallied : (tallies : TallyMap) → ((n : ℕ) → get nat_cmp tallies n ≡ None) →
    IsTallied tallies [] []
nothing_tallied tallies none = record {
  came = λ n. ap came_in (none n);
  asked = λ n. ap asked_in (none n);
}

-- ---- what a list of things asks for, one after the other

-- so much was asked for, and these are still to ask
pub record IsAsking {X : Type 0} (asks : X → List Arrival) (all rest : List X)
    (old now : TallyMap) : Type 0 where
  pub done : List X
  pub split : all ≡ done ++ rest
  pub grown : Grows old now [] (flat_map asks done)

pub asking_begun : {X : Type 0} (asks : X → List Arrival) (all rest : List X)
    (tallies : TallyMap) → rest ≡ all → IsAsking asks all rest tallies tallies
asking_begun asks all rest tallies same = record {
  done = [];
  split = sym same;
  grown = grows_by_none tallies;
}

pub asking_on : {X : Type 0} (asks : X → List Arrival) (all rest xs others : List X)
    (old now next : TallyMap) → rest ≡ xs ++ others → Grows now next [] (flat_map asks xs) →
    IsAsking asks all rest old now → IsAsking asks all others old next
asking_on asks all rest xs others old now next front grows so_far = record {
  done = so_far.done ++ xs;
  split = so_far.split ∙ ap (λ ys. so_far.done ++ ys) front
      ∙ sym (append_assoc so_far.done xs others);
  grown = grows_as old next [] (flat_map asks so_far.done ++ flat_map asks xs) []
      (flat_map asks (so_far.done ++ xs)) refl (sym (flat_map-append asks so_far.done xs))
      (grows_on old now next [] (flat_map asks so_far.done) [] (flat_map asks xs) so_far.grown
      grows);
}

pub asking_one : {X : Type 0} (asks : X → List Arrival) (all rest : List X) (x : X)
    (others : List X) (old now next : TallyMap) → rest ≡ x ∷ others →
    Grows now next [] (asks x) → IsAsking asks all rest old now →
    IsAsking asks all others old next
asking_one asks all rest x others old now next front grows so_far =
    asking_on asks all rest (x ∷ []) others old now next front
    (grows_as now next [] (asks x) [] (flat_map asks (x ∷ [])) refl (sym (append-nil (asks x)))
    grows) so_far

pub asking_done : {X : Type 0} (asks : X → List Arrival) (all rest : List X)
    (old now : TallyMap) → rest ≡ [] → IsAsking asks all rest old now →
    Grows old now [] (flat_map asks all)
asking_done asks all rest old now none so_far =
    grows_as old now [] (flat_map asks so_far.done) [] (flat_map asks all) refl
    (ap (flat_map asks) (sym (so_far.split ∙ ap (λ ys. so_far.done ++ ys) none
    ∙ append-nil so_far.done))) so_far.grown
