-- For proofs alone: what a map keeps by number is gone over, one number after the other, up to the
-- first at which something doesn't hold.
use Rattle.std.proofs.Common.{◌≡◌, ◌<◌, ℕ, List, [], ◌∷◌, ◌++◌, Option, Some, None, Bool, true}
use Rattle.std.proofs.Common.{false, cond, refl, sym, ap, ◌∙◌, subst, inl, inr, append_assoc}
use Rattle.std.proofs.Common.{true≢false}
use Rattle.std.specs.Prelude.{⊤}
use Rattle.std.specs.BTreeMap.{is_at}
use Rattle.std.specs.Map.{lookup, keys_of}
use Rattle.std.specs.Ordering.{nat_cmp, is_eq}
use Rattle.std.specs.Cmp.{nat_cmp_total, nat_cmp_is}
use Rattle.std.specs.List.{AllByRecursion}
use Rattle.std.specs.List.Sorted.{IsStrictlySortedBy}
use Rattle.std.specs.declared.cmp.Ordering.TheVariants.{Less}
use Rattle.std.proofs.lemmas.Bool.{cases_Bool}
use Rattle.std.proofs.lemmas.Map.{lookup-none}
use Rattle.std.proofs.lemmas.Map.Entries.{none_below_head}
use Rattle.std.proofs.lemmas.Map.Keys.{sorted_head, sorted_tail}
use Rattle.histories.specs.NumberKeys.{at_own, at_itself}

abbrev pub AreOrdered : {W : Type 0} → List (ℕ × W) → Type 0
AreOrdered {W} es = IsStrictlySortedBy nat_cmp (keys_of es)

-- what is found under a number
abbrev pub found_at : {W : Type 0} → ℕ → List (ℕ × W) → Option W
found_at {W} n es = lookup (is_at (nat_cmp n)) es

-- of each of these it holds, under its number
abbrev pub AllHold : {W : Type 0} → (ℕ → Option W → Type 0) → List (ℕ × W) → Type 0
AllHold {W} P [] = ⊤
AllHold {W} P (e ∷ es) = P e.0 (Some e.1) × AllHold P es

-- it holds of those before the rest
pub record IsWalked {W : Type 0} (P : ℕ → Option W → Type 0) (all rest : List (ℕ × W)) : Type 0
  where
    pub ordered : AreOrdered all
    pub done : List (ℕ × W)
    pub split : all ≡ done ++ rest
    pub hold : AllHold P done

module _ {W : Type 0} (P : ℕ → Option W → Type 0) where
  pub walk_begun : (all rest : List (ℕ × W)) → rest ≡ all → AreOrdered all → IsWalked P all rest
  walk_begun all rest same ordered = record {
    ordered = ordered;
    done = [];
    split = sym same;
    hold = tt;
  }

  one_more : (es : List (ℕ × W)) (e : ℕ × W) → AllHold P es → P e.0 (Some e.1) →
      AllHold P (es ++ e ∷ [])
  one_more [] e hold one = (one, tt)
  one_more (d ∷ es) e hold one = (hold.0, one_more es e hold.1 one)

  pub walk_on : (all rest others : List (ℕ × W)) (e : ℕ × W) → rest ≡ e ∷ others →
      P e.0 (Some e.1) → IsWalked P all rest → IsWalked P all others
  walk_on all rest others e front one walked = record {
    ordered = walked.ordered;
    done = walked.done ++ e ∷ [];
    split = walked.split ∙ ap (λ es. walked.done ++ es) front
        ∙ sym (append_assoc walked.done (e ∷ []) others);
    hold = one_more walked.done e walked.hold one;
  }

  -- a look-up finds this one, or one of the others
  either : (n k : ℕ) (b : Bool) (w : W) (o : Option W) → is_at (nat_cmp n) k ≡ b →
      P k (Some w) → P n o → P n (cond b (Some w) o)
  either n k true w o same here there = subst (λ m. P m (Some w)) (sym (at_own n k same)) here
  either n k false w o other here there = there

  found_or : (n : ℕ) (done rest : List (ℕ × W)) → AllHold P done → P n (found_at n rest) →
      P n (found_at n (done ++ rest))
  found_or n [] rest hold there = there
  found_or n (d ∷ done) rest hold there =
      either n d.0 (is_at (nat_cmp n) d.0) d.1 (found_at n (done ++ rest)) refl hold.0
      (found_or n done rest hold.1 there)

  -- at the end
  pub walk_done : (all rest : List (ℕ × W)) → rest ≡ [] → ((n : ℕ) → P n None) →
      IsWalked P all rest → (n : ℕ) → P n (found_at n all)
  walk_done all rest over none walked n =
      subst (λ es. P n (found_at n es))
      (sym (walked.split ∙ ap (λ es. walked.done ++ es) over))
      (found_or n walked.done [] walked.hold (none n))

-- ---- the next one

-- what holds of all keys holds of this one
at_this : {W : Type 0} (Q : ℕ → Type 0) (done others : List (ℕ × W)) (e : ℕ × W) →
    AllByRecursion Q (keys_of (done ++ e ∷ others)) → Q e.0
at_this Q [] others e all = all.0
at_this Q (d ∷ done) others e all = at_this Q done others e all.1

not_at : (n m : ℕ) → nat_cmp m n ≡ Less → is_at (nat_cmp n) m ≡ false
not_at n m less = elim (cases_Bool (is_at (nat_cmp n) m)) [
  | inl same ↦ absurd (true≢false (sym (at_itself m)
      ∙ ap is_eq (subst (λ k. nat_cmp m k ≡ Less) (at_own n m same) less)))
  | inr other ↦ other
]

found_here : {W : Type 0} (done others : List (ℕ × W)) (e : ℕ × W) →
    AreOrdered (done ++ e ∷ others) → found_at e.0 (done ++ e ∷ others) ≡ Some e.1
found_here [] others e ordered =
    ap (λ b. cond b (Some e.1) (found_at e.0 others)) (at_itself e.0)
found_here (d ∷ done) others e ordered =
    ap (λ b. cond b (Some d.1) (found_at e.0 (done ++ e ∷ others)))
    (not_at e.0 d.0 (at_this (λ k. nat_cmp d.0 k ≡ Less) done others e
    (sorted_head nat_cmp d.0 (keys_of (done ++ e ∷ others)) ordered)))
    ∙ found_here done others e
    (sorted_tail nat_cmp d.0 (keys_of (done ++ e ∷ others)) ordered)

rest_ordered : {W : Type 0} (done rest : List (ℕ × W)) → AreOrdered (done ++ rest) →
    AreOrdered rest
rest_ordered [] rest ordered = ordered
rest_ordered (d ∷ done) rest ordered =
    rest_ordered done rest (sorted_tail nat_cmp d.0 (keys_of (done ++ rest)) ordered)

module _ {W : Type 0} (P : ℕ → Option W → Type 0) (all rest others : List (ℕ × W)) (e : ℕ × W)
    (front : rest ≡ e ∷ others) (walked : IsWalked P all rest) where
  there : all ≡ walked.done ++ e ∷ others
  there = walked.split ∙ ap (λ es. walked.done ++ es) front

  ordered : AreOrdered (walked.done ++ e ∷ others)
  ordered = subst AreOrdered there walked.ordered

  -- under its number it is found
  pub next_found : found_at e.0 all ≡ Some e.1
  next_found = ap (found_at e.0) there ∙ found_here walked.done others e ordered

  -- under each lesser number it holds
  pub holds_below : ((n : ℕ) → P n None) → (n : ℕ) → n < e.0 → P n (found_at n all)
  holds_below none n less =
      subst (λ es. P n (found_at n es)) (sym there)
      (found_or P n walked.done (e ∷ others) walked.hold
      (subst (P n) (sym (lookup-none (is_at (nat_cmp n)) (e ∷ others)
      (none_below_head nat_cmp_total n e others (rest_ordered walked.done (e ∷ others) ordered)
      (sym (nat_cmp_is n e.0 Less less))))) (none n)))
