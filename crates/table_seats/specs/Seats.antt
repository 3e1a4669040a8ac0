-- What holds of the view of each seat, as one changes, a new one comes, or one takes another in.
use Rattle.std.proofs.Common.{◌≡◌, ℕ, zero, suc, ◌≢◌, ◌⊎◌, inl, inr, ⊎_elim}
use Rattle.std.proofs.Common.{List, [], ◌∷◌, ◌++◌, length, set, refl, sym, ap, subst}
use mathlib.Core.Option.{some, some-injective, some-ne-none}
use lib.ListN.{get_elem?}
use Rattle.atomic_table.proofs.Lists.{at_set}

module _ {V : Type 0} where
  -- it holds of each seat, by its number and its view
  abbrev pub Each : (ℕ → V → Type 0) → List V → Type 0
  Each F views = (id : ℕ) (v : V) → get_elem? views id ≡ some v → F id v

  -- who stands where somebody stood and changed
  pub set_there : (l : List V) (i : ℕ) (a b : V) → get_elem? l i ≡ some a
      → get_elem? (set l i b) i ≡ some b
  set_there [] i a b e = absurd (some-ne-none a (sym e))
  set_there (x ∷ xs) zero a b e = refl
  set_there (x ∷ xs) (suc i) a b e = set_there xs i a b e

  -- who stood there before another changed
  pub was_there : (vs : List V) (me o : ℕ) (b w : V) → o ≢ me
      → get_elem? (set vs me b) o ≡ some w → get_elem? vs o ≡ some w
  was_there vs me o b w ne at = ⊎_elim (λ (t : (o ≡ me) × (b ≡ w)). absurd (ne t.0))
      (λ (t : (o ≢ me) × (get_elem? vs o ≡ some w)). t.1) (at_set vs me o b w at)

  -- who stands at a number once a new one came
  at_new : (l : List V) (a b : V) (j : ℕ) → get_elem? (l ++ a ∷ []) j ≡ some b
      → (get_elem? l j ≡ some b) ⊎ ((j ≡ length l) × (a ≡ b))
  at_new [] a b zero e = inr (refl, some-injective a b e)
  at_new [] a b (suc j) e = absurd (some-ne-none b (sym e))
  at_new (x ∷ xs) a b zero e = inl e
  at_new (x ∷ xs) a b (suc j) e = ⊎_elim (λ (h : get_elem? xs j ≡ some b). inl h)
      (λ (h : (j ≡ length xs) × (a ≡ b)). inr (ap suc h.0, h.1)) (at_new xs a b j e)

  -- one seat changes
  pub each_set : (F : ℕ → V → Type 0) (vs : List V) (me : ℕ) (w : V) → F me w
      → ((i : ℕ) (v : V) → i ≢ me → get_elem? vs i ≡ some v → F i v) → Each F (set vs me w)
  each_set F vs me w mine others i v at =
      ⊎_elim
      (λ (t : (i ≡ me) × (w ≡ v)). subst (λ (y : ℕ × V). F y.0 y.1) (λ k. (sym t.0 k, t.1 k)) mine)
      (λ (t : (i ≢ me) × (get_elem? vs i ≡ some v)). others i v t.0 t.1)
      (at_set vs me i w v at)

  -- a new seat comes
  each_new : (F : ℕ → V → Type 0) (vs : List V) (w : V) → Each F vs → F (length vs) w
      → Each F (vs ++ w ∷ [])
  each_new F vs w each mine i v at =
      ⊎_elim (λ (h : get_elem? vs i ≡ some v). each i v h)
      (λ (h : (i ≡ length vs) × (w ≡ v)).
      subst (λ (y : ℕ × V). F y.0 y.1) (λ k. (sym h.0 k, h.1 k)) mine)
      (at_new vs w v i at)

  -- the first seat
  pub each_first : (F : ℕ → V → Type 0) (v : V) → F 0 v → Each F (v ∷ [])
  each_first F v mine = each_new F [] v (λ i u at. absurd (some-ne-none u (sym at))) mine

  -- one seat is split in two
  pub each_split : (F : ℕ → V → Type 0) (vs : List V) (me : ℕ) (l r : V) → F me l
      → F (length (set vs me l)) r
      → ((i : ℕ) (v : V) → i ≢ me → get_elem? vs i ≡ some v → F i v)
      → Each F (set vs me l ++ r ∷ [])
  each_split F vs me l r left right others =
      each_new F (set vs me l) r (each_set F vs me l left others) right

  -- one seat takes another in
  pub each_joined : (F : ℕ → V → Type 0) (vs : List V) (me o : ℕ) (b e : V) → F me b → F o e
      → ((i : ℕ) (v : V) → i ≢ me → i ≢ o → get_elem? vs i ≡ some v → F i v)
      → Each F (set (set vs me b) o e)
  each_joined F vs me o b e mine spent others =
      each_set F (set vs me b) o e spent
      (λ i u ne at. ⊎_elim
      (λ (t : (i ≡ me) × (b ≡ u)). subst (λ (y : ℕ × V). F y.0 y.1) (λ k. (sym t.0 k, t.1 k)) mine)
      (λ (t : (i ≢ me) × (get_elem? vs i ≡ some u)). others i u t.0 ne t.1)
      (at_set vs me i b u at))
