-- What holds of each pass, of each two and of some pass, when one of them changes, a new one comes,
-- or one is joined into another.
use Rattle.std.proofs.Common.{◌≡◌, ℕ, zero, suc, ◌<◌, ◌≢◌, ◌⊎◌, inl, inr, ⊎_elim, List, [], ◌∷◌}
use Rattle.std.proofs.Common.{◌++◌, length, set, refl, sym, ap, ◌∙◌, subst, arith}
use mathlib.Core.Option.{some, some-injective, some-ne-none}
use mathlib.Core.Logic.{dite}
use native.Mathlib.Decide.{ℕ_discrete}
use lib.ListN.{get_elem?}
use Rattle.atomic_table.proofs.Lists.{at_set, set_else, at_longer}
use Rattle.turn_lock.specs.declared.view.View.{View}
use Rattle.turn_lock.specs.Rule.{IsUnspent, Somewhere, Everywhere, Pairwise}

module _ {A : Type 0} where
  pub set_there : (l : List A) (i : ℕ) (a b : A) → get_elem? l i ≡ some a → get_elem? (set l i b)
      i ≡ some b
  set_there [] i a b e = absurd (some-ne-none a (sym e))
  set_there (x ∷ xs) zero a b e = refl
  set_there (x ∷ xs) (suc i) a b e = set_there xs i a b e

  pub one_there : (l : List A) (i : ℕ) (a b : A) → get_elem? l i ≡ some a → get_elem? l i ≡ some b
      → a ≡ b
  one_there l i a b e f = some-injective a b (sym e ∙ f)

  below : (l : List A) (i : ℕ) (a : A) → get_elem? l i ≡ some a → i < length l
  below [] i a e = absurd (some-ne-none a (sym e))
  below (x ∷ xs) zero a e = omega arith
  below (x ∷ xs) (suc i) a e = let h = below xs i a e in omega arith

  at_new : (l : List A) (a b : A) (j : ℕ) → get_elem? (l ++ a ∷ []) j ≡ some b
      → (get_elem? l j ≡ some b) ⊎ ((j ≡ length l) × (a ≡ b))
  at_new [] a b zero e = inr (refl, some-injective a b e)
  at_new [] a b (suc j) e = absurd (some-ne-none b (sym e))
  at_new (x ∷ xs) a b zero e = inl e
  at_new (x ∷ xs) a b (suc j) e = ⊎_elim (λ (h : get_elem? xs j ≡ some b). inl h)
      (λ (h : (j ≡ length xs) × (a ≡ b)). inr (ap suc h.0, h.1)) (at_new xs a b j e)

module _ {E S : Type 0} where
  -- ---- one pass changes
  pub each_set : (P : View E S → Type 0) (vs : List (View E S)) (me : ℕ) (w : View E S)
      → (IsUnspent w → P w) → ((i : ℕ) (v : View E S) → i ≢ me → get_elem? vs i ≡ some v
      → IsUnspent v → P v)
      → Everywhere P (set vs me w)
  each_set P vs me w mine others i v at live =
      ⊎_elim (λ (t : (i ≡ me) × (w ≡ v)). subst (λ (u : View E S). IsUnspent u → P u) t.1 mine live)
      (λ (t : (i ≢ me) × (get_elem? vs i ≡ some v)). others i v t.0 t.1 live)
      (at_set vs me i w v at)

  pub two_set : (D : View E S → View E S → Type 0) → ((v w : View E S) → D v w → D w v)
      → (vs : List (View E S)) (me : ℕ) (w : View E S) → Pairwise D vs
      → (IsUnspent w → (i : ℕ) (v : View E S) → i ≢ me → get_elem? vs i ≡ some v → IsUnspent v
      → D w v) → Pairwise D (set vs me w)
  two_set D sym_D vs me w two mine i j v u ne at_i at_j live_v live_u =
      ⊎_elim
      (λ (t : (i ≡ me) × (w ≡ v)). ⊎_elim
      (λ (r : (j ≡ me) × (w ≡ u)). absurd (ne (t.0 ∙ sym r.0)))
      (λ (r : (j ≢ me) × (get_elem? vs j ≡ some u)). subst (λ (x : View E S). IsUnspent x → D x u)
      t.1 (λ l. mine l j u r.0 r.1 live_u) live_v)
      (at_set vs me j w u at_j))
      (λ (t : (i ≢ me) × (get_elem? vs i ≡ some v)). ⊎_elim
      (λ (r : (j ≡ me) × (w ≡ u)). subst (λ (x : View E S). IsUnspent x → D v x) r.1
      (λ l. sym_D w v (mine l i v t.0 t.1 live_v)) live_u)
      (λ (r : (j ≢ me) × (get_elem? vs j ≡ some u)). two i j v u ne t.1 r.1 live_v live_u)
      (at_set vs me j w u at_j))
      (at_set vs me i w v at_i)

  pub some_set : (P : View E S → Type 0) (vs : List (View E S)) (me : ℕ) (v w : View E S)
      → get_elem? vs me ≡ some v → (IsUnspent v → IsUnspent w) → (P v → P w) → Somewhere P vs
      → Somewhere P (set vs me w)
  some_set P vs me v w at live keeps (i, u, at_i, live_u, p) =
      dite (ℕ_discrete i me)
      (λ e. let same : u ≡ v = one_there vs me u v
      (subst (λ (k : ℕ). get_elem? vs k ≡ some u) e at_i) at in
      (me, w, set_there vs me v w at, live (subst IsUnspent same live_u), keeps (subst P same p)))
      (λ ne. (i, u, set_else vs me i w ne ∙ at_i, live_u, p))

  -- ---- a new pass comes
  pub each_new : (P : View E S → Type 0) (vs : List (View E S)) (w : View E S) → Everywhere P vs
      → P w → Everywhere P (vs ++ w ∷ [])
  each_new P vs w each mine i v at live =
      ⊎_elim (λ (h : get_elem? vs i ≡ some v). each i v h live)
      (λ (h : (i ≡ length vs) × (w ≡ v)). subst P h.1 mine) (at_new vs w v i at)

  pub two_new : (D : View E S → View E S → Type 0) → ((v w : View E S) → D v w → D w v)
      → (vs : List (View E S)) (w : View E S) → Pairwise D vs
      → ((i : ℕ) (v : View E S) → get_elem? vs i ≡ some v → IsUnspent v → D w v) → Pairwise D
      (vs ++ w ∷ [])
  two_new D sym_D vs w two mine i j v u ne at_i at_j live_v live_u =
      ⊎_elim
      (λ (h : get_elem? vs i ≡ some v). ⊎_elim
      (λ (k : get_elem? vs j ≡ some u). two i j v u ne h k live_v live_u)
      (λ (k : (j ≡ length vs) × (w ≡ u)). subst (λ (x : View E S). D v x) k.1
      (sym_D w v (mine i v h live_v)))
      (at_new vs w u j at_j))
      (λ (h : (i ≡ length vs) × (w ≡ v)). ⊎_elim
      (λ (k : get_elem? vs j ≡ some u). subst (λ (x : View E S). D x u) h.1 (mine j u k live_u))
      (λ (k : (j ≡ length vs) × (w ≡ u)). absurd (ne (h.0 ∙ sym k.0)))
      (at_new vs w u j at_j))
      (at_new vs w v i at_i)

  pub some_new : (P : View E S → Type 0) (vs : List (View E S)) (w : View E S) → Somewhere P vs
      → Somewhere P (vs ++ w ∷ [])
  some_new P vs w (i, v, at, live, p) = (i, v, at_longer vs (w ∷ []) i v at, live, p)

  -- ---- one pass is joined into another, and is spent
  -- who stands at a place after the join: the one that took the other in, or another than these two
  at_joined : (vs : List (View E S)) (me o : ℕ) (b e : View E S) (i : ℕ) (x : View E S)
      → ¬ IsUnspent e → get_elem? (set (set vs me b) o e) i ≡ some x → IsUnspent x
      → ((i ≡ me) × (b ≡ x)) ⊎ ((i ≢ me) × (i ≢ o) × (get_elem? vs i ≡ some x))
  at_joined vs me o b e i x spent at live =
      ⊎_elim (λ (t : (i ≡ o) × (e ≡ x)). absurd (spent (subst IsUnspent (sym t.1) live)))
      (λ (t : (i ≢ o) × (get_elem? (set vs me b) i ≡ some x)).
      ⊎_elim (λ (r : (i ≡ me) × (b ≡ x)). inl r) (λ (r : (i ≢ me) × (get_elem? vs i ≡ some x)). inr
      (r.0, t.0, r.1)) (at_set vs me i b x t.1))
      (at_set (set vs me b) o i e x at)

  pub each_joined : (P : View E S → Type 0) (vs : List (View E S)) (me o : ℕ) (b e : View E S)
      → ¬ IsUnspent e → Everywhere P vs → P b → Everywhere P (set (set vs me b) o e)
  each_joined P vs me o b e spent each mine i v at live =
      ⊎_elim (λ (t : (i ≡ me) × (b ≡ v)). subst P t.1 mine)
      (λ (t : (i ≢ me) × (i ≢ o) × (get_elem? vs i ≡ some v)). each i v t.2 live)
      (at_joined vs me o b e i v spent at live)

  pub two_joined : (D : View E S → View E S → Type 0) → ((v w : View E S) → D v w → D w v)
      → (vs : List (View E S)) (me o : ℕ) (b e : View E S) → ¬ IsUnspent e → Pairwise D vs
      → ((i : ℕ) (v : View E S) → i ≢ me → i ≢ o → get_elem? vs i ≡ some v → IsUnspent v → D b v)
      → Pairwise D (set (set vs me b) o e)
  two_joined D sym_D vs me o b e spent two mine i j v u ne at_i at_j live_v live_u =
      ⊎_elim
      (λ (t : (i ≡ me) × (b ≡ v)). ⊎_elim
      (λ (r : (j ≡ me) × (b ≡ u)). absurd (ne (t.0 ∙ sym r.0)))
      (λ (r : (j ≢ me) × (j ≢ o) × (get_elem? vs j ≡ some u)). subst (λ (x : View E S). D x u) t.1
      (mine j u r.0 r.1 r.2 live_u))
      (at_joined vs me o b e j u spent at_j live_u))
      (λ (t : (i ≢ me) × (i ≢ o) × (get_elem? vs i ≡ some v)). ⊎_elim
      (λ (r : (j ≡ me) × (b ≡ u)). subst (λ (x : View E S). D v x) r.1
      (sym_D b v (mine i v t.0 t.1 t.2 live_v)))
      (λ (r : (j ≢ me) × (j ≢ o) × (get_elem? vs j ≡ some u)). two i j v u ne t.2 r.2 live_v live_u)
      (at_joined vs me o b e j u spent at_j live_u))
      (at_joined vs me o b e i v spent at_i live_v)

  pub some_joined : (P : View E S → Type 0) (vs : List (View E S)) (me o : ℕ) (v w b e : View E S)
      → get_elem? vs me ≡ some v → get_elem? vs o ≡ some w → o ≢ me → IsUnspent b → (P v → P b)
      → (P w → P b)
      → Somewhere P vs → Somewhere P (set (set vs me b) o e)
  some_joined P vs me o v w b e at_me at_o ne live from_v from_w (i, u, at_i, live_u, p) =
      let here : get_elem? (set (set vs me b) o e) me ≡ some b = set_else (set vs me b) o me e
      (λ q. ne (sym q)) ∙ set_there vs me v b at_me in
      dite (ℕ_discrete i me)
      (λ is. let same : u ≡ v = one_there vs me u v
      (subst (λ (k : ℕ). get_elem? vs k ≡ some u) is at_i) at_me in
      (me, b, here, live, from_v (subst P same p)))
      (λ not_me. dite (ℕ_discrete i o)
      (λ is. let same : u ≡ w = one_there vs o u w
      (subst (λ (k : ℕ). get_elem? vs k ≡ some u) is at_i) at_o in
      (me, b, here, live, from_w (subst P same p)))
      (λ not_o. (
        i,
        u,
        set_else (set vs me b) o i e not_o ∙ (set_else vs me i b not_me ∙ at_i),
        live_u,
        p,
      )))
