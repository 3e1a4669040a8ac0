-- Where an entry of a queue's history is in one order of all events: after what is before it there.
use Rattle.std.proofs.Common.{◌≡◌, ℕ, ◌<◌, Bool, true, false, List, [], ◌∷◌, ◌++◌, refl, sym, ap}
use Rattle.std.proofs.Common.{subst, ◌∙◌, ◌==◌, ◌⊎◌, inl, inr, arith, if◌then◌else◌, length}
use Rattle.std.proofs.Common.{append-nil, append_assoc, length-append}
use Rattle.std.proofs.lemmas.List.{map-append}
use Rattle.std.proofs.lemmas.List.Elements.{filter-append}
use mathlib.Core.List.{IsPrefix}
use Rattle.histories.specs.declared.entry.Entry.{Entry}
use Rattle.histories.specs.declared.log.PortLog.{PortLog}
use Rattle.histories.specs.History.{history, is_of}
use Rattle.total_order.specs.Orders.{EachIs, Pairs, AreCaused}
use Rattle.total_order.specs.Steps.{Step}
use Rattle.total_order.specs.TotalOrder.{entries, IsCaused}
use Rattle.total_order.proofs.Lists.{each_back}

-- An entry of a queue, with the steps before its own and those after it. Of its queue these entries
-- are before it.
pub record IsAt (logs : List PortLog) (steps : List Step) (queue : ℕ) (xs : List Entry)
    (e : Entry) : Type 0 where
  pub front : List Step
  pub step : Step
  pub back : List Step
  pub whole : steps ≡ front ++ step ∷ back
  pub is : step.entry ≡ e
  pub before : history queue (entries front) ≡ xs
  pub caused : IsCaused logs front step

module _ (logs : List PortLog) (queue : ℕ) (e : Entry) (ys : List Entry) where
  pub position_from : (before steps : List Step) (xs zs : List Entry) →
      AreCaused (IsCaused logs) before steps → history queue (entries before) ≡ zs →
      history queue (entries steps) ≡ xs ++ e ∷ ys →
      IsAt logs (before ++ steps) queue (zs ++ xs) e
  position_from before [] [] zs caused is h = absurd (cc h)
  position_from before [] (x ∷ xs) zs caused is h = absurd (cc h)
  position_from before (s ∷ steps) xs zs caused is h =
      by (s.entry.queue == queue) refl
      (λ us ws new at. subst (λ l. IsAt logs l queue (us ++ ws) e)
      (append_assoc before (s ∷ []) steps)
      (position_from (before ++ s ∷ []) steps ws us caused.1 new at))
      xs h
    where
      one : (b : Bool) → (s.entry.queue == queue) ≡ b →
          history queue (entries (before ++ s ∷ []))
          ≡ zs ++ (if b then s.entry ∷ [] else [])
      one b e = ap (λ l. history queue l) (map-append (λ (t : Step). t.entry) before (s ∷ []))
          ∙ filter-append (is_of queue) (entries before) (s.entry ∷ [])
          ∙ ap (λ l. l ++ (if s.entry.queue == queue then s.entry ∷ [] else [])) is
          ∙ ap (λ c. zs ++ (if c then s.entry ∷ [] else [])) e

      by : (b : Bool) → (s.entry.queue == queue) ≡ b →
          ((us ws : List Entry) → history queue (entries (before ++ s ∷ [])) ≡ us →
          history queue (entries steps) ≡ ws ++ e ∷ ys →
          IsAt logs (before ++ s ∷ steps) queue (us ++ ws) e) → (vs : List Entry) →
          (if b then s.entry ∷ history queue (entries steps) else history queue (entries steps))
          ≡ vs ++ e ∷ ys → IsAt logs (before ++ s ∷ steps) queue (zs ++ vs) e
      by false t rest vs h = rest zs vs (one false t ∙ append-nil zs) h
      by true t rest [] h = record {
        front = before;
        step = s;
        back = steps;
        whole = refl;
        is = cc h;
        before = is ∙ sym (append-nil zs);
        caused = caused.0;
      }
      by true t rest (a ∷ vs) h =
          subst (λ l. IsAt logs (before ++ s ∷ steps) queue l e)
          (append_assoc zs (a ∷ []) vs)
          (rest (zs ++ a ∷ []) vs (one true t ∙ ap (λ x. zs ++ x ∷ []) (cc h)) (cc h))

  pub position_of : (steps : List Step) (xs : List Entry) → AreCaused (IsCaused logs) [] steps →
      history queue (entries steps) ≡ xs ++ e ∷ ys → IsAt logs steps queue xs e
  position_of steps xs caused h = position_from [] steps xs [] caused refl h

-- ---- beginnings of one list

-- of two, the one begins the other
pub fronts : {A : Type 0} (xs ys us vs : List A) → xs ++ us ≡ ys ++ vs →
    IsPrefix xs ys ⊎ IsPrefix ys xs
fronts [] ys us vs e = inl (ys, refl)
fronts (x ∷ xs) [] us vs e = inr (x ∷ xs, refl)
fronts (x ∷ xs) (y ∷ ys) us vs e =
    let same : x ≡ y = cc e in longer same (fronts xs ys us vs (cc e))
  where
    longer : x ≡ y → IsPrefix xs ys ⊎ IsPrefix ys xs →
        IsPrefix (x ∷ xs) (y ∷ ys) ⊎ IsPrefix (y ∷ ys) (x ∷ xs)
    longer same (inl p) = inl (p.0, cc (same, p.1))
    longer same (inr p) = inr (p.0, cc (same, p.1))

pub history_prefix : (queue : ℕ) (xs ys : List Step) → IsPrefix xs ys →
    IsPrefix (history queue (entries xs)) (history queue (entries ys))
history_prefix queue xs ys p = (
  history queue (entries p.0),
  sym (filter-append (is_of queue) (entries xs) (entries p.0))
      ∙ ap (λ l. history queue l) (sym (map-append (λ (s : Step). s.entry) xs p.0))
      ∙ ap (λ l. history queue (entries l)) p.1,
)

-- of two elements, the one before the other
pub in_order : {A : Type 0} (R : A → A → Type 0) (all f b g c : List A) (x y : A) → Pairs R all →
    all ≡ f ++ x ∷ b → all ≡ g ++ y ∷ c → length f < length g → R x y
in_order R [] [] b g c x y h e k l = absurd (cc e)
in_order R [] (w ∷ f) b g c x y h e k l = absurd (cc e)
in_order R (a ∷ all) [] b [] c x y h e k l = absurd (omega (arith, l))
in_order R (a ∷ all) [] b (z ∷ g) c x y h e k l =
    let at : a ≡ x = cc e in
    subst (λ v. R v y) at (each_back (R a) g (y ∷ c)
    (subst (λ ls. EachIs (R a) ls) (cc k) h.0)).0
in_order R (a ∷ all) (w ∷ f) b [] c x y h e k l = absurd (omega (arith, l))
in_order R (a ∷ all) (w ∷ f) b (z ∷ g) c x y h e k l =
    in_order R all f b g c x y h.1 (cc e) (cc k) (omega (arith, l))

pub same_position : {A : Type 0} (f b g c : List A) (x y : A) → f ++ x ∷ b ≡ g ++ y ∷ c →
    length f ≡ length g → x ≡ y
same_position [] b [] c x y e l = cc e
same_position [] b (z ∷ g) c x y e l = absurd (omega (arith, l))
same_position (w ∷ f) b [] c x y e l = absurd (omega (arith, l))
same_position (w ∷ f) b (z ∷ g) c x y e l = same_position f b g c x y (cc e) (omega (arith, l))

-- where a queue has nothing yet comes before where it has something
pub sooner : (queue : ℕ) (e : Entry) (f b g c : List Step) (x y : Step) →
    f ++ x ∷ b ≡ g ++ y ∷ c → history queue (entries f) ≡ [] →
    history queue (entries g) ≡ e ∷ [] → length f < length g
sooner queue e f b g c x y w none some = by (fronts f g (x ∷ b) (y ∷ c) w)
  where
    by : IsPrefix f g ⊎ IsPrefix g f → length f < length g
    by (inl (r, p)) = rest r p
      where
        rest : (r : List Step) → f ++ r ≡ g → length f < length g
        rest [] p = absurd (cc (
          none,
          some,
          ap (λ l. history queue (entries l)) (sym (append-nil f) ∙ p),
        ))
        rest (z ∷ r) p = let l = ap length p in omega (arith, l, length-append f (z ∷ r))
    by (inr p) =
        let q = history_prefix queue g f p in
        absurd (cc (sym (ap (λ l. l ++ q.0) some) ∙ q.1 ∙ none))
