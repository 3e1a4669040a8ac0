-- The options but for the fan-out are read as the grammar has them, in either order, and what the
-- grammar has is read.
use Rattle.std.proofs.Common.{◌≡◌, ℕ, Bool, true, false, cond, not, ◌&&◌, ◌⊎◌, inl, inr, List, []}
use Rattle.std.proofs.Common.{◌∷◌, ◌++◌, Option, Some, None, ◌∙◌, refl, sym, ap, subst}
use Rattle.std.specs.Prelude.{codes}
use Rattle.std.proofs.lemmas.Option.{cond_some, same_Some}
use Rattle.std.proofs.lemmas.Bool.{and_parts, false≢true, false_from_ne_true}
use Rattle.hook_chain.specs.declared.rule.Pick.{Pick}
use Rattle.hook_chain.specs.RuleLine.{pick_of}
use Rattle.hook_chain.specs.Grammar.{IsPickOption, AreQueueOptions}
use Rattle.hook_chain.proofs.Options.{is_bypass, plain, plain-bypass}
use Rattle.hook_chain.proofs.RuleForm.{bind_some, same_word}

pub chosen : {A : Type 0} (b : Bool) (x y z : A) → cond b x y ≡ z →
    ((b ≡ true) × (x ≡ z)) ⊎ ((b ≡ false) × (y ≡ z))
chosen true x y z e = inl (refl, e)
chosen false x y z e = inr (refl, e)

pub no_value : {A : Type 0} (x : A) → ◌≡◌ {A = Option A} None (Some x) → ⊥
no_value x e = cc

-- after `--queue-bypass` no further one is read
not_again : (w : List ℕ) → (is_bypass w && not true) ≡ true → ⊥
not_again w e = false≢true (and_parts (is_bypass w) (not true) e).1

first_time : (w : List ℕ) → (is_bypass w && not false) ≡ true → w ≡ codes "--queue-bypass"
first_time w e = same_word w (codes "--queue-bypass") (and_parts (is_bypass w) (not false) e).0

after_both : (p : Pick) (words : List (List ℕ)) (x : Pick × Bool) →
    plain (Some p) true words ≡ Some x → (words ≡ []) × (◌≡◌ {A = Pick × Bool} (p, true) x)
unfolding plain
after_both p [] x e = (refl, same_Some _ x e)
after_both p (w ∷ []) x e = absurd (not_again w (cond_some (is_bypass w && not true) _ x e).0)
after_both p (w ∷ v ∷ ws) x e =
    elim (chosen (is_bypass w && not true) _ _ (Some x) e)
    [ inl h ↦ absurd (not_again w h.0) | inr h ↦ absurd (no_value x h.1) ]

after_bypass : (words : List (List ℕ)) (x : Pick × Bool) → plain None true words ≡ Some x →
    IsPickOption words x.0 × (x.1 ≡ true)
unfolding plain
after_bypass [] x e =
    let same =
    same_Some _ x e in (
      ap (λ (y : Pick × Bool). y.0) (sym same),
      ap (λ (y : Pick × Bool). y.1) (sym same),
    )
after_bypass (w ∷ []) x e = absurd (not_again w (cond_some (is_bypass w && not true) _ x e).0)
after_bypass (w ∷ v ∷ ws) x e =
    elim (chosen (is_bypass w && not true) _ _ (Some x) e) [
      | inl h ↦ absurd (not_again w h.0)
      | inr h ↦
          let pick = bind_some (pick_of w v) _ x h.1 in
          let last = after_both pick.0 ws x pick.2 in (
            subst (λ (ws : List (List ℕ)). IsPickOption (w ∷ v ∷ ws) x.0) (sym last.0)
                (pick.1 ∙ ap (λ (y : Pick × Bool). Some y.0) last.1),
            ap (λ (y : Pick × Bool). y.1) (sym last.1),
          )
    ]

after_pick : (p : Pick) (words : List (List ℕ)) (x : Pick × Bool) →
    plain (Some p) false words ≡ Some x →
    (p ≡ x.0) × (((words ≡ []) × (x.1 ≡ false))
    ⊎ ((words ≡ codes "--queue-bypass" ∷ []) × (x.1 ≡ true)))
unfolding plain
after_pick p [] x e =
    let same =
    same_Some _ x e in (
      ap (λ (y : Pick × Bool). y.0) same,
      inl (refl, ap (λ (y : Pick × Bool). y.1) (sym same)),
    )
after_pick p (w ∷ []) x e =
    let parts = cond_some (is_bypass w && not false) _ x e in (
      ap (λ (y : Pick × Bool). y.0) parts.1,
      inr (ap (λ u. u ∷ []) (first_time w parts.0), ap (λ (y : Pick × Bool). y.1) (sym parts.1)),
    )
after_pick p (w ∷ v ∷ ws) x e =
    elim (chosen (is_bypass w && not false) _ _ (Some x) e) [
      | inl h ↦ let last =
          after_both p (v ∷ ws) x h.1 in absurd (let never : ⊥ = cc last.0 in never)
      | inr h ↦ absurd (no_value x h.1)
    ]

-- what is read of a rule's options is in the grammar
pub plain_some : (words : List (List ℕ)) (x : Pick × Bool) →
    plain None false words ≡ Some x → AreQueueOptions words x.0 x.1
unfolding plain
plain_some [] x e = subst (λ (y : Pick × Bool). AreQueueOptions [] y.0 y.1) (same_Some _ x e) refl
plain_some (w ∷ []) x e =
    let parts = cond_some (is_bypass w && not false) _ x e in
    subst (λ (y : Pick × Bool). AreQueueOptions (w ∷ []) y.0 y.1) parts.1
    ([], refl, inl (ap (λ u. u ∷ []) (first_time w parts.0)))
plain_some (w ∷ v ∷ ws) x e =
    elim (chosen (is_bypass w && not false) _ _ (Some x) e) [
      | inl h ↦
          let last = after_bypass (v ∷ ws) x h.1 in
          subst (λ (b : Bool). AreQueueOptions (w ∷ v ∷ ws) x.0 b) (sym last.1)
          (v ∷ ws, last.0, inl (ap (λ u. u ∷ v ∷ ws) (first_time w h.0)))
      | inr h ↦
          let pick = bind_some (pick_of w v) _ x h.1 in
          let last = after_pick pick.0 ws x pick.2 in
          let picked : pick_of w v ≡ Some x.0 = pick.1 ∙ ap (λ (p : Pick). Some p) last.0 in
          elim last.1 [
            | inl g ↦ subst (λ (b : Bool). AreQueueOptions (w ∷ v ∷ ws) x.0 b) (sym g.1)
                (subst (λ (ws : List (List ℕ)). IsPickOption (w ∷ v ∷ ws) x.0) (sym g.0) picked)
            | inr g ↦ subst (λ (b : Bool). AreQueueOptions (w ∷ v ∷ ws) x.0 b) (sym g.1)
                (w ∷ v ∷ [], picked, inr (ap (λ us. w ∷ v ∷ us) g.0))
          ]
    ]

none_picked : (value : List ℕ) (p : Pick) → pick_of (codes "--queue-bypass") value ≡ Some p → ⊥
unfolding pick_of
none_picked value p e = no_value p e

-- `--queue-bypass` picks no queue
pub pick_is_another : (option value : List ℕ) (p : Pick) → pick_of option value ≡ Some p →
    is_bypass option ≡ false
pick_is_another option value p e =
    false_from_ne_true (is_bypass option)
    (λ h. none_picked value p (subst (λ (o : List ℕ). pick_of o value ≡ Some p)
    (same_word option (codes "--queue-bypass") h) e))

pick_again : (words : List (List ℕ)) (p : Pick) (bypass : Bool) → IsPickOption words p →
    plain None bypass words ≡ Some (p, bypass)
unfolding plain
pick_again [] p bypass h = ap (λ (q : Pick). Some (q, bypass)) (sym h)
pick_again (o ∷ []) p bypass h = absurd h
pick_again (o ∷ v ∷ []) p bypass h = rw (pick_is_another o v p h, h) refl
pick_again (o ∷ v ∷ more ∷ words) p bypass h = absurd h

bypass_again : (other words : List (List ℕ)) (p : Pick) → IsPickOption other p →
    words ≡ other ++ codes "--queue-bypass" ∷ [] → plain None false words ≡ Some (p, true)
unfolding plain
bypass_again [] words p h e = rw (e, h) refl
bypass_again (o ∷ []) words p h e = absurd h
bypass_again (o ∷ v ∷ []) words p h e = rw (e, pick_is_another o v p h, h) refl
bypass_again (o ∷ v ∷ more ∷ rest) words p h e = absurd h

-- what the grammar has of options is read
pub plain_again : (words : List (List ℕ)) (p : Pick) (bypass : Bool) → AreQueueOptions words p bypass →
    plain None false words ≡ Some (p, bypass)
plain_again words p false h = pick_again words p false h
plain_again words p true h =
    elim h.2 [
      | inl e ↦ rw e (plain-bypass None false (codes "--queue-bypass") h.0 refl
          ∙ pick_again h.0 p true h.1)
      | inr e ↦ bypass_again h.0 words p h.1 e
    ]
