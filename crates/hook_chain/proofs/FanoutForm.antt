-- A rule's options, with or without the fan-out, are read as the grammar has them, and what the
-- grammar has is read.
use Rattle.std.proofs.Common.{◌≡◌, ℕ, Bool, true, false, not, ◌&&◌, ◌⊎◌, inl, inr, List, [], ◌∷◌}
use Rattle.std.proofs.Common.{◌++◌, Option, Some, None, ◌∙◌, refl, sym, ap, subst}
use Rattle.std.specs.Prelude.{codes, unwrap_or, is_none, if◌then◌else◌}
use Rattle.std.proofs.lemmas.Option.{cond_some, same_Some}
use Rattle.std.proofs.lemmas.Bool.{and_parts, false≢true, false_from_ne_true}
use Rattle.text_lines.specs.Words.{◌>>=◌}
use Rattle.hook_chain.specs.declared.rule.Pick.{Pick}
use Rattle.hook_chain.specs.declared.rule.Pick.TheVariants.{Number, Balance}
use Rattle.hook_chain.specs.declared.rule_line.RuleOptions.{RuleOptions}
use Rattle.hook_chain.specs.RuleLine.{pick_of, options_after, options_said}
use Rattle.hook_chain.specs.Grammar.{IsBalance, AreOptions}
use Rattle.hook_chain.proofs.Options.{is_bypass, is_fanout, never_again, plain, plain-bypass}
use Rattle.hook_chain.proofs.Options.{plain-pick, options_after-bypass, options_after-pick}
use Rattle.hook_chain.proofs.OptionForm.{chosen, no_value, plain_some, plain_again}
use Rattle.hook_chain.proofs.RuleForm.{bind_some, same_word}

-- what the options say together, once the fan-out was said
abbrev fanned : Option (Pick × Bool) → Option RuleOptions
fanned None = None
fanned (Some x) = options_said (Some x.0) x.1 true

said_fanned : (p : Option Pick) (b : Bool) →
    options_said p b true ≡ fanned (Some (unwrap_or p (Number 0), b))
said_fanned None b = refl
said_fanned (Some p) b = refl

by_test : (first second : Bool) (x y n : Option RuleOptions) (a b : Option (Pick × Bool)) →
    second ≡ false → x ≡ fanned a → n ≡ fanned b →
    (if first then x else if second then y else n) ≡ fanned (if first then a else b)
by_test true second x y n a b e f g = f
by_test false true x y n a b e f g = absurd (false≢true (sym e))
by_test false false x y n a b e f g = g

by_pick : (p r : Option Pick) (f : Pick → Option RuleOptions) (g : Pick → Option (Pick × Bool)) →
    ((q : Pick) → f q ≡ fanned (g q)) →
    (if is_none p then (r >>= f) else None) ≡ fanned (if is_none p then (r >>= g) else None)
by_pick None None f g h = refl
by_pick None (Some q) f g h = h q
by_pick (Some p) r f g h = refl

-- after the fan-out the other options are read as without one
after_fanout : (p : Option Pick) (b : Bool) (words : List (List ℕ)) →
    options_after p b true words ≡ fanned (plain p b words)
unfolding options_after plain
after_fanout p b [] = said_fanned p b
after_fanout p b (w ∷ []) =
    by_test (is_bypass w && not b) (is_fanout w && not true) (options_said p true true)
    (options_said p b true) None (Some (unwrap_or p (Number 0), true)) None
    (never_again (is_fanout w)) (said_fanned p true) refl
after_fanout p b (w ∷ v ∷ ws) =
    by_test (is_bypass w && not b) (is_fanout w && not true) (options_after p true true (v ∷ ws))
    (options_after p b true (v ∷ ws))
    (if is_none p then (pick_of w v >>= λ q. options_after (Some q) b true ws) else None)
    (plain p true (v ∷ ws))
    (if is_none p then (pick_of w v >>= λ q. plain (Some q) b ws) else None)
    (never_again (is_fanout w)) (after_fanout p true (v ∷ ws))
    (by_pick p (pick_of w v) (λ q. options_after (Some q) b true ws) (λ q. plain (Some q) b ws)
    (λ q. after_fanout (Some q) b ws))

-- the fan-out stands among these words, and the others are options without it
record Fanned (p : Option Pick) (b : Bool) (words : List (List ℕ)) (x : RuleOptions) : Type 0 where
  before : List (List ℕ)
  after : List (List ℕ)
  words_are : words ≡ before ++ codes "--queue-cpu-fanout" ∷ after
  some : (y : Pick × Bool) × (plain p b before ≡ Some y)
  all : fanned (plain p b (before ++ after)) ≡ Some x

abbrev Found : Option Pick → Bool → List (List ℕ) → RuleOptions → Type 0
Found p b words x =
    ((x.fanout ≡ false) × (plain p b words ≡ Some (x.pick, x.bypass))) ⊎ Fanned p b words x

first_fanout : (w : List ℕ) → (is_fanout w && not false) ≡ true → w ≡ codes "--queue-cpu-fanout"
first_fanout w e =
    same_word w (codes "--queue-cpu-fanout") (and_parts (is_fanout w) (not false) e).0

said_plain : (p : Option Pick) (b : Bool) (x : RuleOptions) → options_said p b false ≡ Some x →
    (x.fanout ≡ false) × (◌≡◌ {A = Pick × Bool} (unwrap_or p (Number 0), b) (x.pick, x.bypass))
said_plain p b x e =
    let same = same_Some _ x e in (
      ap (λ (y : RuleOptions). y.fanout) (sym same),
      ap (λ (y : RuleOptions). (y.pick, y.bypass)) same,
    )

begins_fanned : (p : Option Pick) (b : Bool) (w : List ℕ) (ws : List (List ℕ)) (x : RuleOptions) →
    (is_fanout w && not false) ≡ true → fanned (plain p b ws) ≡ Some x → Fanned p b (w ∷ ws) x
unfolding plain
begins_fanned p b w ws x is e = record {
  before = [];
  after = ws;
  words_are = ap (λ u. u ∷ ws) (first_fanout w is);
  some = ((unwrap_or p (Number 0), b), refl);
  all = e;
}

with_bypass : (p : Option Pick) (b : Bool) (w : List ℕ) (ws : List (List ℕ)) (x : RuleOptions) →
    (is_bypass w && not b) ≡ true → Found p true ws x → Found p b (w ∷ ws) x
with_bypass p b w ws x is (inl h) = inl (h.0, plain-bypass p b w ws is ∙ h.1)
with_bypass p b w ws x is (inr f) = inr (record {
  before = w ∷ f.before;
  after = f.after;
  words_are = ap (λ us. w ∷ us) f.words_are;
  some = (f.some.0, plain-bypass p b w f.before is ∙ f.some.1);
  all = ap fanned (plain-bypass p b w (f.before ++ f.after) is) ∙ f.all;
})

with_pick : (b : Bool) (w v : List ℕ) (ws : List (List ℕ)) (q : Pick) (x : RuleOptions) →
    (is_bypass w && not b) ≡ false → pick_of w v ≡ Some q → Found (Some q) b ws x →
    Found None b (w ∷ v ∷ ws) x
with_pick b w v ws q x other is (inl h) = inl (h.0, plain-pick b w v ws q other is ∙ h.1)
with_pick b w v ws q x other is (inr f) = inr (record {
  before = w ∷ v ∷ f.before;
  after = f.after;
  words_are = ap (λ us. w ∷ v ∷ us) f.words_are;
  some = (f.some.0, plain-pick b w v f.before q other is ∙ f.some.1);
  all = ap fanned (plain-pick b w v (f.before ++ f.after) q other is) ∙ f.all;
})

found : (p : Option Pick) (b : Bool) (words : List (List ℕ)) (x : RuleOptions) →
    options_after p b false words ≡ Some x → Found p b words x
unfolding options_after plain
found p b [] x e =
    let h = said_plain p b x e in inl (h.0, ap (λ (y : Pick × Bool). Some y) h.1)
found p b (w ∷ []) x e =
    elim (chosen (is_bypass w && not b) _ _ (Some x) e) [
      | inl h ↦
          let s = said_plain p true x h.1 in
          with_bypass p b w [] x h.0 (inl (s.0, ap (λ (y : Pick × Bool). Some y) s.1))
      | inr h ↦ elim (chosen (is_fanout w && not false) _ _ (Some x) h.1) [
        | inl g ↦ inr (begins_fanned p b w [] x g.0 (sym (said_fanned p b) ∙ g.1))
        | inr g ↦ absurd (no_value x g.1)
      ]
    ]
found None b (w ∷ v ∷ ws) x e =
    elim (chosen (is_bypass w && not b) _ _ (Some x) e) [
      | inl h ↦ with_bypass None b w (v ∷ ws) x h.0 (found None true (v ∷ ws) x h.1)
      | inr h ↦ elim (chosen (is_fanout w && not false) _ _ (Some x) h.1) [
        | inl g ↦ inr (begins_fanned None b w (v ∷ ws) x g.0
            (sym (after_fanout None b (v ∷ ws)) ∙ g.1))
        | inr g ↦
            let pick = bind_some (pick_of w v) _ x g.1 in
            with_pick b w v ws pick.0 x h.0 pick.1 (found (Some pick.0) b ws x pick.2)
      ]
    ]
found (Some p) b (w ∷ v ∷ ws) x e =
    elim (chosen (is_bypass w && not b) _ _ (Some x) e) [
      | inl h ↦ with_bypass (Some p) b w (v ∷ ws) x h.0 (found (Some p) true (v ∷ ws) x h.1)
      | inr h ↦ elim (chosen (is_fanout w && not false) _ _ (Some x) h.1) [
        | inl g ↦ inr (begins_fanned (Some p) b w (v ∷ ws) x g.0
            (sym (after_fanout (Some p) b (v ∷ ws)) ∙ g.1))
        | inr g ↦ absurd (no_value x g.1)
      ]
    ]

-- what was said beside the fan-out
record Beside (o : Option (Pick × Bool)) (x : RuleOptions) : Type 0 where
  plainly : o ≡ Some (x.pick, x.bypass)
  fanout : x.fanout ≡ true
  balance : IsBalance x.pick

beside : (o : Option (Pick × Bool)) (x : RuleOptions) → fanned o ≡ Some x → Beside o x
beside None x e = absurd (no_value x e)
beside (Some (Number queue, b)) x e = absurd (no_value x e)
beside (Some (Balance first total, b)) x e =
    let same = same_Some _ x e in record {
      plainly = ap (λ (y : RuleOptions). Some (y.pick, y.bypass)) same;
      fanout = ap (λ (y : RuleOptions). y.fanout) (sym same);
      balance = subst IsBalance (ap (λ (y : RuleOptions). y.pick) same) tt;
    }

-- what is read of a rule's options is in the grammar
pub options_some : (words : List (List ℕ)) (x : RuleOptions) →
    options_after None false false words ≡ Some x → AreOptions words x.pick x.bypass x.fanout
options_some words x e =
    elim (found None false words x e) [
      | inl h ↦ subst (AreOptions words x.pick x.bypass) (sym h.0)
          (plain_some words (x.pick, x.bypass) h.1)
      | inr f ↦
          let s = beside (plain None false (f.before ++ f.after)) x f.all in
          subst (AreOptions words x.pick x.bypass) (sym s.fanout)
          (record {
            before = f.before;
            after = f.after;
            words_are = f.words_are;
            options_before = (f.some.0.0, f.some.0.1, plain_some f.before f.some.0 f.some.1);
            options = plain_some (f.before ++ f.after) (x.pick, x.bypass) s.plainly;
            balance = s.balance;
          })
    ]

-- ---- what the grammar has is read
no_pick : (value : List ℕ) (p : Pick) → pick_of (codes "--queue-cpu-fanout") value ≡ Some p → ⊥
unfolding pick_of
no_pick value p e = no_value p e

-- an option that picks the queue isn't the fan-out
picks_another : (w v : List ℕ) (p : Pick) → pick_of w v ≡ Some p →
    (is_fanout w && not false) ≡ false
picks_another w v p e =
    false_from_ne_true (is_fanout w && not false)
    (λ h. no_pick v p (subst (λ (o : List ℕ). pick_of o v ≡ Some p) (first_fanout w h) e))

fanout_reads : (p : Option Pick) (b : Bool) (after : List (List ℕ)) (x : Pick × Bool) →
    plain p b after ≡ Some x →
    options_after p b false (codes "--queue-cpu-fanout" ∷ after) ≡ fanned (Some x)
unfolding options_after plain
fanout_reads p b [] x e = said_fanned p b ∙ ap fanned e
fanout_reads p b (v ∷ vs) x e = after_fanout p b (v ∷ vs) ∙ ap fanned e

fanned_again : (p : Option Pick) (b : Bool) (before after : List (List ℕ)) (y x : Pick × Bool) →
    plain p b before ≡ Some y → plain p b (before ++ after) ≡ Some x →
    options_after p b false (before ++ codes "--queue-cpu-fanout" ∷ after) ≡ fanned (Some x)
unfolding options_after plain
fanned_again p b [] after y x e f = fanout_reads p b after x f
fanned_again p b (w ∷ []) after y x e f =
    let is = (cond_some (is_bypass w && not b) _ y e).0 in
    options_after-bypass p b false w (codes "--queue-cpu-fanout" ∷ after)
    (w ∷ codes "--queue-cpu-fanout" ∷ after) refl is
    ∙ fanout_reads p true after x (sym (plain-bypass p b w after is) ∙ f)
fanned_again None b (w ∷ v ∷ ws) after y x e f =
    elim (chosen (is_bypass w && not b) _ _ (Some y) e) [
      | inl h ↦
          options_after-bypass None b false w (v ∷ (ws ++ codes "--queue-cpu-fanout" ∷ after))
          (w ∷ v ∷ (ws ++ codes "--queue-cpu-fanout" ∷ after)) refl h.0
          ∙ fanned_again None true (v ∷ ws) after y x h.1
          (sym (plain-bypass None b w (v ∷ (ws ++ after)) h.0) ∙ f)
      | inr h ↦
          let pick = bind_some (pick_of w v) _ y h.1 in
          options_after-pick b false w v (v ∷ (ws ++ codes "--queue-cpu-fanout" ∷ after))
          (ws ++ codes "--queue-cpu-fanout" ∷ after)
          (w ∷ v ∷ (ws ++ codes "--queue-cpu-fanout" ∷ after)) refl refl h.0
          (picks_another w v pick.0 pick.1)
          ∙ (ap (λ (o : Option Pick). o >>= λ q. options_after (Some q) b false
          (ws ++ codes "--queue-cpu-fanout" ∷ after)) pick.1
          ∙ fanned_again (Some pick.0) b ws after y x pick.2
          (sym (plain-pick b w v (ws ++ after) pick.0 h.0 pick.1) ∙ f))
    ]
fanned_again (Some p) b (w ∷ v ∷ ws) after y x e f =
    elim (chosen (is_bypass w && not b) _ _ (Some y) e) [
      | inl h ↦
          options_after-bypass (Some p) b false w
          (v ∷ (ws ++ codes "--queue-cpu-fanout" ∷ after))
          (w ∷ v ∷ (ws ++ codes "--queue-cpu-fanout" ∷ after)) refl h.0
          ∙ fanned_again (Some p) true (v ∷ ws) after y x h.1
          (sym (plain-bypass (Some p) b w (v ∷ (ws ++ after)) h.0) ∙ f)
      | inr h ↦ absurd (no_value y h.1)
    ]

abbrev unfanned : Pick × Bool → RuleOptions
unfanned x = record { pick = x.0; bypass = x.1; fanout = false }

plainly_again : (p : Option Pick) (b : Bool) (words : List (List ℕ)) (x : Pick × Bool) →
    plain p b words ≡ Some x → options_after p b false words ≡ Some (unfanned x)
unfolding options_after plain
plainly_again p b [] x e = ap (λ (y : Pick × Bool). Some (unfanned y)) (same_Some _ x e)
plainly_again p b (w ∷ []) x e =
    let s = cond_some (is_bypass w && not b) _ x e in
    rw s.0 (ap (λ (y : Pick × Bool). Some (unfanned y)) s.1)
plainly_again None b (w ∷ v ∷ ws) x e =
    elim (chosen (is_bypass w && not b) _ _ (Some x) e) [
      | inl h ↦ rw h.0 (plainly_again None true (v ∷ ws) x h.1)
      | inr h ↦
          let pick = bind_some (pick_of w v) _ x h.1 in
          rw (h.0, picks_another w v pick.0 pick.1, pick.1)
          (plainly_again (Some pick.0) b ws x pick.2)
    ]
plainly_again (Some p) b (w ∷ v ∷ ws) x e =
    elim (chosen (is_bypass w && not b) _ _ (Some x) e) [
      | inl h ↦ rw h.0 (plainly_again (Some p) true (v ∷ ws) x h.1)
      | inr h ↦ absurd (no_value x h.1)
    ]

said_beside : (p : Pick) (b : Bool) → IsBalance p →
    fanned (Some (p, b)) ≡ Some (record { pick = p; bypass = b; fanout = true })
said_beside (Number queue) b h = absurd h
said_beside (Balance first total) b h = refl

-- what the grammar has of options is read
pub options_again : (words : List (List ℕ)) (p : Pick) (bypass fanout : Bool) →
    AreOptions words p bypass fanout →
    options_after None false false words
    ≡ Some (record { pick = p; bypass = bypass; fanout = fanout })
options_again words p bypass false h =
    plainly_again None false words (p, bypass) (plain_again words p bypass h)
options_again words p bypass true h =
    let first = h.options_before in
    rw h.words_are
    (fanned_again None false h.before h.after (first.0, first.1) (p, bypass)
    (plain_again h.before first.0 first.1 first.2)
    (plain_again (h.before ++ h.after) p bypass h.options)
    ∙ said_beside p bypass h.balance)
