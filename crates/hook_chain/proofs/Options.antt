-- One option of a rule, read from the front of its words.
use Rattle.std.proofs.Common.{◌≡◌, ℕ, Bool, true, false, not, ◌&&◌, List, [], ◌∷◌, Option, Some}
use Rattle.std.proofs.Common.{None, refl, ap}
use Rattle.std.specs.Prelude.{bytes_eq, codes, unwrap_or, is_none, if◌then◌else◌}
use Rattle.hook_chain.specs.declared.rule.Pick.{Pick}
use Rattle.hook_chain.specs.declared.rule.Pick.TheVariants.{Number}
use Rattle.text_lines.specs.Words.{◌>>=◌, first_word}
use Rattle.hook_chain.specs.RuleLine.{options_after, pick_of}

-- the words whose first word is known
pub words_are : (w : List ℕ) (ws words : List (List ℕ)) → Some (w, ws) ≡ first_word words →
    words ≡ w ∷ ws
words_are w ws [] e = cc
words_are w ws (v ∷ vs) e =
    let same : ◌≡◌ {A = List ℕ × List (List ℕ)} (v, vs) (w, ws) =
    cc in ap (λ (p : List ℕ × List (List ℕ)). p.0 ∷ p.1) same

abbrev pub is_bypass : List ℕ → Bool
is_bypass w = bytes_eq w (codes "--queue-bypass")

abbrev pub is_fanout : List ℕ → Bool
is_fanout w = bytes_eq w (codes "--queue-cpu-fanout")

-- an option that was said isn't said again
pub never_again : (b : Bool) → (b && not true) ≡ false
never_again true = refl
never_again false = refl

pub options_after-bypass : (pick : Option Pick) (bypass fanout : Bool) (w : List ℕ)
    (ws words : List (List ℕ)) → Some (w, ws) ≡ first_word words →
    (is_bypass w && not bypass) ≡ true →
    options_after pick bypass fanout words ≡ options_after pick true fanout ws
unfolding options_after
options_after-bypass pick bypass fanout w [] words e is = rw (words_are w [] words e, is) refl
options_after-bypass pick bypass fanout w (v ∷ vs) words e is =
    rw (words_are w (v ∷ vs) words e, is) refl

pub options_after-fanout : (pick : Option Pick) (bypass fanout : Bool) (w : List ℕ)
    (ws words : List (List ℕ)) → Some (w, ws) ≡ first_word words →
    (is_bypass w && not bypass) ≡ false → (is_fanout w && not fanout) ≡ true →
    options_after pick bypass fanout words ≡ options_after pick bypass true ws
unfolding options_after
options_after-fanout pick bypass fanout w [] words e other is =
    rw (words_are w [] words e, other, is) refl
options_after-fanout pick bypass fanout w (v ∷ vs) words e other is =
    rw (words_are w (v ∷ vs) words e, other, is) refl

pub options_after-pick : (bypass fanout : Bool) (w v : List ℕ) (vs ws words : List (List ℕ)) →
    Some (w, vs) ≡ first_word words → Some (v, ws) ≡ first_word vs →
    (is_bypass w && not bypass) ≡ false → (is_fanout w && not fanout) ≡ false →
    options_after None bypass fanout words
    ≡ (pick_of w v >>= λ p. options_after (Some p) bypass fanout ws)
unfolding options_after
options_after-pick bypass fanout w v vs ws words e f other another =
    rw (words_are w vs words e, words_are v ws vs f, other, another) refl

-- an option that names a queue, without a value
pub options_after-lone : (pick : Option Pick) (bypass fanout : Bool) (w : List ℕ)
    (vs words : List (List ℕ)) → Some (w, vs) ≡ first_word words → None ≡ first_word vs →
    (is_bypass w && not bypass) ≡ false → (is_fanout w && not fanout) ≡ false →
    options_after pick bypass fanout words ≡ None
unfolding options_after
options_after-lone pick bypass fanout w [] words e none other another =
    rw (words_are w [] words e, other, another) refl
options_after-lone pick bypass fanout w (v ∷ vs) words e none other another =
    absurd (let never : ⊥ = cc none in never)

-- a queue was named before
pub options_after-picked : (pick : Option Pick) (bypass fanout : Bool) (w : List ℕ)
    (vs words : List (List ℕ)) → is_none pick ≡ false → Some (w, vs) ≡ first_word words →
    (is_bypass w && not bypass) ≡ false → (is_fanout w && not fanout) ≡ false →
    options_after pick bypass fanout words ≡ None
unfolding options_after
options_after-picked pick bypass fanout w [] words picked e other another =
    rw (words_are w [] words e, other, another) refl
options_after-picked pick bypass fanout w (v ∷ vs) words picked e other another =
    rw (words_are w (v ∷ vs) words e, other, another, picked) refl

-- ---- the options but for the fan-out
-- what these words say, where `pick` and `bypass` were said before them
unfoldable pub plain : Option Pick → Bool → List (List ℕ) → Option (Pick × Bool)
plain pick bypass [] = Some (unwrap_or pick (Number 0), bypass)
plain pick bypass (w ∷ []) =
    if is_bypass w && not bypass then Some (unwrap_or pick (Number 0), true) else None
plain pick bypass (w ∷ v ∷ ws) =
    if is_bypass w && not bypass then plain pick true (v ∷ ws)
    else if is_none pick then (pick_of w v >>= λ p. plain (Some p) bypass ws)
    else None

pub plain-bypass : (pick : Option Pick) (bypass : Bool) (w : List ℕ) (ws : List (List ℕ)) →
    (is_bypass w && not bypass) ≡ true → plain pick bypass (w ∷ ws) ≡ plain pick true ws
unfolding plain
plain-bypass pick bypass w [] is = rw is refl
plain-bypass pick bypass w (v ∷ vs) is = rw is refl

pub plain-pick : (bypass : Bool) (w v : List ℕ) (ws : List (List ℕ)) (p : Pick) →
    (is_bypass w && not bypass) ≡ false → pick_of w v ≡ Some p →
    plain None bypass (w ∷ v ∷ ws) ≡ plain (Some p) bypass ws
unfolding plain
plain-pick bypass w v ws p other is = rw (other, is) refl
