-- A schedule has one run.
use Rattle.std.specs.Prelude.{ℕ, ◌≡◌, ◌<◌, ◌≤◌, ◌==◌, List, [], ◌∷◌, length}
use Rattle.std.specs.Prelude.{suc}
use Rattle.std.proofs.Common.{refl, arith, sym, ◌∙◌, ap, subst, get_or, inl, inr}
use Rattle.std.proofs.lemmas.Bool.{eq-eqb, eqb-true, ne_eqb, cases_lt, cases_Bool}
use Rattle.std.proofs.lemmas.List.Sorted.{IsNonDecreasingBy-from_sort, IsNonDecreasingBy-drop}
use Rattle.std.specs.List.Sorted.{IsNonDecreasingBy}
use Rattle.histories.specs.declared.entry.Entry.{Entry}
use Rattle.histories.specs.declared.histories.Histories.{Histories}
use Rattle.histories.specs.declared.histories.Lost.{Lost}
use Rattle.histories.specs.declared.log.PortLog.{PortLog}
use Rattle.histories.specs.History.{history}
use Rattle.histories.specs.Grouping.{IsGrouped}

abbrev Rises : List Entry → Type 0
Rises es = IsNonDecreasingBy (λ (e : Entry). e.queue) es

-- each queue's history is the same in both
abbrev Alike : List Entry → List Entry → Type 0
Alike es fs = (queue : ℕ) → history queue es ≡ history queue fs

tail_rises : (e : Entry) (es : List Entry) → Rises (e ∷ es) → Rises es
tail_rises e es up = IsNonDecreasingBy-drop (λ (e : Entry). e.queue) 1 (e ∷ es) up

-- the first entry stands first in its queue's history
first_own : (e : Entry) (es : List Entry) →
    history e.queue (e ∷ es) ≡ e ∷ history e.queue es
first_own e es = rw (eq-eqb e.queue e.queue refl) refl

not_own : (queue : ℕ) (e : Entry) (es : List Entry) → (e.queue ≡ queue → ⊥) →
    history queue (e ∷ es) ≡ history queue es
not_own queue e es other = rw (ne_eqb e.queue queue other) refl

-- below the first queue there is nothing
below_none : (queue : ℕ) (es : List Entry) → Rises es →
    ((k : ℕ) (d : Entry) → k < length es → queue < (get_or es k d).queue) →
    history queue es ≡ []
below_none queue [] up above = refl
below_none queue (e ∷ es) up above =
    not_own queue e es (λ same. let over = above 0 e (omega arith) in omega (arith, over, same))
    ∙ below_none queue es (tail_rises e es up)
    (λ k d within. above (suc k) d (omega (arith, within)))

-- of two first entries none has a lower queue
not_lower : (x y : Entry) (xs ys : List Entry) → Rises (y ∷ ys) → Alike (x ∷ xs) (y ∷ ys) →
    x.queue < y.queue → ⊥
not_lower x y xs ys up alike low =
    let none : history x.queue (y ∷ ys) ≡ [] =
    below_none x.queue (y ∷ ys) up
    (λ k d within.
    let rises : y.queue ≤ (get_or (y ∷ ys) k d).queue = up 0 k d (omega arith) within in
    omega (arith, low, rises)) in
    let wrong : x ∷ history x.queue xs ≡ [] =
    sym (first_own x xs) ∙ alike x.queue ∙ none in
    cc

backward : (es fs : List Entry) → Alike es fs → Alike fs es
backward es fs alike queue = sym (alike queue)

same_queue : (x y : Entry) (xs ys : List Entry) → Rises (x ∷ xs) → Rises (y ∷ ys) →
    Alike (x ∷ xs) (y ∷ ys) → x.queue ≡ y.queue
same_queue x y xs ys up up' alike =
    elim (cases_lt x.queue y.queue) [
      | inl low ↦ absurd (not_lower x y xs ys up' alike low)
      | inr least ↦ elim (cases_lt y.queue x.queue) [
        | inl low ↦
            absurd (not_lower y x ys xs up (backward (x ∷ xs) (y ∷ ys) alike) low)
        | inr most ↦ omega (arith, least, most)
      ]
    ]

tails_alike : (x y : Entry) (xs ys : List Entry) → x ≡ y → Alike (x ∷ xs) (y ∷ ys) → Alike xs ys
tails_alike x y xs ys same alike queue = elim (cases_Bool (x.queue == queue)) [
  | inl own ↦
      let at : x.queue ≡ queue = eqb-true x.queue queue own in
      let whole : x ∷ history queue xs ≡ y ∷ history queue ys =
      subst (λ q. x ∷ history q xs ≡ y ∷ history q ys) at
      (sym (first_own x xs) ∙ alike x.queue
      ∙ ap (λ q. history q (y ∷ ys)) (ap (λ (e : Entry). e.queue) same)
      ∙ first_own y ys
      ∙ ap (λ q. y ∷ history q ys) (sym (ap (λ (e : Entry). e.queue) same))) in
      cc
  | inr other ↦
      let apart : x.queue ≡ queue → ⊥ =
      λ at. let yes = eq-eqb x.queue queue at in cc in
      sym (not_own queue x xs apart) ∙ alike queue
      ∙ not_own queue y ys
      (λ at. apart (ap (λ (e : Entry). e.queue) same ∙ at))
]

one_list : (es fs : List Entry) → Rises es → Rises fs → Alike es fs → es ≡ fs
one_list [] [] up up' alike = refl
one_list [] (y ∷ ys) up up' alike =
    let wrong : [] ≡ y ∷ history y.queue ys = alike y.queue ∙ first_own y ys in cc
one_list (x ∷ xs) [] up up' alike =
    let wrong : x ∷ history x.queue xs ≡ [] = sym (first_own x xs) ∙ alike x.queue in cc
one_list (x ∷ xs) (y ∷ ys) up up' alike =
    let at : x.queue ≡ y.queue = same_queue x y xs ys up up' alike in
    let whole : x ∷ history x.queue xs ≡ y ∷ history y.queue ys =
    sym (first_own x xs) ∙ alike x.queue ∙ ap (λ q. history q (y ∷ ys)) at
    ∙ first_own y ys in
    let first : x ≡ y = cc in
    let rest : xs ≡ ys =
    one_list xs ys (tail_rises x xs up) (tail_rises y ys up')
    (tails_alike x y xs ys first alike) in
    cc

pub grouped_once : (ws es fs : List Entry) → IsGrouped ws es → IsGrouped ws fs → es ≡ fs
grouped_once ws es fs a b =
    one_list es fs (IsNonDecreasingBy-from_sort (λ (e : Entry). e.queue) es a.ascend)
    (IsNonDecreasingBy-from_sort (λ (e : Entry). e.queue) fs b.ascend)
    (λ queue. a.same queue ∙ sym (b.same queue))

pub same_histories : (h g : Histories) → h.entries ≡ g.entries → h.logs ≡ g.logs →
    h.lost ≡ g.lost → h ≡ g
same_histories h g entries logs lost =
    ap (λ es. made es h.logs h.lost) entries ∙ ap (λ ls. made g.entries ls h.lost) logs
    ∙ ap (λ l. made g.entries g.logs l) lost
  where
    made : List Entry → List PortLog → List Lost → Histories
    made es logs lost = record { entries = es; logs = logs; lost = lost }
