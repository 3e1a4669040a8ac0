-- Closings: each move keeps what stands in the histories of ports that closed.
use Rattle.std.proofs.Common.{◌≡◌, ◌≢◌, ◌∙◌, ◌<◌, ℕ, List, [], ◌∷◌, ◌++◌, Option, Some, None}
use Rattle.std.proofs.Common.{Bool, true, false, refl, sym, ap, subst}
use Rattle.std.specs.Prelude.{◌==◌, ◌||◌, if◌then◌else◌, option_map}
use Rattle.std.specs.List.{list_any}
use Rattle.std.proofs.lemmas.Bool.{eq-eqb, ne_eqb}
use Rattle.std.proofs.lemmas.List.Elements.{filter-append}
use Rattle.std.proofs.lemmas.List.Folds.{list_any-append}
use Rattle.queue_core.specs.State.{Bound}
use Rattle.queue_core.specs.Step.{step}
use Rattle.queue_core.specs.declared.event.Event.TheVariants.{PortClosed}
use Rattle.histories.specs.declared.entry.Entry.{Entry}
use Rattle.histories.specs.Numbers.{queue_count}
use Rattle.histories.specs.History.{history, is_of, replay, replay_from}
use Rattle.histories.specs.States.{entry_in, state_of}
use Rattle.histories.specs.Happenings as happening
use Rattle.histories.specs.QueueHistories.{replay_on}
use Rattle.run_parts.specs.Closing.{is_closing_of, is_of_port, behind_first, is_bound_to}
use Rattle.run_parts.specs.Closing.{IsClosing}
use Rattle.run_parts.specs.Underway.{AreOthers}
use Rattle.run_parts.proofs.PortBindings.{step_frees}

-- what the queues do when a port closes
pub record Laws : Type 0 where
  pub entries : (port queue : ℕ) (es : List Entry) → queue < queue_count →
      history queue (happening.closings port es)
      ≡ happening.closing_of port queue (state_of es queue)
  pub none : (port queue : ℕ) (es : List Entry) → queue < queue_count →
      option_map (λ (b : Bound). b.port) (state_of (es ++ happening.closings port es) queue)
      ≢ Some port

-- ---- histories that go on

others_history : (p queue : ℕ) (es : List Entry) → AreOthers p es → AreOthers p (history queue es)
others_history p queue [] are = tt
others_history p queue (e ∷ es) are = by (is_of queue e) (others_history p queue es are.2)
  where
    by : (c : Bool) → AreOthers p (history queue es) →
        AreOthers p (if c then e ∷ history queue es else history queue es)
    by true more = (are.0, are.1, more)
    by false more = more

no_closing : (p : ℕ) (es : List Entry) → AreOthers p es → list_any (is_closing_of p) es ≡ false
no_closing p [] are = refl
no_closing p (e ∷ es) are = rw are.1 (no_closing p es are.2)

none_by : (p : ℕ) (es : List Entry) → AreOthers p es → list_any (is_of_port p) es ≡ false
none_by p [] are = refl
none_by p (e ∷ es) are = rw are.0 (none_by p es are.2)

stays_free : (p : ℕ) (q : Option Bound) (es : List Entry) → AreOthers p es →
    is_bound_to p q ≡ false → is_bound_to p (replay_from q es) ≡ false
stays_free p q [] are free = free
stays_free p q (e ∷ es) are free =
    stays_free p (step q e.event).state es are.2 (step_frees p q e.event are.0 free)

-- behind the first closing
first_others : (p : ℕ) (es : List Entry) → AreOthers p es → behind_first (is_closing_of p) es ≡ []
first_others p [] are = refl
first_others p (e ∷ es) are = rw are.1 (first_others p es are.2)

any_two : (t : Entry → Bool) (es fs : List Entry) → list_any t es ≡ false → list_any t fs ≡ false →
    list_any t (es ++ fs) ≡ false
any_two t es fs one two = list_any-append t es fs ∙ ap (λ b. b || list_any t fs) one ∙ two

last_on : (p : ℕ) (es fs : List Entry) → AreOthers p fs →
    list_any (is_of_port p) (behind_first (is_closing_of p) es) ≡ false →
    list_any (is_of_port p) (behind_first (is_closing_of p) (es ++ fs)) ≡ false
last_on p [] fs are last = ap (list_any (is_of_port p)) (first_others p fs are)
last_on p (e ∷ es) fs are last = by (is_closing_of p e) (last_on p es fs are) last
  where
    by : (c : Bool) →
        (list_any (is_of_port p) (behind_first (is_closing_of p) es) ≡ false →
        list_any (is_of_port p) (behind_first (is_closing_of p) (es ++ fs)) ≡ false) →
        list_any (is_of_port p) (if c then es else behind_first (is_closing_of p) es) ≡ false →
        list_any (is_of_port p)
        (if c then es ++ fs else behind_first (is_closing_of p) (es ++ fs)) ≡ false
    by true so is = any_two (is_of_port p) es fs is (none_by p fs are)
    by false so is = so is

others_on : (p : ℕ) (b : Bool) (es fs : List Entry) → AreOthers p fs → IsClosing p b es →
    IsClosing p b (es ++ fs)
others_on p true es fs are is = record {
  last = last_on p es fs are is.last;
  unbound = ap (is_bound_to p) (replay_on None es fs)
      ∙ stays_free p (replay es) fs are is.unbound;
}
others_on p false es fs are is = any_two (is_closing_of p) es fs is (no_closing p fs are)

-- entries of others go on with the histories
pub others_then : (p queue : ℕ) (b : Bool) (es fs : List Entry) → AreOthers p fs →
    IsClosing p b (history queue es) → IsClosing p b (history queue (es ++ fs))
others_then p queue b es fs are is =
    subst (IsClosing p b) (sym (filter-append (is_of queue) es fs))
    (others_on p b (history queue es) (history queue fs) (others_history p queue fs are) is)

-- an open port's request
pub own_then : (p queue : ℕ) (es : List Entry) (e : Entry) → is_closing_of p e ≡ false →
    IsClosing p false (history queue es) → IsClosing p false (history queue (es ++ e ∷ []))
own_then p queue es e quiet is =
    ap (list_any (is_closing_of p)) (filter-append (is_of queue) es (e ∷ []))
    ∙ any_two (is_closing_of p) (history queue es) (history queue (e ∷ [])) is (by (is_of queue e))
  where
    by : (c : Bool) → list_any (is_closing_of p) (if c then e ∷ [] else []) ≡ false
    by true = rw quiet refl
    by false = refl

-- ---- a port closes

behind_none : (p : ℕ) (es fs : List Entry) → list_any (is_closing_of p) es ≡ false →
    behind_first (is_closing_of p) (es ++ fs) ≡ behind_first (is_closing_of p) fs
behind_none p [] fs is = refl
behind_none p (e ∷ es) fs is = by (is_closing_of p e) (behind_none p es fs) is
  where
    by : (c : Bool) → (list_any (is_closing_of p) es ≡ false →
        behind_first (is_closing_of p) (es ++ fs) ≡ behind_first (is_closing_of p) fs) →
        (c || list_any (is_closing_of p) es) ≡ false →
        (if c then es ++ fs else behind_first (is_closing_of p) (es ++ fs))
        ≡ behind_first (is_closing_of p) fs
    by true so wrong = absurd (cc)
    by false so is = so is

behind_own : (p queue : ℕ) (o : Option Bound) →
    behind_first (is_closing_of p) (happening.closing_of p queue o) ≡ []
behind_own p queue None = refl
behind_own p queue (Some b) = by (b.port == p)
  where
    by : (c : Bool) → behind_first (is_closing_of p)
        (if c then entry_in queue (Some b) (PortClosed p) ∷ [] else []) ≡ []
    by true = rw (eq-eqb p p refl) refl
    by false = refl

not_bound : (p : ℕ) (o : Option Bound) → option_map (λ (b : Bound). b.port) o ≢ Some p →
    is_bound_to p o ≡ false
not_bound p None differ = refl
not_bound p (Some b) differ = ne_eqb p b.port (λ same. differ (ap (λ n. Some n) (sym same)))

pub closed_then : Laws → (p queue : ℕ) (es : List Entry) → queue < queue_count →
    IsClosing p false (history queue es) →
    IsClosing p true (history queue (es ++ happening.closings p es))
closed_then laws p queue es below is = record {
  last = ap (λ fs. list_any (is_of_port p) (behind_first (is_closing_of p) fs))
      (filter-append (is_of queue) es (happening.closings p es)
      ∙ ap (λ fs. history queue es ++ fs) (laws.entries p queue es below))
      ∙ ap (list_any (is_of_port p))
      (behind_none p (history queue es) (happening.closing_of p queue (state_of es queue)) is
      ∙ behind_own p queue (state_of es queue));
  unbound = not_bound p (state_of (es ++ happening.closings p es) queue)
      (laws.none p queue es below);
}
