-- Requests that are told in logs, and those that entries bring.
use Rattle.std.proofs.Common.{◌≡◌, ℕ, List, [], ◌∷◌, ◌++◌, Option, Some, None, Bool, true, false}
use Rattle.std.proofs.Common.{refl, sym, ap, ◌∙◌, subst, inl, inr, true≢false}
use Rattle.std.specs.Prelude.{◌==◌, nat_eq, ◌||◌, ◌↔◌}
use Rattle.std.specs.List.{list_any}
use Rattle.std.proofs.lemmas.Bool.{cases_Bool, eqb-true}
use Rattle.std.proofs.lemmas.List.Folds.{list_any-append}
use Rattle.nfqa_msgs.specs.declared.request.Request.{Request}
use Rattle.queue_core.specs.State.{Bound}
use Rattle.queue_core.specs.Step.{step}
use Rattle.queue_core.specs.declared.event.Event.{Event}
use Rattle.queue_core.specs.declared.event.Event.TheVariants.{Arrive, Ask, PortClosed, DeviceDown}
use Rattle.histories.specs.declared.entry.Entry.{Entry}
use Rattle.histories.specs.declared.log.PortLog.{PortLog}
use Rattle.run_parts.specs.Requests.{Plea, pleas_by, pleas_of, pleas_in, errno_in}
use Rattle.port_audit.specs.declared.dealing.Side.{Side}
use Rattle.port_audit.specs.Dealing.{RowMap, Takes, IsTaken, IsMet, side, row_at, AreMet}
use Rattle.port_audit.specs.Dealing.{brought_from}
use Rattle.port_audit.specs.Dealing.{AreDealt}
use Rattle.port_audit.specs.Pleading.{are_good, AllGood, plea}
use Rattle.port_audit.specs.Pleading.{pleas_brought, MeetsEvent}
use Rattle.port_audit.proofs.RequestEntries.{plea_in, own_plea, other_pleas}
use Rattle.port_audit.proofs.RowMatches.{IsTold, told_same, told_next, told_breaks}

-- ---- the first of a row

first_of : {x y : Plea} {xs ys : List Plea} → x ∷ xs ≡ y ∷ ys → x ≡ y
first_of h = cc

inside : (t x : Plea) → Some t ≡ Some x → t ≡ x
inside t x same = cc

-- the first of the row is this request, exactly if the answer is yes
pub plea_met : (at : Side) (x : Plea) (old new : RowMap Plea) (told : Option Plea) (is : Bool) →
    IsTaken at old new told → (is ≡ true) ↔ (told ≡ Some x) → IsMet at x old new is
plea_met at x old new None true none same = absurd (let wrong = same.0 refl in cc)
plea_met at x old new None false none same =
    λ xs row. absurd (let wrong : [] ≡ x ∷ xs = sym none ∙ row in cc)
plea_met at x old new (Some t) true takes same =
    subst (λ y. Takes at y old new) (inside t x (same.0 refl)) takes
plea_met at x old new (Some t) false takes same =
    λ xs row. true≢false (sym (same.1 (ap Some (sym (first_of (sym row ∙ takes.own))))))

-- ---- an entry

module _ (ports : List ℕ) (told : ℕ → ℕ → List Plea) (before : List Entry) (e : Entry)
    (old new : RowMap Plea) (is : IsTold ports told pleas_brought old before) where
  -- it is no request
  next_same : ((p : ℕ) → pleas_of p e ≡ []) → new ≡ old →
      IsTold ports told pleas_brought new (before ++ e ∷ [])
  next_same none kept =
      subst (λ rows. IsTold ports told pleas_brought rows (before ++ e ∷ [])) (sym kept)
      (told_same ports told pleas_brought before e old is none)

  -- or it is one
  module _ (port call : ℕ) (request : Request) (event : e.event ≡ Ask port call request) where
    asked_on : Takes (side port e.queue) (plea call request (errno_in e.reply)) old new →
        IsTold ports told pleas_brought new (before ++ e ∷ [])
    asked_on takes =
        told_next ports told pleas_brought before e port (plea_in call request e)
        (own_plea e port call request event) old new is (other_pleas e port call request event)
        takes

    asked_breaks : (rest : List Entry) → ((xs : List Plea) → row_at old (side port e.queue)
        ≡ plea call request (errno_in e.reply) ∷ xs → ⊥) →
        AreMet ports told pleas_brought (before ++ e ∷ rest) → ⊥
    asked_breaks rest differs met =
        told_breaks ports told pleas_brought before e port (plea_in call request e)
        (own_plea e port call request event) old rest is differs met

  none_of : (event : Event) → e.event ≡ event → ((p : ℕ) → pleas_by p event e.reply ≡ []) →
      (p : ℕ) → pleas_of p e ≡ []
  none_of event same none p = ap (λ v. pleas_by p v e.reply) same ∙ none p

  by_event : (event : Event) → e.event ≡ event →
      MeetsEvent e.queue event e.reply old new true →
      IsTold ports told pleas_brought new (before ++ e ∷ [])
  by_event (Arrive card bypass room) same meets =
      next_same (none_of (Arrive card bypass room) same (λ p. refl)) meets.1
  by_event (Ask port call request) same meets = asked_on port call request same meets
  by_event (PortClosed port) same meets =
      next_same (none_of (PortClosed port) same (λ p. refl)) meets.1
  by_event (DeviceDown device) same meets =
      next_same (none_of (DeviceDown device) same (λ p. refl)) meets.1

  breaks_by : (rest : List Entry) (event : Event) → e.event ≡ event →
      MeetsEvent e.queue event e.reply old new false →
      AreMet ports told pleas_brought (before ++ e ∷ rest) → ⊥
  breaks_by rest (Arrive card bypass room) same meets met = true≢false (sym meets.0)
  breaks_by rest (Ask port call request) same meets met =
      asked_breaks port call request same rest meets met
  breaks_by rest (PortClosed port) same meets met = true≢false (sym meets.0)
  breaks_by rest (DeviceDown device) same meets met = true≢false (sym meets.0)

  pub plea_on : MeetsEvent e.queue e.event e.reply old new true →
      IsTold ports told pleas_brought new (before ++ e ∷ [])
  plea_on meets = by_event e.event refl meets

  pub plea_breaks : (rest : List Entry) → MeetsEvent e.queue e.event e.reply old new false →
      AreMet ports told pleas_brought (before ++ e ∷ rest) → ⊥
  plea_breaks rest meets met = breaks_by rest e.event refl meets met

pub pleas_all : (p : ℕ) (s : Option Bound) (es : List Entry) →
    brought_from pleas_brought p s es ≡ pleas_in p es
pleas_all p s [] = refl
pleas_all p s (e ∷ es) = ap (λ xs. pleas_of p e ++ xs) (pleas_all p (step s e.event).state es)

-- ---- all ports' answers

pub none_good : (logs : List PortLog) → AllGood [] logs
none_good logs p is = absurd (true≢false (sym is))

pub good_on : (done : List ℕ) (port : ℕ) (logs : List PortLog) → AllGood done logs →
    are_good logs port ≡ true → AllGood (done ++ port ∷ []) logs
good_on done port logs good one p is = elim (cases_Bool (list_any (nat_eq p) done)) [
  | inl before ↦ good p before
  | inr behind ↦ elim (cases_Bool (p == port)) [
    | inl same ↦ subst (λ n. are_good logs n ≡ true) (sym (eqb-true p port same)) one
    | inr other ↦ absurd (true≢false (sym is
        ∙ list_any-append (nat_eq p) done (port ∷ [])
        ∙ ap (λ b. b || (p == port || false)) behind
        ∙ ap (λ b. b || false) other))
  ]
]

-- whatever the first rows tell, these have what of it isn't brought so far
abbrev pub Pleading : RowMap Plea → RowMap Plea → List Entry → List Entry → Type 0
Pleading first now before rest = (ports : List ℕ) (told : ℕ → ℕ → List Plea) →
    AreDealt ports told first → IsTold ports told pleas_brought now before
