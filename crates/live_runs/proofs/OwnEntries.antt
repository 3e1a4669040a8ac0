-- Each pass's own entries are its port's or the feeder's: so none is another's business, and where
-- all have met, requests and messages are even.
use Rattle.std.proofs.Common.{◌∙◌, ◌∷◌, ◌≡◌, ◌≢◌, ◌≤◌, ◌⊎◌, Bool, List, [], ap, append-nil}
use Rattle.std.proofs.Common.{arith, false, inl, inr, refl, subst, sym, true, ℕ}
use Rattle.std.proofs.lemmas.Bool.{cases_Bool, eqb-true, ne_eqb}
use Rattle.std.proofs.lemmas.List.Elements.{All-head, All-tail}
use Rattle.std.specs.List.{list_any}
use Rattle.std.specs.Prelude.{◌==◌, ◌||◌, All, flat_map, nat_eq}
use Rattle.queue_core.specs.declared.event.Event.{Event}
use Rattle.queue_core.specs.declared.event.Event.TheVariants.{Arrive, Ask, DeviceDown, PortClosed}
use Rattle.histories.specs.declared.entry.Entry.{Entry}
use Rattle.histories.specs.Places.{place_for}
use Rattle.inspector_script.specs.Scripts.{IsScript, ScriptValue}
use Rattle.run_parts.specs.Closing.{is_by}
use Rattle.run_parts.specs.Feeder.{IsNoDown, times_of_event}
use Rattle.run_parts.specs.Log.{Note}
use Rattle.run_parts.specs.Ports.{is_port}
use Rattle.run_parts.specs.Requests.{pleas_told}
use Rattle.live_runs.specs.ClosedPlanes.{AreOwned, IsCovered}
use Rattle.live_runs.specs.Meetings.{ArePorts}
use Rattle.live_runs.specs.Owners.{IsEven, IsEventOf, IsFeeders, IsFeedersEvent, IsNotBy, IsOf}
use Rattle.live_runs.specs.Passes.{Pass, feeder_number, is_pass, seen_at}
use Rattle.live_runs.specs.Seen.{OursAre, entries}
use Rattle.live_runs.specs.Stands.{Stand}
use Rattle.live_runs.proofs.OwnInWhole.{nobody_asks, whole_even}
use Rattle.live_runs.proofs.Marks.{ours_as}
use Rattle.live_runs.proofs.RequestCounts.{pleas}

pub not_by_event : (p q : ℕ) (event : Event) → p ≢ q → IsEventOf q event → is_by p event ≡ false
not_by_event p q (Arrive card bypass room) differ is = refl
not_by_event p q (Ask asking call r) differ is =
    ne_eqb p asking (λ same. differ (same ∙ is.0))
not_by_event p q (PortClosed closed) differ is = ne_eqb p closed (λ same. differ (same ∙ is))
not_by_event p q (DeviceDown device) differ is = absurd is

pub feeders_not_by : (p : ℕ) (event : Event) → IsFeedersEvent event → is_by p event ≡ false
feeders_not_by p (Arrive card bypass room) is = refl
feeders_not_by p (Ask asking call r) is = absurd is
feeders_not_by p (PortClosed closed) is = absurd is
feeders_not_by p (DeviceDown device) is = refl

pub ports_not_fed : (p : ℕ) (event : Event) → IsEventOf p event →
    IsNoDown event × (times_of_event event ≡ [])
ports_not_fed p (Arrive card bypass room) later =
    (tt, rw (ne_eqb card.visit 1 (λ same. absurd (omega (arith, same, later)))) refl)
ports_not_fed p (Ask asking call r) is = (tt, refl)
ports_not_fed p (PortClosed closed) is = (tt, refl)
ports_not_fed p (DeviceDown device) is = absurd is

-- ---- passes by number

pub port_passes : (script : ScriptValue) (p : ℕ) → is_port script p ≡ true →
    is_pass script.ports p ≡ true
port_passes script p i = by (p == 0)
  where
    by : (c : Bool) → (c || is_port script p) ≡ true
    by true = refl
    by false = i

pub other_passes : (script : ScriptValue) (p : ℕ) → is_pass script.ports p ≡ true →
    (p == 0) ≡ false → is_port script p ≡ true
other_passes script p passes_so not_it = by (p == 0) not_it passes_so
  where
    by : (c : Bool) → c ≡ false → (c || is_port script p) ≡ true → is_port script p ≡ true
    by true wrong is = absurd (cc)
    by false none is = is

pub no_port_zero : (script : ScriptValue) → IsScript script →
    is_port script feeder_number ≡ false
no_port_zero script is = none script.ports is.port_numbers
  where
    none : (ps : List ℕ) → All (λ port. 1 ≤ port) ps → list_any (nat_eq 0) ps ≡ false
    none [] are = refl
    none (p ∷ ps) are =
        let least = All-head (λ (port : ℕ). 1 ≤ port) p ps are in
        rw (ne_eqb 0 p (λ same. absurd (omega (arith, same, least))))
        (none ps (All-tail (λ (port : ℕ). 1 ≤ port) p ps are))

-- the number of a pass is the feeder's, or that of a port
pub pass_cases : (script : ScriptValue) (p : ℕ) → is_pass script.ports p ≡ true →
    (p ≡ feeder_number) ⊎ (is_port script p ≡ true)
pass_cases script p is = by (cases_Bool (p == 0))
  where
    by : ((p == 0) ≡ true) ⊎ ((p == 0) ≡ false) →
        (p ≡ feeder_number) ⊎ (is_port script p ≡ true)
    by (inl h) = inl (eqb-true p 0 h)
    by (inr h) = inr (other_passes script p is h)

module _ (workers : ℕ) (script : ScriptValue) (places : ℕ) (passes : ℕ → Pass)
    (notes : ℕ → List Note) (stands : ℕ → Stand)
    (are : ArePorts workers script places passes notes stands) where
  pub own_of : (Q : Entry → Type 0) (k p : ℕ) → is_pass script.ports p ≡ true →
      ((e : Entry) → IsFeeders e → Q e) →
      ((e : Entry) → is_port script p ≡ true → IsOf p e → Q e) → OursAre Q (seen_at passes k p)
  own_of Q k p passes_so fed port = by (pass_cases script p passes_so)
    where
      by : (p ≡ feeder_number) ⊎ (is_port script p ≡ true) → OursAre Q (seen_at passes k p)
      by (inl same) = subst (λ q. OursAre Q (seen_at passes k q)) (sym same)
          (ours_as IsFeeders Q fed (seen_at passes k feeder_number) (are.feeders k))
      by (inr is) = ours_as (IsOf p) Q (λ e own. port e is own) (seen_at passes k p)
          (are.ours p is k)

  -- another pass's own is none of a port's
  pub others_own : (port k p : ℕ) → is_pass script.ports p ≡ true → p ≢ port →
      OursAre (IsNotBy port) (seen_at passes k p)
  others_own port k p passes_so other = own_of (IsNotBy port) k p passes_so
      (λ e fed. feeders_not_by port e.event fed)
      (λ e i own. not_by_event port p e.event (λ same. other (sym same)) own)

  -- nobody asks for a number that is no port's
  pub nobody_own : (port k p : ℕ) → is_pass script.ports p ≡ true → is_port script port ≡ false →
      OursAre (IsNotBy port) (seen_at passes k p)
  nobody_own port k p passes_so out = own_of (IsNotBy port) k p passes_so
      (λ e fed. feeders_not_by port e.event fed)
      (λ e i own. not_by_event port p e.event (λ same. wrong i same) own)
    where
      wrong : is_port script p ≡ true → port ≡ p → ⊥
      wrong i same =
          let no_way : true ≡ false = sym i ∙ ap (is_port script) (sym same) ∙ out in
          absurd (cc)

  -- a port's requests are even, where each entry of a list is some pass's own
  pub covered_even : (port queue k : ℕ) (whole : List Entry) → place_for queue places ≡ k →
      IsCovered (is_pass script.ports) (seen_at passes k) whole →
      pleas port queue whole ≡ flat_map (pleas_told queue) (notes port)
  covered_even port queue k whole at c = by (cases_Bool (is_port script port))
    where
      by : (is_port script port ≡ true) ⊎ (is_port script port ≡ false) →
          pleas port queue whole ≡ flat_map (pleas_told queue) (notes port)
      by (inl i) = whole_even (is_pass script.ports) (seen_at passes k) whole c port queue port
          (notes port) (port_passes script port i)
          (λ p passes_so other. others_own port k p passes_so other)
          (subst (λ j. IsEven port queue (seen_at passes j port) (notes port)) at
          ((are.ports port i).even.each queue))
      by (inr out) = nobody_asks (is_pass script.ports) (seen_at passes k) whole c port queue
          (λ p passes_so. nobody_own port k p passes_so out)
          ∙ ap (flat_map (pleas_told queue)) (sym (are.others port out))

  -- where all have seen the same, it is covered
  pub cover : (k : ℕ) (whole : List Entry) →
      ((p : ℕ) → is_pass script.ports p ≡ true → entries (seen_at passes k p) ≡ whole) →
      AreOwned (is_pass script.ports) (seen_at passes k) whole →
      IsCovered (is_pass script.ports) (seen_at passes k) whole
  cover k whole met owned = record {
    rest = λ p. [];
    begins = λ p is. sym (append-nil (entries (seen_at passes k p)) ∙ met p is);
    owned = owned;
  }
