-- A plane that opens: its passes have seen nothing, and are timely at time 0.
use Rattle.std.proofs.Common.{◌≡◌, ℕ, zero, suc, List, [], ◌∷◌, refl, sym, ap, subst, ◌∙◌, true}
use Rattle.std.proofs.Common.{inl, inr}
use Rattle.std.specs.Prelude.{slice_get, Option, Some, nat_eq}
use Rattle.std.specs.List.{list_any}
use Rattle.std.proofs.lemmas.Bool.{cases_Bool, eq-eqb}
use Rattle.mailbox.specs.Roles.{In}
use Rattle.histories.specs.declared.entry.Entry.{Entry}
use Rattle.total_order.specs.Orders.{untimed}
use Rattle.place_rows.specs.Lists.{Every}
use Rattle.place_rows.specs.Rows.{TimedKnown, known_of}
use Rattle.place_turns.specs.Timely.{AreTimelyOpen, Holder}
use Rattle.plane.specs.Opening.{IsUnused}
use Rattle.plane.proofs.RowSplits.{some_same}

-- passes that have seen nothing are timely
abbrev pub BeginsTimely : Type 0
BeginsTimely = (row : List TimedKnown) (port : Option ℕ) →
    ((k : ℕ) (v : TimedKnown) → slice_get row k ≡ Some v → (v.seen ≡ []) × (v.own ≡ [])) →
    AreTimelyOpen 0 row (record { port = port; dids = []; heard = [] })

-- nothing with times, where there is nothing without
none_seen : (xs : List (Entry × ℕ)) → untimed xs ≡ [] → xs ≡ []
none_seen [] none = refl
none_seen (x ∷ xs) none = absurd (cc none)

-- a row that has seen nothing without times has seen nothing with them
timed_unused : (row : List TimedKnown) → Every IsUnused (known_of row) → (k : ℕ)
    (v : TimedKnown) → slice_get row k ≡ Some v → (v.seen ≡ []) × (v.own ≡ [])
timed_unused [] all k v at = absurd (cc at)
timed_unused (u ∷ row) all zero v at =
    subst (λ (w : TimedKnown). (w.seen ≡ []) × (w.own ≡ [])) (some_same u v at)
    (none_seen u.seen all.0.seen, all.0.own)
timed_unused (u ∷ row) all (suc k) v at = timed_unused row all.1 k v at

-- passes of a row that has seen nothing, whoever has them
pub first_timely : BeginsTimely → (clock : ℕ) (timed row : List TimedKnown) (h : Holder) →
    (clock ≡ 0) × (timed ≡ row) → h.dids ≡ [] → h.heard ≡ [] → Every IsUnused (known_of row) →
    AreTimelyOpen clock timed h
first_timely begins clock timed row h is none nothing unused =
    subst (λ n. AreTimelyOpen n timed h) (sym is.0)
    (subst (λ (l : List TimedKnown). AreTimelyOpen 0 l h) (sym is.1)
    (subst (λ (g : Holder). AreTimelyOpen 0 row g)
    (ap (λ ds. record { port = h.port; dids = ds; heard = [] }) (sym none)
    ∙ ap (λ ps. record { port = h.port; dids = h.dids; heard = ps }) (sym nothing))
    (begins row h.port (timed_unused row unused))))

-- a port that is in a list is found there
pub found_in : (port : ℕ) (ports : List ℕ) → In port ports → list_any (nat_eq port) ports ≡ true
found_in port [] is = absurd is
found_in port (q ∷ ports) (inl same) = rw (eq-eqb port q same) refl
found_in port (q ∷ ports) (inr is) =
    elim (cases_Bool (nat_eq port q)) [
      | inl same ↦ rw same refl
      | inr other ↦ rw other (found_in port ports is)
    ]
