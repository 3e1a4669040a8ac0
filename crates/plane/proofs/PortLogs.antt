-- The logs of the ports of a plane, each of which is there once.
use Rattle.std.proofs.Common.{◌≡◌, ◌<◌, ◌≤◌, ◌+◌, ℕ, zero, suc, List, [], ◌∷◌, refl, sym}
use Rattle.std.proofs.Common.{ap, subst, ◌∙◌, arith, inl, inr, true, false}
use Rattle.std.specs.Prelude.{slice_get, Option, Some, map, IsSome, nat_eq}
use Rattle.std.specs.Prelude.{if◌then◌else◌, ◌==◌}
use Rattle.std.specs.List.{list_any}
use Rattle.std.proofs.lemmas.Bool.{cases_Bool, eqb-true, eq-eqb}
use Rattle.std.proofs.lemmas.List.Sums.{sum_by-cons}
use Rattle.histories.specs.declared.log.PortLog.{PortLog}
use Rattle.total_order.specs.Steps.{log_of}
use Rattle.mailbox.specs.Views.{MailboxView}
use Rattle.place_rows.specs.declared.ending.PortReceiver.{PortReceiver}
use Rattle.place_rows.specs.Lists.{Every}
use Rattle.plane.specs.declared.plane.Plane.{Plane}
use Rattle.plane.specs.Closings.{dids_among, log_among, receiver_of}
use Rattle.plane.specs.Passes.{IsPortOf, PortView}
use Rattle.plane.specs.Planes.{order_of}
use Rattle.plane.specs.Remaining.{times_in}
use Rattle.plane.proofs.RowSplits.{every_get, some_same}

-- ---- ports, each once

-- 1 for this port, and 0 for others
abbrev count : ℕ → PortView → ℕ
count port p = if nat_eq p.port port then 1 else 0

is_counted : (port : ℕ) (p : PortView) → p.port ≡ port →
    count port p ≡ 1
is_counted port p same = rw (eq-eqb p.port port same) refl

-- one port more
times_more : (port : ℕ) (p : PortView) (ps : List PortView) →
    times_in port (p ∷ ps) ≡ count port p + times_in port ps
times_more port p ps =
    sum_by-cons (λ (r : PortReceiver). if nat_eq r.port port then 1 else 0) (receiver_of p)
    (map receiver_of ps)

-- a port that is among these is counted
some_times : (ps : List PortView) (n : ℕ) (p : PortView) (port : ℕ) → slice_get ps n ≡ Some p →
    p.port ≡ port → 0 < times_in port ps
some_times [] n p port there same = absurd (cc there)
some_times (q ∷ ps) zero p port there same =
    let one = is_counted port q (ap (λ (x : PortView). x.port) (some_same q p there) ∙ same) in
    omega (arith, one, times_more port q ps)
some_times (q ∷ ps) (suc n) p port there same =
    let more = some_times ps n p port there same in
    omega (arith, more, times_more port q ps)

-- of ports, each of which is there once at most, so are all but the first
once_below : (p : PortView) (ps : List PortView) → ((port : ℕ) → times_in port (p ∷ ps) ≤ 1) →
    (port : ℕ) → times_in port ps ≤ 1
once_below p ps once port =
    let most = once port in
    omega (arith, most, times_more port p ps)

-- the same port is at one place
pub one_place : (ps : List PortView) → ((port : ℕ) → times_in port ps ≤ 1) → (n m : ℕ)
    (p q : PortView) → slice_get ps n ≡ Some p → slice_get ps m ≡ Some q → p.port ≡ q.port →
    n ≡ m
one_place [] once n m p q there here same = absurd (cc there)
one_place (x ∷ ps) once zero zero p q there here same = refl
one_place (x ∷ ps) once zero (suc m) p q there here same =
    let one = is_counted q.port x (ap (λ (y : PortView). y.port) (some_same x p there) ∙ same) in
    let more = some_times ps m q q.port here refl in
    let most = once q.port in
    absurd (omega (arith, one, more, most, times_more q.port x ps))
one_place (x ∷ ps) once (suc n) zero p q there here same =
    let one =
    is_counted p.port x (ap (λ (y : PortView). y.port) (some_same x q here) ∙ sym same) in
    let more = some_times ps n p p.port there refl in
    let most = once p.port in
    absurd (omega (arith, one, more, most, times_more p.port x ps))
one_place (x ∷ ps) once (suc n) (suc m) p q there here same =
    ap suc (one_place ps (once_below x ps once) n m p q there here same)

-- ---- their logs

-- the log of a port is that of the first with its number
dids_here : (ps : List PortView) → ((port : ℕ) → times_in port ps ≤ 1) → (n : ℕ)
    (p : PortView) → slice_get ps n ≡ Some p → dids_among ps p.port ≡ p.dids
dids_here [] once n p there = absurd (cc there)
dids_here (x ∷ ps) once zero p there =
    let same : x ≡ p = some_same x p there in
    rw (eq-eqb x.port p.port (ap (λ (y : PortView). y.port) same))
    (ap (λ (y : PortView). y.dids) same)
dids_here (x ∷ ps) once (suc n) p there =
    elim (cases_Bool (x.port == p.port)) [
      | inl same ↦ (
          let one = is_counted p.port x (eqb-true x.port p.port same) in
          let more = some_times ps n p p.port there refl in
          let most = once p.port in
          absurd (omega (arith, one, more, most, times_more p.port x ps)))
      | inr other ↦ rw other (dids_here ps (once_below x ps once) n p there)
    ]

-- the logs of ports in an order have the log of each of them
log_in_order : (ps : List PortView) (port : ℕ) (order : List ℕ) →
    list_any (nat_eq port) order ≡ true →
    log_of port (map (log_among ps) order) ≡ dids_among ps port
log_in_order ps port [] is = absurd (cc is)
log_in_order ps port (q ∷ order) is =
    elim (cases_Bool (port == q)) [
      | inl same ↦ rw same (ap (dids_among ps) (sym (eqb-true port q same)))
      | inr other ↦ rw other (log_in_order ps port order (still other))
    ]
  where
    still : (port == q) ≡ false → list_any (nat_eq port) order ≡ true
    still other = rw other at is

-- what holds at each number holds of each
every_at : {A : Type 0} (P : A → Type 0) (xs : List A) →
    ((n : ℕ) (x : A) → slice_get xs n ≡ Some x → P x) → Every P xs
every_at P [] all = tt
every_at P (x ∷ xs) all = (all zero x refl, every_at P xs (λ n y there. all (suc n) y there))

-- each port of a plane has its log among those in the plane's order
pub all_logged : (plane : Plane) (ps : List PortView) (logs : List PortLog) →
    logs ≡ map (log_among ps) (order_of plane) → Every (IsPortOf plane) ps →
    ((port : ℕ) → times_in port ps ≤ 1) →
    Every (λ (p : PortView). log_of p.port logs ≡ p.dids) ps
all_logged plane ps logs are all once =
    every_at (λ (p : PortView). log_of p.port logs ≡ p.dids) ps
    (λ n p there.
    let is = every_get (IsPortOf plane) ps n p all there in
    ap (log_of p.port) are
    ∙ log_in_order ps p.port (order_of plane)
    (plane.listed p.port (subst (λ (o : Option MailboxView). IsSome o) (sym is.mailbox) refl))
    ∙ dids_here ps once n p there)
