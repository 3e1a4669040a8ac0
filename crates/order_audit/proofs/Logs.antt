-- Logs and the cursors in them.
use Rattle.std.proofs.Common.{◌≡◌, ◌≤◌, ℕ, zero, suc, ◌+◌, List, [], ◌∷◌, drop, refl, sym, ap}
use Rattle.std.proofs.Common.{subst, ◌∙◌, Some, None, Option, true, false, arith, Bool, length}
use Rattle.std.specs.Prelude.{slice_get, ◌==◌, if◌then◌else◌, unwrap_or}
use Rattle.std.specs.BTreeMap.{get}
use Rattle.std.specs.Ordering.{nat_cmp}
use Rattle.std.proofs.lemmas.Bool.{eq-eqb, eqb-true}
use Rattle.histories.specs.declared.log.PortLog.{PortLog}
use Rattle.total_order.specs.Steps.{log_of}
use Rattle.order_audit.specs.declared.cursors.Cursor.{Cursor}
use Rattle.order_audit.specs.Cursors.{CursorMap, Ascend, dids_at, dids_in, at_in, IsCursor, AreNew}
use Rattle.order_audit.specs.Cursors.{KeepsFirst}
use Rattle.histories.specs.NumberKeys.{each_number, not_of}

-- ---- cursors as logs are gone over

-- of a port without a cursor no log came so far
abbrev IsCursorSoFar : List PortLog → ℕ → ℕ → Option Cursor → Type 0
IsCursorSoFar logs place port None = log_of port logs ≡ log_of port (drop place logs)
IsCursorSoFar logs place port (Some c) = IsCursor logs port (Some c) × (c.at ≡ 0)

-- so it is of each port
abbrev pub AreCursorsSoFar : List PortLog → ℕ → CursorMap → Type 0
AreCursorsSoFar logs place cursors =
    (port : ℕ) → IsCursorSoFar logs place port (get nat_cmp cursors port)

-- there is no cursor at first
pub no_cursor_yet : (logs : List PortLog) (cursors : CursorMap) →
    ((q : ℕ) → get nat_cmp cursors q ≡ None) → AreCursorsSoFar logs 0 cursors
no_cursor_yet logs cursors none port =
    subst (λ o. IsCursorSoFar logs 0 port o) (sym (none port)) refl

drop_there : (logs : List PortLog) (place : ℕ) (log : PortLog) → slice_get logs place ≡ Some log →
    drop place logs ≡ log ∷ drop (suc place) logs
drop_there [] place log there = absurd (cc there)
drop_there (l ∷ logs) zero log there = let same : l ≡ log = (cc there) in ap (λ x. x ∷ logs) same
drop_there (l ∷ logs) (suc place) log there = drop_there logs place log there

-- a log more is gone over
pub cursors_on : (logs : List PortLog) (place next : ℕ) (log : PortLog) (old new : CursorMap) →
    slice_get logs place ≡ Some log → next ≡ place + 1 → Ascend 0 log.dids →
    AreCursorsSoFar logs place old →
    KeepsFirst old new log.port (record { log = place; at = 0 }) → AreCursorsSoFar logs next new
cursors_on logs place next log old new there count ascends are keeps =
    let one : next ≡ suc place = omega arith in
    subst (λ n. AreCursorsSoFar logs n new) (sym one)
    (each_number (λ p. IsCursorSoFar logs (suc place) p (get nat_cmp new p)) log.port
    (subst (λ o. IsCursorSoFar logs (suc place) log.port o) (sym keeps.own)
    (own (get nat_cmp old log.port) (are log.port)))
    (λ p other. subst (λ o. IsCursorSoFar logs (suc place) p o) (sym (keeps.others p other))
    (apart p (not_of log.port p other) (get nat_cmp old p) (are p))))
  where
    whole : dids_at logs place ≡ log.dids
    whole = ap dids_in there

    first : (p : ℕ) → log_of p (drop place logs)
        ≡ (if p == log.port then log.dids else log_of p (drop (suc place) logs))
    first p = ap (λ ls. log_of p ls) (drop_there logs place log there)

    own : (o : Option Cursor) → IsCursorSoFar logs place log.port o →
        IsCursorSoFar logs (suc place) log.port
        (Some (unwrap_or o (record { log = place; at = 0 })))
    own None is = (
      (
        whole ∙ sym (is ∙ first log.port
            ∙ ap (λ b. if b then log.dids else log_of log.port (drop (suc place) logs))
            (eq-eqb log.port log.port refl)),
        subst (Ascend 0) (sym whole) ascends,
      ),
      refl,
    )
    own (Some c) is = is

    apart : (p : ℕ) → (log.port == p) ≡ false → (o : Option Cursor) →
        IsCursorSoFar logs place p o → IsCursorSoFar logs (suc place) p o
    apart p other None is = is ∙ first p
        ∙ ap (λ b. if b then log.dids else log_of p (drop (suc place) logs))
        (turned (p == log.port) refl)
      where
        turned : (b : Bool) → (p == log.port) ≡ b → b ≡ false
        turned true e = absurd (wrong (eq-eqb log.port p (sym (eqb-true p log.port e))))
          where
            wrong : (log.port == p) ≡ true → ⊥
            wrong t = let no : true ≡ false = sym t ∙ other in cc
        turned false e = refl
    apart p other (Some c) is = is

-- all are gone over
pub all_cursors : (logs : List PortLog) (place : ℕ) (cursors : CursorMap) → length logs ≤ place →
    AreCursorsSoFar logs place cursors → AreNew logs cursors
all_cursors logs place cursors past are = record {
  cursors_are = λ p. by p (get nat_cmp cursors p) (are p);
  begun = λ p. begun p (get nat_cmp cursors p) (are p);
}
  where
    none : (ls : List PortLog) (n : ℕ) → length ls ≤ n → drop n ls ≡ []
    none [] n le = none_dropped n
      where
        none_dropped : (m : ℕ) → drop m (let xs : List PortLog = [] in xs) ≡ []
        none_dropped zero = refl
        none_dropped (suc m) = refl
    none (l ∷ ls) zero le = absurd (omega arith)
    none (l ∷ ls) (suc n) le = none ls n (omega arith)

    by : (p : ℕ) (o : Option Cursor) → IsCursorSoFar logs place p o → IsCursor logs p o
    by p None is = is ∙ ap (λ ls. log_of p ls) (none logs place past)
    by p (Some c) is = is.0

    begun : (p : ℕ) (o : Option Cursor) → IsCursorSoFar logs place p o → at_in o ≡ 0
    begun p None is = refl
    begun p (Some c) is = is.1
