-- The ports of a journal's logs, as they come.
use Rattle.std.proofs.Common.{◌≡◌, ℕ, Bool, true, false, cond, ◌||◌, eqb, List, [], ◌∷◌, ◌++◌}
use Rattle.std.proofs.Common.{Option, Some, None, ◌∙◌, refl, sym, ap, subst, eq-eqb}
use Rattle.std.specs.Prelude.{option_to_list}
use Rattle.std.specs.List.{list_any}
use Rattle.std.specs.Ordering.{nat_cmp, is_eq}
use Rattle.std.specs.declared.cmp.Ordering.{Ordering}
use Rattle.std.specs.declared.cmp.Ordering.TheVariants.{Less, Equal, Greater}
use Rattle.std.proofs.lemmas.Map.Lookups.{exact_unsigned}
use Rattle.std.specs.BTreeMap.{is_at}
use Rattle.std.specs.Cmp.{nat_cmp_is}
use Rattle.std.proofs.lemmas.Bool.{eqb-true, false_from_ne_true, false≢true}
use Rattle.std.proofs.lemmas.Option.{none-some, same_Some}
use Rattle.std.proofs.lemmas.List.Folds.{list_any-append}
use Rattle.histories.specs.declared.log.Did.{Did}
use Rattle.histories.specs.declared.log.PortLog.{PortLog}
use Rattle.journal_reading.specs.JournalFile.{is_port, put}

equal : (o : Ordering) → is_eq o ≡ true → o ≡ Equal
equal Less h = absurd (cc)
equal Equal h = refl
equal Greater h = absurd (cc)

at_is : (k q : ℕ) → is_at (nat_cmp k) q ≡ eqb k q
at_is k q =
    elim (is_at (nat_cmp k) q) as (λ b. is_at (nat_cmp k) q ≡ b → b ≡ eqb k q) [
      | true ↦ λ h. sym (eq-eqb k q (exact_unsigned k q (equal (nat_cmp k q) h)))
      | false ↦ λ h. sym (false_from_ne_true (eqb k q) (λ same.
          let at : is_at (nat_cmp k) q ≡ true =
          subst (λ n. is_at (nat_cmp k) n ≡ true) (eqb-true k q same)
          (ap is_eq (sym (nat_cmp_is k k Equal refl))) in
          false≢true (sym h ∙ at)))
    ] refl

or_cond : (a b : Bool) → (a || (b || false)) ≡ cond b true a
or_cond true true = refl
or_cond true false = refl
or_cond false true = refl
or_cond false false = refl

-- the ports with a new one, as a set with it has them
pub added : (port q : ℕ) (logs : List PortLog) (known new : Bool) →
    known ≡ list_any (is_port q) logs → new ≡ cond (is_at (nat_cmp port) q) true known →
    new ≡ list_any (is_port q) (logs ++ record { port = port; dids = [] } ∷ [])
added port q logs known new e f =
    f ∙ ap (λ b. cond b true known) (at_is port q)
    ∙ sym (or_cond known (eqb port q)) ∙ ap (λ b. b || (eqb port q || false)) e
    ∙ sym (list_any-append (is_port q) logs (record { port = port; dids = [] } ∷ []))

-- what a port did changes no port
pub same : (q : ℕ) (logs : List PortLog) (old new : Option PortLog) (d : Did) →
    put old d ≡ Some new →
    list_any (is_port q) (logs ++ option_to_list new)
    ≡ list_any (is_port q) (logs ++ option_to_list old)
same q logs None new d e = absurd (none-some new e)
same q logs (Some l) new d e =
    subst (λ (o : Option PortLog). list_any (is_port q) (logs ++ option_to_list o)
    ≡ list_any (is_port q) (logs ++ l ∷ [])) (same_Some _ new e)
    (list_any-append (is_port q) logs (record { port = l.port; dids = l.dids ++ d ∷ [] } ∷ [])
    ∙ sym (list_any-append (is_port q) logs (l ∷ [])))
