-- Rows that are dealt from the logs of all ports.
use Rattle.std.proofs.Common.{◌≡◌, ◌+◌, ℕ, List, [], ◌∷◌, ◌++◌, None, Bool, true}
use Rattle.std.proofs.Common.{false, refl, sym, ap, ◌∙◌, subst, cond, append_assoc}
use Rattle.std.proofs.Common.{append-nil}
use Rattle.std.proofs.Common.{take, drop, take-append-drop, true≢false}
use Rattle.std.specs.Prelude.{◌≢◌, ◌==◌, nat_eq, ◌||◌, AllPairs}
use Rattle.std.specs.Bool.{Decides}
use Rattle.std.specs.List.{list_any, IsDistinct, AllByRecursion}
use Rattle.std.specs.BTreeMap.{get}
use Rattle.std.proofs.lemmas.Bool.{eq-eqb, eqb-true, ne_eqb}
use Rattle.std.proofs.lemmas.List.Folds.{list_any-append}
use Rattle.std.proofs.lemmas.Map.Made.{IsDistinct-from_AllPairs}
use Rattle.port_audit.specs.declared.dealing.Side.{Side}
use Rattle.port_audit.specs.Dealing.{RowMap, AreKept, GrowsBy, AreDealt}
use Rattle.port_audit.specs.Dealing.{side}
use Rattle.port_audit.specs.Dealing.{side_cmp, row_in, IsKept}

decides : (a b : ℕ) → Decides (nat_eq a b) (a ≡ b)
decides a b = (eqb-true a b, eq-eqb a b)

none_before : (done rest : List ℕ) (p : ℕ) → IsDistinct nat_eq (done ++ p ∷ rest) →
    list_any (nat_eq p) done ≡ false
unfolding IsDistinct
none_before [] rest p distinct = refl
none_before (d ∷ done) rest p distinct =
    ap (λ b. b || list_any (nat_eq p) done) (ne_eqb p d (λ same. true≢false
    (sym (eq-eqb d p (sym same)) ∙ at (λ y. nat_eq d y ≡ false) done distinct.0)))
    ∙ none_before done rest p distinct.1
  where
    at : (P : ℕ → Type 0) (xs : List ℕ) → AllByRecursion P (xs ++ p ∷ rest) → P p
    at P [] all = all.0
    at P (x ∷ xs) all = at P xs all.1

module _ {T : Type 0} (told : ℕ → ℕ → List T) where
  pub none_dealt : (rows : RowMap T) → ((s : Side) → get side_cmp rows s ≡ None) →
      AreDealt [] told rows
  none_dealt rows none = record {
    are = λ p queue. ap row_in (none (side p queue));
    kept = λ s. subst IsKept (sym (none s)) tt;
  }

  one_more : (done : List ℕ) (port p queue : ℕ) (b c : Bool) → (p == port) ≡ b →
      list_any (nat_eq p) done ≡ c → (b ≡ true → c ≡ false) →
      cond c (told p queue) [] ++ cond b (told port queue) []
      ≡ cond (c || (b || false)) (told p queue) []
  one_more done port p queue true true same here apart =
      absurd (true≢false (apart refl))
  one_more done port p queue true false same here apart =
      ap (λ q. told q queue) (sym (eqb-true p port same))
  one_more done port p queue false true same here apart = append-nil (told p queue)
  one_more done port p queue false false same here apart = refl

  pub dealt_on : (done : List ℕ) (port : ℕ) (old new : RowMap T) →
      list_any (nat_eq port) done ≡ false → AreDealt done told old →
      GrowsBy port (told port) old new → (AreKept old → AreKept new) →
      AreDealt (done ++ port ∷ []) told new
  dealt_on done port old new apart dealt grows kept = record {
    are = λ p queue.
        grows p queue
        ∙ ap (λ xs. xs ++ cond (p == port) (told port queue) []) (dealt.are p queue)
        ∙ one_more done port p queue (p == port) (list_any (nat_eq p) done) refl refl
        (λ same. subst (λ q. list_any (nat_eq q) done ≡ false) (sym (eqb-true p port same)) apart)
        ∙ ap (λ b. cond b (told p queue) [])
        (sym (list_any-append (nat_eq p) done (port ∷ [])));
    kept = kept dealt.kept;
  }

  -- in the order of ports that differ
  pub dealt_next : (ports : List ℕ) (at port : ℕ) (old new : RowMap T) →
      AllPairs (λ p q. p ≢ q) ports → take (at + 1) ports ≡ take at ports ++ port ∷ [] →
      AreDealt (take at ports) told old → GrowsBy port (told port) old new →
      (AreKept old → AreKept new) → AreDealt (take (at + 1) ports) told new
  dealt_next ports at port old new differ next dealt grows kept =
      subst (λ ps. AreDealt ps told new) (sym next)
      (dealt_on (take at ports) port old new
      (none_before (take at ports) (drop (at + 1) ports) port
      (subst (IsDistinct nat_eq) (sym split) (IsDistinct-from_AllPairs decides ports differ)))
      dealt grows kept)
    where
      split : take at ports ++ port ∷ drop (at + 1) ports ≡ ports
      split =
          sym (append_assoc (take at ports) (port ∷ []) (drop (at + 1) ports))
          ∙ ap (λ ps. ps ++ drop (at + 1) ports) (sym next)
          ∙ take-append-drop (at + 1) ports
