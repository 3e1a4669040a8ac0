-- Each log of histories that a script made is what is told of its port.
use Rattle.std.proofs.Common.{◌≡◌, ◌≢◌, ◌∙◌, ◌⊎◌, ℕ, List, [], ◌∷◌, Some, Bool}
use Rattle.std.proofs.Common.{true, false, refl, sym, ap, subst, inl, inr}
use Rattle.std.specs.Prelude.{◌==◌, ◌||◌, nat_eq, map, flat_map, All, AllPairs}
use Rattle.std.specs.List.{list_any, AllByRecursion}
use Rattle.std.proofs.lemmas.Bool.{cases_Bool, eq-eqb, ne_eqb}
use Rattle.std.proofs.lemmas.List.Elements.{All-from_recursion}
use Rattle.packet_entry.specs.declared.letter.Letter.{Letter}
use Rattle.histories.specs.declared.log.Did.{Did}
use Rattle.histories.specs.declared.log.Did.TheVariants.{Received, Sent, Closed}
use Rattle.histories.specs.declared.log.PortLog.{PortLog}
use Rattle.histories.specs.declared.histories.Histories.{Histories}
use Rattle.inspector_script.specs.Scripts.{ScriptValue}
use Rattle.run_parts.specs.Ports.{is_port, log_of}
use Rattle.run_parts.specs.Log.{Note, logged, unanswered}
use Rattle.run_parts.specs.Requests.{answer_in}
use Rattle.run_parts.specs.Run.{IsMadeBy, IsTold}
use Rattle.run_parts.specs.Ports.{AreApart}
use Rattle.run_parts.proofs.PortPlaces.{apart_so}

-- what is logged is known by what is logged but for the answers, and by these
same_dids : (xs ys : List Did) → map unanswered xs ≡ map unanswered ys →
    flat_map answer_in xs ≡ flat_map answer_in ys → xs ≡ ys
same_dids [] [] same answers = refl
same_dids [] (y ∷ ys) wrong answers = absurd (cc)
same_dids (x ∷ xs) [] wrong answers = absurd (cc)
same_dids (Received q n v ∷ xs) (Received r m w ∷ ys) same answers =
    let rest = same_dids xs ys (let s = same in cc) answers in
    let one : Received q n v ≡ Received r m w = let s = same in cc in
    cc
same_dids (Received q n v ∷ xs) (Sent c a o ∷ ys) wrong answers = absurd (cc)
same_dids (Received q n v ∷ xs) (Closed ∷ ys) wrong answers = absurd (cc)
same_dids (Sent c a o ∷ xs) (Received q n v ∷ ys) wrong answers = absurd (cc)
same_dids (Sent c a o ∷ xs) (Sent d b p ∷ ys) same answers =
    let rest = same_dids xs ys (let s = same in cc) (let s = answers in cc) in
    let call : c ≡ d = let s = same in cc in
    let ask : a ≡ b = let s = same in cc in
    let answer : o ≡ p = let s = answers in cc in
    cc
same_dids (Sent c a o ∷ xs) (Closed ∷ ys) wrong answers = absurd (cc)
same_dids (Closed ∷ xs) (Received q n v ∷ ys) wrong answers = absurd (cc)
same_dids (Closed ∷ xs) (Sent c a o ∷ ys) wrong answers = absurd (cc)
same_dids (Closed ∷ xs) (Closed ∷ ys) same answers =
    let rest = same_dids xs ys (let s = same in cc) answers in cc

abbrev port_of : PortLog → ℕ
port_of l = l.port

-- a log behind another port's is found as before
found_later : (x : PortLog) (ls all : List PortLog) →
    list_any (nat_eq x.port) (map port_of all) ≡ false →
    AllByRecursion (λ l. log_of l.port ls ≡ Some l.dids) all →
    AllByRecursion (λ l. log_of l.port (x ∷ ls) ≡ Some l.dids) all
found_later x ls [] apart found = tt
found_later x ls (l ∷ all) apart found =
    by (cases_Bool (nat_eq x.port l.port)) (λ out. found_later x ls all out found.1)
  where
    by : (nat_eq x.port l.port ≡ true) ⊎ (nat_eq x.port l.port ≡ false) →
        (list_any (nat_eq x.port) (map port_of all) ≡ false →
        AllByRecursion (λ l. log_of l.port (x ∷ ls) ≡ Some l.dids) all) →
        AllByRecursion (λ l. log_of l.port (x ∷ ls) ≡ Some l.dids) (l ∷ all)
    by (inl h) on =
        let holds : list_any (nat_eq x.port) (map port_of (l ∷ all)) ≡ true = rw h refl in
        let wrong : true ≡ false = sym holds ∙ apart in
        absurd (cc)
    by (inr h) on =
        let other : (l.port == x.port) ≡ false =
        ne_eqb l.port x.port (λ same.
        let holds : nat_eq x.port l.port ≡ true = eq-eqb x.port l.port (sym same) in
        let no : true ≡ false = sym holds ∙ h in absurd (cc)) in
        (rw other found.0, on (rw h at apart))

all_found : (ls : List PortLog) → AreApart (map port_of ls) →
    AllByRecursion (λ l. log_of l.port ls ≡ Some l.dids) ls
all_found [] apart = tt
all_found (l ∷ ls) apart = (
  rw (eq-eqb l.port l.port refl) refl,
  found_later l ls ls apart.0 (all_found ls apart.1),
)

-- and each is one of the ports
among_more : (x : ℕ) (ps : List ℕ) (all : List PortLog) →
    AllByRecursion (λ l. list_any (nat_eq l.port) ps ≡ true) all →
    AllByRecursion (λ l. list_any (nat_eq l.port) (x ∷ ps) ≡ true) all
among_more x ps [] among = tt
among_more x ps (l ∷ all) among = (by (nat_eq l.port x) among.0, among_more x ps all among.1)
  where
    by : (b : Bool) → list_any (nat_eq l.port) ps ≡ true →
        (b || list_any (nat_eq l.port) ps) ≡ true
    by true is = refl
    by false is = is

all_among : (ls : List PortLog) →
    AllByRecursion (λ l. list_any (nat_eq l.port) (map port_of ls) ≡ true) ls
all_among [] = tt
all_among (l ∷ ls) = (
  rw (eq-eqb l.port l.port refl) refl,
  among_more l.port (map port_of ls) ls (all_among ls),
)

both_give : {X : Type 0} (P Q R : X → Type 0) → ((x : X) → P x → Q x → R x) → (xs : List X) →
    AllByRecursion P xs → AllByRecursion Q xs → AllByRecursion R xs
both_give P Q R on [] ps qs = tt
both_give P Q R on (x ∷ xs) ps qs = (on x ps.0 qs.0, both_give P Q R on xs ps.1 qs.1)

pub all_told : (workers feeders : ℕ) (script : ScriptValue) (frames : ℕ) (h : Histories)
    (notes : ℕ → List Note) (left : ℕ → List Letter) → AllPairs (λ p q. p ≢ q) script.ports →
    IsMadeBy workers feeders script frames h notes left → All (IsTold workers script notes) h.logs
all_told workers feeders script frames h notes left differ made =
    All-from_recursion (IsTold workers script notes) h.logs
    (both_give (λ l. list_any (nat_eq l.port) (map port_of h.logs) ≡ true)
    (λ l. log_of l.port h.logs ≡ Some l.dids) (IsTold workers script notes) one h.logs
    (all_among h.logs)
    (all_found h.logs (subst AreApart (sym made.ports) (apart_so script.ports differ))))
  where
    one : (l : PortLog) → list_any (nat_eq l.port) (map port_of h.logs) ≡ true →
        log_of l.port h.logs ≡ Some l.dids → IsTold workers script notes l
    one l among found =
        let i : is_port script l.port ≡ true =
        ap (list_any (nat_eq l.port)) (sym made.ports) ∙ among in
        let log = made.log.each l.port l.dids i found in
        record {
          whole = same_dids l.dids (logged l.port (notes l.port)) log.noted
              (made.requests.answers l.port l.dids i found);
          next = log.next;
        }
