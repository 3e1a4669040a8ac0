-- A port among several: how often it is there, and its pass.
use Rattle.std.proofs.Common.{◌+◌, ◌∙◌, ◌∷◌, ◌≡◌, ◌≤◌, ◌⊎◌, List, [], ap, arith}
use Rattle.std.proofs.Common.{false, inl, inr, refl, subst, sym, true, ℕ}
use Rattle.std.proofs.lemmas.Bool.{cases_Bool, eq-eqb, eqb-false, eqb-true}
use Rattle.std.proofs.lemmas.List.Sums.{sum_by-cons}
use Rattle.std.specs.List.{AllZip, list_any}
use Rattle.std.specs.Prelude.{◌==◌, if◌then◌else◌, map, nat_eq}
use Rattle.mailbox.specs.Roles.{AreDistinct, In}
use Rattle.place_rows.specs.Lists.{Every}
use Rattle.place_rows.specs.declared.ending.PortReceiver.{PortReceiver}
use Rattle.plane.specs.Closings.{receiver_of}
use Rattle.plane.specs.Passes.{PortView}
use Rattle.plane.specs.Remaining.{times_in}
use Rattle.live_passes.specs.Numbered.{numbers_of, pass_among}
use Rattle.live_passes.specs.Views.{port_pass}

-- ---- how often a port is there

abbrev is_once : ℕ → PortView → ℕ
is_once port p = if nat_eq p.port port then 1 else 0

pub times_more : (port : ℕ) (p : PortView) (ps : List PortView) →
    times_in port (p ∷ ps) ≡ is_once port p + times_in port ps
times_more port p ps =
    sum_by-cons (λ (r : PortReceiver). if nat_eq r.port port then 1 else 0) (receiver_of p)
    (map receiver_of ps)

pub times_here : (port : ℕ) (p : PortView) (ps : List PortView) → (p.port == port) ≡ true →
    times_in port (p ∷ ps) ≡ 1 + times_in port ps
times_here port p ps same = times_more port p ps ∙ rw same refl

pub times_there : (port : ℕ) (p : PortView) (ps : List PortView) → (p.port == port) ≡ false →
    times_in port (p ∷ ps) ≡ times_in port ps
times_there port p ps other =
    let none : is_once port p ≡ 0 = rw other refl in omega (arith, times_more port p ps, none)

-- ---- by number

pub not_here : (port : ℕ) (order : List ℕ) → (In port order → ⊥) →
    list_any (nat_eq port) order ≡ false
not_here port [] none = refl
not_here port (q ∷ order) none =
    elim (cases_Bool (nat_eq port q)) [
      | inl h ↦ absurd (none (inl (eqb-true port q h)))
      | inr h ↦ rw h (not_here port order (λ is. none (inr is)))
    ]

-- whoever is asked
pub turned : (a b : ℕ) → nat_eq a b ≡ false → (b == a) ≡ false
turned a b other = elim (cases_Bool (b == a)) [
  | inl same ↦ absurd (eqb-false a b other (sym (eqb-true b a same)))
  | inr differ ↦ differ
]

pub times_none : (port : ℕ) (ps : List PortView) → list_any (nat_eq port) (numbers_of ps) ≡ false →
    times_in port ps ≡ 0
times_none port [] none = refl
times_none port (p ∷ ps) none =
    by (cases_Bool (nat_eq port p.port)) (λ rest. times_none port ps rest)
  where
    by : (nat_eq port p.port ≡ true) ⊎ (nat_eq port p.port ≡ false) →
        (list_any (nat_eq port) (numbers_of ps) ≡ false → times_in port ps ≡ 0) →
        times_in port (p ∷ ps) ≡ 0
    by (inl h) next = let wrong : true ≡ false = rw h at none in absurd (cc wrong)
    by (inr h) next = times_there port p ps (turned port p.port h) ∙ next (rw h at none)

pub times_once : (port : ℕ) (ps : List PortView) → AreDistinct (numbers_of ps) →
    list_any (nat_eq port) (numbers_of ps) ≡ true → times_in port ps ≡ 1
times_once port [] apart is = absurd (cc)
times_once port (p ∷ ps) apart is =
    by (cases_Bool (nat_eq port p.port)) (λ rest. times_once port ps apart.1 rest)
  where
    by : (nat_eq port p.port ≡ true) ⊎ (nat_eq port p.port ≡ false) →
        (list_any (nat_eq port) (numbers_of ps) ≡ true → times_in port ps ≡ 1) →
        times_in port (p ∷ ps) ≡ 1
    by (inl h) next =
        let same : port ≡ p.port = eqb-true port p.port h in
        times_here port p ps (eq-eqb p.port port (sym same))
        ∙ ap (λ n. 1 + n) (times_none port ps
        (not_here port (numbers_of ps) (λ there. apart.0
        (subst (λ q. In q (numbers_of ps)) same there))))
    by (inr h) next = times_there port p ps (turned port p.port h) ∙ next (rw h at is)

-- ---- the pass of a port

pub among_here : (port : ℕ) (p : PortView) (ps : List PortView) → (p.port == port) ≡ true →
    pass_among (p ∷ ps) port ≡ port_pass p
among_here port p ps same = rw same refl

pub among_there : (port : ℕ) (p : PortView) (ps : List PortView) → (p.port == port) ≡ false →
    pass_among (p ∷ ps) port ≡ pass_among ps port
among_there port p ps other = rw other refl

-- of two lists, a port's pass in the one and in the other
pub record Found (R : PortView → PortView → Type 0) (port : ℕ) (olds news : List PortView)
    : Type 0 where
  pub old : PortView
  pub new : PortView
  pub had : pass_among olds port ≡ port_pass old
  pub has : pass_among news port ≡ port_pass new
  pub number : old.port ≡ port
  pub so : R old new

module _ (R : PortView → PortView → Type 0) (keeps : (o n : PortView) → R o n → n.port ≡ o.port)
    (port : ℕ) where
  pub found : (olds news : List PortView) → AllZip R olds news → 1 ≤ times_in port olds →
      Found R port olds news
  found [] news all some = absurd (omega (arith, some))
  found (o ∷ olds) [] all some = absurd all
  found (o ∷ olds) (n ∷ news) all some =
      by (cases_Bool (o.port == port)) (λ more. found olds news all.1 more)
    where
      same : n.port ≡ o.port
      same = keeps o n all.0

      by : ((o.port == port) ≡ true) ⊎ ((o.port == port) ≡ false) →
          (1 ≤ times_in port olds → Found R port olds news) → Found R port (o ∷ olds) (n ∷ news)
      by (inl h) next = record {
        old = o;
        new = n;
        had = among_here port o olds h;
        has = among_here port n news (ap (λ q. q == port) same ∙ h);
        number = eqb-true o.port port h;
        so = all.0;
      }
      by (inr h) next =
          let rest = next (omega (arith, some, times_there port o olds h)) in
          record {
            old = rest.old;
            new = rest.new;
            had = among_there port o olds h ∙ rest.had;
            has = among_there port n news (ap (λ q. q == port) same ∙ h) ∙ rest.has;
            number = rest.number;
            so = rest.so;
          }

-- each is itself
pub all_self : (P : PortView → Type 0) (ps : List PortView) → Every P ps →
    AllZip (λ o n. (n ≡ o) × P o) ps ps
all_self P [] all = tt
all_self P (p ∷ ps) all = ((refl, all.0), all_self P ps all.1)
