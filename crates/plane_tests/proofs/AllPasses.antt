-- Passes that go on, whichever of them act.
use Rattle.std.proofs.Common.{◌≡◌, ◌≤◌, ◌+◌, ℕ, zero, suc, List, [], ◌∷◌, ◌++◌, refl}
use Rattle.std.proofs.Common.{sym, ap, ◌∙◌, subst, arith, append-nil, inl, inr}
use Rattle.std.specs.Prelude.{length, map, sum_by, slice_get, slice_set, Option, Some, None, nat_eq}
use Rattle.std.specs.Prelude.{if◌then◌else◌, Result, Ok, Err, IfOk, IfErr, OnErr}
use Rattle.std.specs.List.{AllZip}
use Rattle.std.proofs.lemmas.Bool.{cases_Bool, eqb-true, eqb-false}
use Rattle.std.proofs.lemmas.List.{length-map, map-append}
use Rattle.std.proofs.lemmas.List.Sums.{sum_by-cons}
use Rattle.std.proofs.lemmas.Simd.{map-map}
use Rattle.mailbox.specs.Roles.{AreDistinct, In}
use Rattle.packet_entry.specs.declared.letter.Letter.{Letter}
use Rattle.packet_entry.specs.declared.no_memory.NoMemory.{NoMemory}
use Rattle.turn_lock.specs.Parts.{Tree}
use Rattle.packet_moves.specs.declared.setting.Setting.{Setting}
use Rattle.glance.specs.Views.{PassView}
use Rattle.place_rows.specs.declared.ending.PortReceiver.{PortReceiver}
use Rattle.place_rows.specs.Joining.{AreWhole}
use Rattle.place_rows.specs.Lists.{Every}
use Rattle.place_rows.specs.Rows.{Known}
use Rattle.plane.specs.declared.opened.Opened.{Opened}
use Rattle.plane.specs.declared.plane.Plane.{Plane}
use Rattle.plane.specs.Closings.{receiver_of}
use Rattle.plane.specs.Feeders.{HaveThePartsOf}
use Rattle.plane.specs.Opening.{IsOpened, all_rows, known_in}
use Rattle.plane.specs.Passes.{FeederView, PortView, IsFeederOf, IsPortOf, Receives, Closes}
use Rattle.plane.specs.Planes.{places_of}
use Rattle.plane.specs.Remaining.{times_in}
use Rattle.place_turns.specs.Trails.{parts_of}
use Rattle.plane_tests.specs.Examples.{AreGoing, IsGoing, Keeps, Stay}

-- ---- lists

module _ {X : Type 0} where
  some_same : (x y : X) → Some x ≡ Some y → x ≡ y
  some_same x y e = cc

  every_set : (P : X → Type 0) (xs : List X) (i : ℕ) (x : X) → Every P xs → P x →
      Every P (slice_set xs i x)
  every_set P [] i x all new = tt
  every_set P (y ∷ xs) zero x all new = (new, all.1)
  every_set P (y ∷ xs) (suc i) x all new = (all.0, every_set P xs i x all.1 new)

  pub every_get : (P : X → Type 0) (xs : List X) (i : ℕ) (x : X) → Every P xs →
      slice_get xs i ≡ Some x → P x
  every_get P [] i x all at = absurd (cc at)
  every_get P (y ∷ xs) zero x all at = subst P (some_same y x at) all.0
  every_get P (y ∷ xs) (suc i) x all at = every_get P xs i x all.1 at

-- ---- rows whose parts stay

-- what a plane's law says of them
abbrev pub PartsStay : Type 0
PartsStay = (places : ℕ) (olds news : List (List Known)) →
    map parts_of news ≡ map parts_of olds → AreWhole places olds → AreWhole places news

-- ---- what each port keeps

module _ {Y : Type 0} (f : PortView → Y) (kept : (p q : PortView) → Keeps p q → f q ≡ f p) where
  kept_by_all : (ps qs : List PortView) → AllZip Keeps ps qs → map f qs ≡ map f ps
  kept_by_all [] [] zip = refl
  kept_by_all [] (q ∷ qs) zip = absurd zip
  kept_by_all (p ∷ ps) [] zip = absurd zip
  kept_by_all (p ∷ ps) (q ∷ qs) zip =
      ap (λ (y : Y). y ∷ map f qs) (kept p q zip.0)
      ∙ ap (λ (l : List Y). f p ∷ l) (kept_by_all ps qs zip.1)

-- ---- no port is there twice

abbrev once : ℕ → ℕ → ℕ
once port p = if nat_eq p port then 1 else 0

times_more : (port : ℕ) (p : PortView) (ps : List PortView) →
    times_in port (p ∷ ps) ≡ once port p.port + times_in port ps
times_more port p ps =
    sum_by-cons (λ (r : PortReceiver). once port r.port) (receiver_of p) (map receiver_of ps)

abbrev ports_in : List PortView → List ℕ
ports_in ps = map (λ (p : PortView). p.port) ps

counted : (port : ℕ) (ps : List PortView) → times_in port ps ≡ sum_by (once port) (ports_in ps)
counted port [] = refl
counted port (p ∷ ps) =
    times_more port p ps ∙ ap (λ n. once port p.port + n) (counted port ps)
    ∙ sym (sum_by-cons (once port) p.port (ports_in ps))

times_same : (port : ℕ) (olds news : List PortView) → AllZip Keeps olds news →
    times_in port news ≡ times_in port olds
times_same port olds news zip =
    counted port news
    ∙ ap (λ (l : List ℕ). sum_by (once port) l)
    (kept_by_all (λ p. p.port) (λ p q keeps. keeps.port) olds news zip)
    ∙ sym (counted port olds)

other : (port p : ℕ) → (p ≡ port → ⊥) → once port p ≡ 0
other port p differ =
    elim (cases_Bool (nat_eq p port)) [
      | inl h ↦ absurd (differ (eqb-true p port h))
      | inr h ↦ rw h refl
    ]

at_most : (port p : ℕ) → once port p ≤ 1
at_most port p =
    elim (cases_Bool (nat_eq p port)) [
      | inl h ↦ rw h (omega arith)
      | inr h ↦ rw h (omega arith)
    ]

none_in : (port : ℕ) (ps : List PortView) → (In port (ports_in ps) → ⊥) → times_in port ps ≡ 0
none_in port [] none = refl
none_in port (p ∷ ps) none =
    omega (
      arith,
      none_in port ps (λ there. none (inr there)),
      other port p.port (λ same. none (inl (sym same))),
      times_more port p ps,
    )

once_apart : (port : ℕ) (ps : List PortView) → AreDistinct (ports_in ps) → times_in port ps ≤ 1
once_apart port [] apart = omega arith
once_apart port (p ∷ ps) apart =
    elim (cases_Bool (nat_eq p.port port)) [
      | inl h ↦ (let same = eqb-true p.port port h in
          omega (
            arith,
            none_in port ps (λ there. apart.0 (subst (λ q. In q (ports_in ps)) (sym same) there)),
            at_most port p.port,
            times_more port p ps,
          ))
      | inr h ↦ (let differ = eqb-false p.port port h in
          omega (
            arith,
            once_apart port ps apart.1,
            other port p.port differ,
            times_more port p ps,
          ))
    ]

-- ---- who acts

pub keeps_self : (p : PortView) → Keeps p p
keeps_self p = record { port = refl; parts = refl }

pub keeps_trans : (p q r : PortView) → Keeps p q → Keeps q r → Keeps p r
keeps_trans p q r one two =
    record { port = two.port ∙ one.port; parts = two.parts ∙ one.parts }

keep_self : (ps : List PortView) → AllZip Keeps ps ps
keep_self [] = tt
keep_self (p ∷ ps) = (record { port = refl; parts = refl }, keep_self ps)

keep_set : (ps : List PortView) (i : ℕ) (p q : PortView) → slice_get ps i ≡ Some p → Keeps p q →
    AllZip Keeps ps (slice_set ps i q)
keep_set [] i p q at keeps = tt
keep_set (x ∷ ps) zero p q at keeps =
    (subst (λ (y : PortView). Keeps y q) (one at) keeps, keep_self ps)
  where
    one : Some x ≡ Some p → p ≡ x
    one e = cc
keep_set (x ∷ ps) (suc i) p q at keeps =
    (record { port = refl; parts = refl }, keep_set ps i p q at keeps)

-- one port acts, or none
pub one_acts : (plane : Plane) (ps : List PortView) (i : ℕ) (p q : PortView) →
    Every (IsPortOf plane) ps → slice_get ps i ≡ Some p → IsPortOf plane q → Keeps p q →
    Stay plane ps (slice_set ps i q)
one_acts plane ps i p q all at is keeps = record {
  each = every_set (IsPortOf plane) ps i q all is;
  keep = keep_set ps i p q at keeps;
}

pub none_acts : (plane : Plane) (ps : List PortView) → Every (IsPortOf plane) ps → Stay plane ps ps
none_acts plane ps all = record { each = all; keep = keep_self ps }

-- a letter is received, or none
pub receives_keep : (old new : PortView) (r : Result (Option Letter) NoMemory) →
    IfOk r (Receives old new) → OnErr r (new ≡ old) → Keeps old new
receives_keep old new (Ok None) is err = record {
  port = ap (λ (p : PortView). p.port) is;
  parts = ap (λ (p : PortView). parts_of p.trail.known) is;
}
receives_keep old new (Ok (Some l)) (from, time, is) err = record {
  port = ap (λ (p : PortView). p.port) is;
  parts = ap (λ (p : PortView). parts_of p.trail.known) is;
}
receives_keep old new (Err e) is err = record {
  port = ap (λ (p : PortView). p.port) err;
  parts = ap (λ (p : PortView). parts_of p.trail.known) err;
}

-- ---- a plane that goes on

rows_same : (ps qs : List PortView) → AllZip Keeps ps qs →
    map parts_of (map known_in qs) ≡ map parts_of (map known_in ps)
rows_same ps qs zip =
    map-map parts_of known_in qs
    ∙ kept_by_all (λ p. parts_of p.trail.known) (λ p q keeps. keeps.parts) ps qs zip
    ∙ sym (map-map parts_of known_in ps)

-- the parts of all passes, where the closed ones stand behind the open ones
all_same : (f g : FeederView) (ps qs rs : List PortView) →
    parts_of g.trail.known ≡ parts_of f.trail.known → AllZip Keeps ps (qs ++ rs) →
    map parts_of (all_rows g qs rs) ≡ map parts_of (all_rows f ps [])
all_same f g ps qs rs same zip =
    ap (λ (t : List Tree). t ∷ map parts_of (map known_in qs ++ map known_in rs)) same
    ∙ ap (λ (l : List (List Known)). parts_of f.trail.known ∷ map parts_of l)
    (sym (map-append known_in qs rs))
    ∙ ap (λ (l : List (List Tree)). parts_of f.trail.known ∷ l) (rows_same ps (qs ++ rs) zip)
    ∙ ap (λ (l : List (List Known)). parts_of f.trail.known ∷ map parts_of l)
    (sym (append-nil (map known_in ps)))

-- the feeder and ports act
pub goes_on : PartsStay → (plane : Plane) (f g : FeederView) (ps qs : List PortView) →
    AreGoing plane f ps → IsFeederOf plane g → parts_of g.trail.known ≡ parts_of f.trail.known →
    Stay plane ps qs → AreGoing plane g qs
goes_on law plane f g ps qs was feeds same stay = record {
  feeds = feeds;
  each = stay.each;
  apart = λ port. omega (arith, was.apart port, times_same port ps qs stay.keep);
  whole = law (places_of plane) (all_rows f ps []) (all_rows g qs [])
      (all_same f g ps qs [] same
      (subst (λ (l : List PortView). AllZip Keeps ps l) (sym (append-nil qs)) stay.keep))
      was.whole;
}

-- ports act
pub ports_act : PartsStay → (plane : Plane) (f : FeederView) (ps qs : List PortView) →
    AreGoing plane f ps → Stay plane ps qs → AreGoing plane f qs
ports_act law plane f ps qs was stay = goes_on law plane f f ps qs was was.feeds refl stay

-- the feeder acts
pub feeder_acts : PartsStay → (plane : Plane) (f g : FeederView) (ps : List PortView) →
    AreGoing plane f ps → IsFeederOf plane g → parts_of g.trail.known ≡ parts_of f.trail.known →
    AreGoing plane g ps
feeder_acts law plane f g ps was feeds same =
    goes_on law plane f g ps ps was feeds same (none_acts plane ps was.each)

-- all closed
pub all_close : PartsStay → (plane : Plane) (f g : FeederView) (ps closed : List PortView) →
    AreGoing plane f ps → parts_of g.trail.known ≡ parts_of f.trail.known → Stay plane ps closed →
    ((port : ℕ) → times_in port closed ≤ 1)
    × AreWhole (places_of plane) (all_rows g [] closed)
all_close law plane f g ps closed was same stay = (
  λ port. omega (arith, was.apart port, times_same port ps closed stay.keep),
  law (places_of plane) (all_rows f ps []) (all_rows g [] closed)
      (all_same f g ps [] closed same stay.keep) was.whole,
)

pub stay_length : (plane : Plane) (ps qs : List PortView) → Stay plane ps qs →
    length qs ≡ length ps
stay_length plane ps qs stay =
    let number : PortView → ℕ = λ p. p.port in
    sym (length-map qs number)
    ∙ ap (λ (l : List ℕ). length l)
    (kept_by_all number (λ p q keeps. keeps.port) ps qs stay.keep)
    ∙ length-map ps number

-- what a port's pass is after a call that may have closed it
abbrev IsStill : Plane → PortView → PortView → Type 0
IsStill plane old new = IsPortOf plane new × Keeps old new

pub closed_now : (plane : Plane) (old : PortView) (r : Result PortView PortView)
    (p s t : PortView) → r ≡ Ok p → IfOk r (IsStill plane old) → IsPortOf plane s →
    Closes (places_of plane) p s → parts_of s.trail.known ≡ parts_of p.trail.known → t ≡ s →
    IsStill plane old t
closed_now plane old r p s t is still of closes same at =
    let was = subst (λ (x : Result PortView PortView). IfOk x (IsStill plane old)) is still in
    subst (IsStill plane old) (sym at) (
      of,
      keeps_trans old p s was.1
          (record { port = ap (λ (v : PortView). v.port) closes.others; parts = same }),
    )

pub closed_before : (plane : Plane) (old : PortView) (r : Result PortView PortView)
    (s t : PortView) → r ≡ Err s → IfErr r (IsStill plane old) → t ≡ s → IsStill plane old t
closed_before plane old r s t is still at =
    subst (IsStill plane old) (sym at)
    (subst (λ (x : Result PortView PortView). IfErr x (IsStill plane old)) is still)

-- the two that there are closed
pub two_close : PartsStay → (plane : Plane) (f g : FeederView)
    (ports left closed : List PortView) (p q s e : PortView) → AreGoing plane f ports →
    ports ≡ p ∷ q ∷ [] →
    parts_of g.trail.known ≡ parts_of f.trail.known → IsPortOf plane s × Keeps p s →
    IsPortOf plane e × Keeps q e → left ≡ [] → closed ≡ s ∷ e ∷ [] →
    ((port : ℕ) → times_in port (left ++ closed) ≤ 1)
    × AreWhole (places_of plane) (all_rows g left closed)
two_close law plane f g ports left closed p q s e was are same one two none both =
    subst
    (λ (l : List PortView). ((port : ℕ) → times_in port (l ++ closed) ≤ 1)
    × AreWhole (places_of plane) (all_rows g l closed))
    (sym none)
    (all_close law plane f g ports closed was same
    (subst (λ (l : List PortView). Stay plane ports l) (sym both)
    (subst (λ (l : List PortView). Stay plane l (s ∷ e ∷ [])) (sym are)
    (record { each = (one.0, (two.0, tt)); keep = (one.1, (two.1, tt)) }))))

-- ---- an open plane

pub feeder_goes : PartsStay → (o : Opened) (g : FeederView) → IsGoing o → IsFeederOf o.plane g →
    parts_of g.trail.known ≡ parts_of o.feeder.trail.known → IsGoing (record o { feeder = g })
feeder_goes law o g was feeds same =
    record { on = feeder_acts law o.plane o.feeder g o.ports was.on feeds same; looks = was.looks }

-- ---- a plane that opens

pub opened : (places : ℕ) (order : List ℕ) (s : Setting) (o : Opened) → AreDistinct order →
    IsOpened places order s o.plane o.feeder o.ports o.gauge → IsGoing o
opened places order s o apart is = record {
  on = record {
    feeds = is.feeds;
    each = is.each;
    apart = λ port. once_apart port o.ports (subst AreDistinct (sym is.ports_are) apart);
    whole = subst (λ n. AreWhole n (all_rows o.feeder o.ports [])) (sym is.as_many) is.whole;
  };
  looks = ap (λ (v : PassView). v.board) is.looks;
}

pub as_many : (places : ℕ) (order : List ℕ) (s : Setting) (o : Opened) →
    IsOpened places order s o.plane o.feeder o.ports o.gauge → length o.ports ≡ length order
as_many places order s o is =
    sym (length-map o.ports (λ (p : PortView). p.port)) ∙ ap length is.ports_are

-- ---- a port that closes

pub closes_keep : (places : ℕ) (p q : PortView) → Closes places p q →
    parts_of q.trail.known ≡ parts_of p.trail.known → Keeps p q
closes_keep places p q closes same =
    record { port = ap (λ (v : PortView). v.port) closes.others; parts = same }

-- ---- two feeders

-- a pass that was split, and joined again once each of the two fed something
pub fed_whole : PartsStay → (places : ℕ) (old kept made one two both : List Known)
    (rows : List (List Known)) → HaveThePartsOf kept made old → parts_of two ≡ parts_of made →
    parts_of one ≡ parts_of kept → HaveThePartsOf one two both →
    AreWhole places (old ∷ rows) → AreWhole places (both ∷ rows)
fed_whole stay places old kept made one two both rows split second first joined whole =
    let halves : AreWhole places (kept ∷ made ∷ rows) = λ k few. split k rows ∙ whole k few in
    let same : map parts_of (one ∷ two ∷ rows) ≡ map parts_of (kept ∷ made ∷ rows) =
    ap (λ (ts : List Tree). ts ∷ parts_of two ∷ map parts_of rows) first
    ∙ ap (λ (ts : List Tree). parts_of kept ∷ ts ∷ map parts_of rows) second in
    let still = stay places (kept ∷ made ∷ rows) (one ∷ two ∷ rows) same halves in
    λ k few. sym (joined k rows) ∙ still k few
