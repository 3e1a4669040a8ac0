-- Lists of passes by the numbers of their ports: how often a port is there, which pass is its own,
-- and what stays where one pass is another's successor or is left out.
use Rattle.std.proofs.Common.{◌≡◌, ◌≢◌, ◌<◌, ◌≤◌, ◌+◌, ◌∙◌, ◌++◌, ◌∷◌, ◌⊎◌, [], ℕ, zero, suc, List}
use Rattle.std.proofs.Common.{true, false, ap, arith, inl, inr, length, map, refl, subst, sym}
use Rattle.std.specs.Prelude.{◌==◌, ◌||◌, if◌then◌else◌, nat_eq, slice_index, slice_index_or}
use Rattle.std.specs.Prelude.{slice_set}
use Rattle.std.specs.List.{AllZip, list_any, remove}
use Rattle.std.proofs.lemmas.Bool.{cases_Bool, cases_lt, eq-eqb, eqb-false, eqb-true, ne_eqb}
use Rattle.std.proofs.lemmas.List.{map-append, set-get_or}
use Rattle.std.proofs.lemmas.List.Sums.{sum_by-append, sum_by-cons}
use Rattle.place_rows.specs.declared.ending.PortReceiver.{PortReceiver}
use Rattle.place_rows.specs.Hearing as row
use Rattle.plane.specs.Closings.{receiver_of}
use Rattle.plane.specs.Passes.{FeederView, PortView}
use Rattle.plane.specs.Remaining.{times_in}
use Rattle.live_runs.specs.Passes.{Pass, feeder_number}
use Rattle.live_passes.specs.Numbered.{numbers_of, pass_among, passes_in}
use Rattle.live_passes.specs.Views.{feeder_pass, port_pass}

-- ---- an item of a list

module _ {X : Type 0} where
  -- what stands before an item and behind it, and what becomes of the list where another stands in
  -- its place, or none
  pub record Parted (xs : List X) (i : ℕ) : Type 0 where
    pub front : List X
    pub at : X
    pub back : List X
    pub is : xs ≡ front ++ at ∷ back
    pub here : (d : X) → slice_index_or xs i d ≡ at
    pub put : (x : X) → slice_set xs i x ≡ front ++ x ∷ back
    pub out : remove xs i ≡ front ++ back

  pub parted : (xs : List X) (i : ℕ) → i < length xs → Parted xs i
  parted [] i less = absurd (omega (arith, less))
  parted (x ∷ xs) zero less = record {
    front = [];
    at = x;
    back = xs;
    is = refl;
    here = λ d. refl;
    put = λ y. refl;
    out = refl;
  }
  parted (x ∷ xs) (suc i) less =
      let more : suc i < suc (length xs) = less in
      let rest = parted xs i (omega (arith, more)) in
      record {
        front = x ∷ rest.front;
        at = rest.at;
        back = rest.back;
        is = ap (λ (l : List X). x ∷ l) rest.is;
        here = λ d. rest.here d;
        put = λ y. ap (λ (l : List X). x ∷ l) (rest.put y);
        out = ap (λ (l : List X). x ∷ l) rest.out;
      }

  -- within a list the default is never read
  pub any_default : (xs : List X) (i : ℕ) (d e : X) → i < length xs →
      slice_index_or xs i d ≡ slice_index_or xs i e
  any_default xs i d e less = let p = parted xs i less in p.here d ∙ sym (p.here e)

-- ---- two lists in step

module _ {X Y : Type 0} (R : X → Y → Type 0) where
  pub zip_put : (xs : List X) (ys : List Y) (i : ℕ) (x : X) (y : Y) → AllZip R xs ys → R x y →
      AllZip R (slice_set xs i x) (slice_set ys i y)
  zip_put [] [] i x y all is = tt
  zip_put [] (b ∷ ys) i x y all is = absurd all
  zip_put (a ∷ xs) [] i x y all is = absurd all
  zip_put (a ∷ xs) (b ∷ ys) zero x y all is = (is, all.1)
  zip_put (a ∷ xs) (b ∷ ys) (suc i) x y all is = (all.0, zip_put xs ys i x y all.1 is)

  -- where only the first of a pair changes
  pub zip_keep : (xs : List X) (ys : List Y) (i : ℕ) (d x : X) → AllZip R xs ys →
      ((y : Y) → R (slice_index_or xs i d) y → R x y) → AllZip R (slice_set xs i x) ys
  zip_keep [] [] i d x all on = tt
  zip_keep [] (b ∷ ys) i d x all on = absurd all
  zip_keep (a ∷ xs) [] i d x all on = absurd all
  zip_keep (a ∷ xs) (b ∷ ys) zero d x all on = (on b all.0, all.1)
  zip_keep (a ∷ xs) (b ∷ ys) (suc i) d x all on = (all.0, zip_keep xs ys i d x all.1 on)

  pub zip_out : (xs : List X) (ys : List Y) (i : ℕ) → AllZip R xs ys →
      AllZip R (remove xs i) (remove ys i)
  zip_out [] [] zero all = tt
  zip_out [] [] (suc i) all = tt
  zip_out [] (b ∷ ys) i all = absurd all
  zip_out (a ∷ xs) [] i all = absurd all
  zip_out (a ∷ xs) (b ∷ ys) zero all = all.1
  zip_out (a ∷ xs) (b ∷ ys) (suc i) all = (all.0, zip_out xs ys i all.1)

  pub zip_long : (xs : List X) (ys : List Y) → AllZip R xs ys → length ys ≡ length xs
  zip_long [] [] all = refl
  zip_long [] (b ∷ ys) all = absurd all
  zip_long (a ∷ xs) [] all = absurd all
  zip_long (a ∷ xs) (b ∷ ys) all = let rest = zip_long xs ys all.1 in omega (arith, rest)

  pub zip_at : (xs : List X) (ys : List Y) (i : ℕ) (d : X) (e : Y) → AllZip R xs ys →
      i < length xs → R (slice_index_or xs i d) (slice_index_or ys i e)
  zip_at [] ys i d e all less = absurd (omega (arith, less))
  zip_at (a ∷ xs) [] i d e all less = absurd all
  zip_at (a ∷ xs) (b ∷ ys) zero d e all less = all.0
  zip_at (a ∷ xs) (b ∷ ys) (suc i) d e all less =
      let more : suc i < suc (length xs) = less in
      zip_at xs ys i d e all.1 (omega (arith, more))

-- ---- how often a port is there

abbrev pub is_once : ℕ → PortView → ℕ
is_once port p = if nat_eq p.port port then 1 else 0

abbrev is_once_among : ℕ → PortReceiver → ℕ
is_once_among port p = if nat_eq p.port port then 1 else 0

pub times_more : (port : ℕ) (p : PortView) (ps : List PortView) →
    times_in port (p ∷ ps) ≡ is_once port p + times_in port ps
times_more port p ps =
    sum_by-cons (is_once_among port) (receiver_of p) (map receiver_of ps)

pub times_own : (port : ℕ) (p : PortView) → p.port ≡ port → is_once port p ≡ 1
times_own port p is = rw (eq-eqb p.port port is) refl

pub times_both : (port : ℕ) (ps qs : List PortView) →
    times_in port (ps ++ qs) ≡ times_in port ps + times_in port qs
times_both port ps qs =
    ap (λ (l : List PortReceiver). row.times_in port l) (map-append receiver_of ps qs)
    ∙ sum_by-append (is_once_among port) (map receiver_of ps) (map receiver_of qs)

pub times_apart : (port : ℕ) (front : List PortView) (x : PortView) (rest : List PortView) →
    times_in port (front ++ x ∷ rest) ≡ is_once port x + times_in port (front ++ rest)
times_apart port front x rest =
    omega (
      arith,
      times_both port front (x ∷ rest),
      times_more port x rest,
      times_both port front rest,
    )

-- as often whoever stands for the port
pub times_put : (port : ℕ) (front : List PortView) (x y : PortView) (rest : List PortView) →
    y.port ≡ x.port → times_in port (front ++ y ∷ rest) ≡ times_in port (front ++ x ∷ rest)
times_put port front x y rest same =
    times_apart port front y rest
    ∙ ap (λ (q : ℕ). (if nat_eq q port then 1 else 0) + times_in port (front ++ rest)) same
    ∙ sym (times_apart port front x rest)

-- and wherever it stands
pub times_moved : (port : ℕ) (front : List PortView) (x y : PortView)
    (back closed : List PortView) → y.port ≡ x.port →
    times_in port ((front ++ back) ++ (closed ++ y ∷ []))
    ≡ times_in port ((front ++ x ∷ back) ++ closed)
times_moved port front x y back closed same =
    let once : is_once port y ≡ is_once port x =
    ap (λ (q : ℕ). if nat_eq q port then 1 else 0) same in
    omega (
      arith,
      once,
      times_both port (front ++ back) (closed ++ y ∷ []),
      times_both port front back,
      times_both port closed (y ∷ []),
      times_more port y [],
      times_both port (front ++ x ∷ back) closed,
      times_apart port front x back,
    )

pub there_once : (front : List PortView) (x : PortView) (rest : List PortView) →
    1 ≤ times_in x.port (front ++ x ∷ rest)
there_once front x rest =
    omega (arith, times_apart x.port front x rest, times_own x.port x refl)

-- ---- whether it is there

pub is_among : (front : List PortView) (x : PortView) (rest : List PortView) →
    list_any (nat_eq x.port) (numbers_of (front ++ x ∷ rest)) ≡ true
is_among [] x rest = rw (eq-eqb x.port x.port refl) refl
is_among (p ∷ front) x rest = by (cases_Bool (nat_eq x.port p.port)) (is_among front x rest)
  where
    by : (nat_eq x.port p.port ≡ true) ⊎ (nat_eq x.port p.port ≡ false) →
        list_any (nat_eq x.port) (numbers_of (front ++ x ∷ rest)) ≡ true →
        list_any (nat_eq x.port) (numbers_of (p ∷ (front ++ x ∷ rest))) ≡ true
    by (inl h) more = rw h refl
    by (inr h) more = rw h more

pub not_among : (port : ℕ) (ps : List PortView) → times_in port ps ≡ 0 →
    list_any (nat_eq port) (numbers_of ps) ≡ false
not_among port [] none = refl
not_among port (p ∷ ps) none =
    by (cases_Bool (nat_eq port p.port)) (λ rest. not_among port ps rest)
  where
    by : (nat_eq port p.port ≡ true) ⊎ (nat_eq port p.port ≡ false) →
        (times_in port ps ≡ 0 → list_any (nat_eq port) (numbers_of ps) ≡ false) →
        list_any (nat_eq port) (numbers_of (p ∷ ps)) ≡ false
    by (inl h) next =
        absurd (omega (
          arith,
          none,
          times_more port p ps,
          times_own port p (sym (eqb-true port p.port h)),
        ))
    by (inr h) next = rw h (next (omega (arith, none, times_more port p ps)))

pub others_stay : (port : ℕ) (front : List PortView) (x : PortView) (rest : List PortView) →
    port ≢ x.port → list_any (nat_eq port) (numbers_of (front ++ rest))
    ≡ list_any (nat_eq port) (numbers_of (front ++ x ∷ rest))
others_stay port [] x rest other = rw (ne_eqb port x.port other) refl
others_stay port (p ∷ front) x rest other =
    ap (λ b. nat_eq port p.port || b) (others_stay port front x rest other)

-- an item that is put back
pub put_back : (ps : List PortView) (i : ℕ) (x : PortView) → x ≡ slice_index_or ps i x →
    slice_set ps i x ≡ ps
put_back ps i x is = ap (λ (y : PortView). slice_set ps i y) is ∙ set-get_or ps i x

-- its number, by its index
pub number_at : (ports : List PortView) (i : ℕ) (d : PortView) → i < length ports →
    slice_index (numbers_of ports) i ≡ (slice_index_or ports i d).port
number_at [] i d less = absurd (omega (arith, less))
number_at (p ∷ ports) zero d less = refl
number_at (p ∷ ports) (suc i) d less =
    let more : suc i < suc (length ports) = less in number_at ports i d (omega (arith, more))

-- its number, whatever the default
pub its_number : (ports : List PortView) (at : ℕ) (d x : PortView) → at < length ports →
    x ≡ slice_index_or ports at x → (slice_index_or ports at d).port ≡ x.port
its_number ports at d x less is =
    ap (λ (p : PortView). p.port) (any_default ports at d x less ∙ sym is)

-- where it is
pub record Stands (ps : List PortView) (port : ℕ) : Type 0 where
  pub at : ℕ
  pub less : at < length ps
  pub is : (d : PortView) → (slice_index_or ps at d).port ≡ port

pub stands_at : (ps : List PortView) (port : ℕ) →
    list_any (nat_eq port) (numbers_of ps) ≡ true → Stands ps port
stands_at [] port is = absurd (cc)
stands_at (p ∷ ps) port is =
    by (cases_Bool (nat_eq port p.port)) (λ more. stands_at ps port more)
  where
    by : (nat_eq port p.port ≡ true) ⊎ (nat_eq port p.port ≡ false) →
        (list_any (nat_eq port) (numbers_of ps) ≡ true → Stands ps port) → Stands (p ∷ ps) port
    by (inl h) next = record {
      at = 0;
      less = omega arith;
      is = λ d. sym (eqb-true port p.port h);
    }
    by (inr h) next =
        let rest = next (rw h at is) in
        let less = rest.less in
        record { at = suc rest.at; less = omega (arith, less); is = λ d. rest.is d }

pub nowhere : (ps : List PortView) (port : ℕ) →
    ((i : ℕ) (d : PortView) → i < length ps → (slice_index_or ps i d).port ≢ port) →
    list_any (nat_eq port) (numbers_of ps) ≡ false
nowhere [] port none = refl
nowhere (p ∷ ps) port none =
    rw (ne_eqb port p.port (λ same. none 0 p (omega arith) (sym same)))
    (nowhere ps port (λ i d less. none (suc i) d (omega (arith, less))))

pub found_at : (ps : List PortView) (port at : ℕ) (x : PortView) → at < length ps →
    x ≡ slice_index_or ps at x → x.port ≡ port → list_any (nat_eq port) (numbers_of ps) ≡ true
found_at ps port at x less is same =
    let p = parted ps at less in
    subst (λ (q : ℕ). list_any (nat_eq q) (numbers_of ps) ≡ true) same
    (subst (λ (y : PortView). list_any (nat_eq y.port) (numbers_of ps) ≡ true)
    (sym (is ∙ p.here x))
    (subst (λ (l : List PortView). list_any (nat_eq p.at.port) (numbers_of l) ≡ true) (sym p.is)
    (is_among p.front p.at p.back)))

-- one more of them isn't it
pub none_more : (ps : List PortView) (port at : ℕ) (x : PortView) → at < length ps →
    x ≡ slice_index_or ps at x → x.port ≢ port →
    ((i : ℕ) (d : PortView) → i < at → (slice_index_or ps i d).port ≢ port) → (i : ℕ)
    (d : PortView) → i < at + 1 → (slice_index_or ps i d).port ≢ port
none_more ps port at x less is other none i d within same = by (cases_lt i at)
  where
    by : (i < at) ⊎ (at ≤ i) → ⊥
    by (inl h) = none i d h same
    by (inr h) =
        let here : i ≡ at = omega (arith, h, within) in
        other (ap (λ (p : PortView). p.port) (is ∙ any_default ps at x d less)
        ∙ ap (λ (k : ℕ). (slice_index_or ps k d).port) (sym here) ∙ same)

-- ---- the pass of a port

among_here : (port : ℕ) (p : PortView) (ps : List PortView) → (p.port == port) ≡ true →
    pass_among (p ∷ ps) port ≡ port_pass p
among_here port p ps same = rw same refl

among_there : (port : ℕ) (p : PortView) (ps : List PortView) → (p.port == port) ≡ false →
    pass_among (p ∷ ps) port ≡ pass_among ps port
among_there port p ps other = rw other refl

-- its own, where it is there once
pub among_own : (front : List PortView) (x : PortView) (rest : List PortView) →
    times_in x.port (front ++ x ∷ rest) ≤ 1 →
    pass_among (front ++ x ∷ rest) x.port ≡ port_pass x
among_own [] x rest once = among_here x.port x rest (eq-eqb x.port x.port refl)
among_own (p ∷ front) x rest once =
    by (cases_Bool (p.port == x.port)) (λ less. among_own front x rest less)
  where
    all : times_in x.port (p ∷ (front ++ x ∷ rest)) ≤ 1
    all = once

    by : ((p.port == x.port) ≡ true) ⊎ ((p.port == x.port) ≡ false) →
        (times_in x.port (front ++ x ∷ rest) ≤ 1 →
        pass_among (front ++ x ∷ rest) x.port ≡ port_pass x) →
        pass_among (p ∷ (front ++ x ∷ rest)) x.port ≡ port_pass x
    by (inl h) next =
        absurd (omega (
          arith,
          all,
          times_more x.port p (front ++ x ∷ rest),
          times_own x.port p (eqb-true p.port x.port h),
          there_once front x rest,
        ))
    by (inr h) next = among_there x.port p (front ++ x ∷ rest) h
        ∙ next (omega (arith, all, times_more x.port p (front ++ x ∷ rest)))

-- another's, without it
pub among_others : (port : ℕ) (front : List PortView) (x : PortView) (rest : List PortView) →
    port ≢ x.port → pass_among (front ++ x ∷ rest) port ≡ pass_among (front ++ rest) port
among_others port [] x rest other =
    among_there port x rest (ne_eqb x.port port (λ same. other (sym same)))
among_others port (p ∷ front) x rest other =
    ap (λ (q : Pass). if p.port == port then port_pass p else q)
    (among_others port front x rest other)

-- a closed port's, where it isn't among the open ones
pub among_closed : (port : ℕ) (ports closed : List PortView) →
    list_any (nat_eq port) (numbers_of ports) ≡ false →
    pass_among (ports ++ closed) port ≡ pass_among closed port
among_closed port [] closed none = refl
among_closed port (p ∷ ports) closed none =
    by (cases_Bool (nat_eq port p.port)) (λ rest. among_closed port ports closed rest)
  where
    by : (nat_eq port p.port ≡ true) ⊎ (nat_eq port p.port ≡ false) →
        (list_any (nat_eq port) (numbers_of ports) ≡ false →
        pass_among (ports ++ closed) port ≡ pass_among closed port) →
        pass_among (p ∷ (ports ++ closed)) port ≡ pass_among closed port
    by (inl h) next = let wrong : true ≡ false = rw h at none in absurd (cc wrong)
    by (inr h) next =
        among_there port p (ports ++ closed)
        (ne_eqb p.port port (λ same. eqb-false port p.port h (sym same)))
        ∙ next (rw h at none)

-- ---- all passes

pub of_port : (feeder : FeederView) (ps : List PortView) (port : ℕ) → port ≢ feeder_number →
    passes_in feeder ps port ≡ pass_among ps port
of_port feeder ps port other = rw (ne_eqb port feeder_number other) refl

-- whoever feeds, the same ports
pub of_ports : (feeder : FeederView) (ps qs : List PortView) (port : ℕ) →
    pass_among qs port ≡ pass_among ps port →
    passes_in feeder qs port ≡ passes_in feeder ps port
of_ports feeder ps qs port same =
    ap (λ (q : Pass). if port == feeder_number then feeder_pass feeder else q) same
