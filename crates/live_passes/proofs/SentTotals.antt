-- What all rows sent to a port is what all passes say that they sent, number by number.
use Rattle.std.proofs.Common.{◌++◌, ◌+◌, ◌∙◌, ◌∷◌, ◌≡◌, ◌⊎◌, List, Some, [], ap, arith, false, inl}
use Rattle.std.proofs.Common.{inr, length, map, refl, subst, suc, sym, true, zero, ℕ}
use Rattle.std.proofs.lemmas.Bool.{cases_Bool, eq-eqb, eqb-true}
use Rattle.std.proofs.lemmas.List.Sums.{sum_by-cons}
use Rattle.std.specs.List.{list_any}
use Rattle.std.specs.Prelude.{◌==◌, if◌then◌else◌, nat_eq, slice_get, sum_by}
use Rattle.mailbox.specs.Roles.{AreDistinct, In}
use Rattle.place_rows.specs.Lists.{Every}
use Rattle.place_rows.specs.Rows.{Known}
use Rattle.place_rows.specs.Shares as row
use Rattle.place_rows.specs.Shares.{sent_in, sent_in_all}
use Rattle.plane.specs.Opening.{known_in}
use Rattle.plane.specs.Passes.{FeederView, IsPortOf, PortView}
use Rattle.plane.specs.Planes.{order_of, places_of}
use Rattle.plane.specs.Remaining.{times_in}
use Rattle.plane.specs.declared.plane.Plane.{Plane}
use Rattle.turn_lock.specs.Views.{HasSeenOwn}
use Rattle.live_runs.specs.ClosedPlanes.{own_taken, sent_at, sent_by_all}
use Rattle.live_runs.specs.Locks.{marked}
use Rattle.live_runs.specs.Passes.{Pass, feeder_number}
use Rattle.live_passes.specs.Numbered.{AreAll, pass_among, passes_in, rows_in}
use Rattle.live_passes.specs.Views.{port_pass, shares_of}
use Rattle.live_passes.proofs.PortOccurrences.{among_here, among_there, not_here, times_here}
use Rattle.live_passes.proofs.PortOccurrences.{times_more}
use Rattle.live_passes.proofs.PortOccurrences.{times_there}
use Rattle.live_passes.proofs.MeetingOfAll.{IsKnownOf, every_append, feeder_known, of_port}
use Rattle.live_passes.proofs.MeetingOfAll.{port_known}

-- what is known of a pass at one place
abbrev pub SentLaw : Type 0
SentLaw = (port : ℕ) (v : Known) → HasSeenOwn v →
    row.sent_at port v ≡ own_taken port [] (marked v.own v.seen)

-- ---- one row

between : (x a z y : ℕ) → y ≡ a + z → x + y ≡ a + (x + z)
between x a z y h = omega (arith, h)

module _ (port : ℕ) where
  -- the first place apart
  first_place : (v : Known) (known : List Known) (n : ℕ) →
      sent_at port (shares_of (v ∷ known)) (suc n)
      ≡ own_taken port [] (marked v.own v.seen) + sent_at port (shares_of known) n
  first_place v known zero = refl
  first_place v known (suc n) =
      between (own_taken port [] (shares_of known n)) (own_taken port [] (marked v.own v.seen))
      (sent_at port (shares_of known) n) (sent_at port (shares_of (v ∷ known)) (suc n))
      (first_place v known n)

  row_sent : SentLaw → (known : List Known) →
      ((k : ℕ) (v : Known) → slice_get known k ≡ Some v → HasSeenOwn v) →
      sent_in port known ≡ sent_at port (shares_of known) (length known)
  row_sent law [] placed = refl
  row_sent law (v ∷ known) placed =
      sum_by-cons (row.sent_at port) v known
      ∙ ap (λ n. n + sent_in port known) (law port v (placed 0 v refl))
      ∙ ap (λ n. own_taken port [] (marked v.own v.seen) + n)
      (row_sent law known (λ k w is. placed (suc k) w is))
      ∙ sym (first_place v known (length known))

-- ---- sums

sum_more : {X : Type 0} (f g h : X → ℕ) → ((x : X) → f x ≡ g x + h x) → (xs : List X) →
    sum_by f xs ≡ sum_by g xs + sum_by h xs
sum_more f g h each [] = refl
sum_more f g h each (x ∷ xs) =
    omega (
      arith,
      sum_by-cons f x xs,
      sum_by-cons g x xs,
      sum_by-cons h x xs,
      each x,
      sum_more f g h each xs,
    )

sum_none : {X : Type 0} (f : X → ℕ) → ((x : X) → f x ≡ 0) → (xs : List X) → sum_by f xs ≡ 0
sum_none f each [] = refl
sum_none f each (x ∷ xs) = omega (arith, sum_by-cons f x xs, each x, sum_none f each xs)

pub in_first : (q : ℕ) (order : List ℕ) → list_any (nat_eq q) (q ∷ order) ≡ true
in_first q order = rw (eq-eqb q q refl) refl

pub in_longer : (r q : ℕ) (order : List ℕ) → list_any (nat_eq r) order ≡ true →
    list_any (nat_eq r) (q ∷ order) ≡ true
in_longer r q order is = elim (cases_Bool (nat_eq r q)) [
  | inl h ↦ rw h refl
  | inr h ↦ rw h is
]

-- two sums over numbers, item by item
sum_same : (f g : ℕ → ℕ) (order : List ℕ) →
    ((q : ℕ) → list_any (nat_eq q) order ≡ true → f q ≡ g q) → sum_by f order ≡ sum_by g order
sum_same f g [] each = refl
sum_same f g (q ∷ order) each =
    omega (
      arith,
      sum_by-cons f q order,
      sum_by-cons g q order,
      each q (in_first q order),
      sum_same f g order (λ r is. each r (in_longer r q order is)),
    )

-- ---- passes, and their numbers

module _ (weight : Pass → ℕ) where
  -- what a port's pass weighs at its own number, and 0 at others
  abbrev at_number : ℕ → PortView → ℕ
  at_number q p = if p.port == q then weight (port_pass p) else 0

  own_weight : (q : ℕ) (p : PortView) → (p.port == q) ≡ true → at_number q p ≡ weight (port_pass p)
  own_weight q p h = rw h refl

  no_weight : (q : ℕ) (p : PortView) → (p.port == q) ≡ false → at_number q p ≡ 0
  no_weight q p h = rw h refl

  -- at a number that no pass has
  none_weighs : (q : ℕ) (ps : List PortView) → times_in q ps ≡ 0 → sum_by (at_number q) ps ≡ 0
  none_weighs q [] none = refl
  none_weighs q (p ∷ ps) none = by (cases_Bool (p.port == q)) (λ rest. none_weighs q ps rest)
    where
      by : ((p.port == q) ≡ true) ⊎ ((p.port == q) ≡ false) →
          (times_in q ps ≡ 0 → sum_by (at_number q) ps ≡ 0) → sum_by (at_number q) (p ∷ ps) ≡ 0
      by (inl h) next = absurd (omega (arith, none, times_here q p ps h))
      by (inr h) next =
          let rest = next (omega (arith, none, times_there q p ps h)) in
          omega (arith, sum_by-cons (at_number q) p ps, no_weight q p h, rest)

  -- at a number that one pass has
  one_weighs : (q : ℕ) (ps : List PortView) → times_in q ps ≡ 1 →
      sum_by (at_number q) ps ≡ weight (pass_among ps q)
  one_weighs q [] one = absurd (omega (arith, one))
  one_weighs q (p ∷ ps) one = by (cases_Bool (p.port == q)) (λ rest. one_weighs q ps rest)
    where
      by : ((p.port == q) ≡ true) ⊎ ((p.port == q) ≡ false) →
          (times_in q ps ≡ 1 → sum_by (at_number q) ps ≡ weight (pass_among ps q)) →
          sum_by (at_number q) (p ∷ ps) ≡ weight (pass_among (p ∷ ps) q)
      by (inl h) next =
          let rest = none_weighs q ps (omega (arith, one, times_here q p ps h)) in
          let sum : sum_by (at_number q) (p ∷ ps) ≡ weight (port_pass p) =
          omega (arith, sum_by-cons (at_number q) p ps, own_weight q p h, rest) in
          sum ∙ ap weight (sym (among_here q p ps h))
      by (inr h) next =
          let rest = next (omega (arith, one, times_there q p ps h)) in
          let sum : sum_by (at_number q) (p ∷ ps) ≡ weight (pass_among ps q) =
          omega (arith, sum_by-cons (at_number q) p ps, no_weight q p h, rest) in
          sum ∙ ap weight (sym (among_there q p ps h))

  -- a pass, over numbers among which its own isn't
  not_there : (p : PortView) (order : List ℕ) → list_any (nat_eq p.port) order ≡ false →
      sum_by (λ q. at_number q p) order ≡ 0
  not_there p [] none = refl
  not_there p (q ∷ order) none =
      by (cases_Bool (nat_eq p.port q)) (λ rest. not_there p order rest)
    where
      by : (nat_eq p.port q ≡ true) ⊎ (nat_eq p.port q ≡ false) →
          (list_any (nat_eq p.port) order ≡ false → sum_by (λ q. at_number q p) order ≡ 0) →
          sum_by (λ q. at_number q p) (q ∷ order) ≡ 0
      by (inl h) next = let wrong : true ≡ false = rw h at none in absurd (cc wrong)
      by (inr h) next =
          let rest = next (rw h at none) in
          omega (arith, sum_by-cons (λ q. at_number q p) q order, no_weight q p h, rest)

  -- and where it is
  is_there : (p : PortView) (order : List ℕ) → AreDistinct order →
      list_any (nat_eq p.port) order ≡ true →
      sum_by (λ q. at_number q p) order ≡ weight (port_pass p)
  is_there p [] apart is = absurd (cc)
  is_there p (q ∷ order) apart is =
      by (cases_Bool (nat_eq p.port q)) (λ rest. is_there p order apart.1 rest)
    where
      by : (nat_eq p.port q ≡ true) ⊎ (nat_eq p.port q ≡ false) →
          (list_any (nat_eq p.port) order ≡ true →
          sum_by (λ q. at_number q p) order ≡ weight (port_pass p)) →
          sum_by (λ q. at_number q p) (q ∷ order) ≡ weight (port_pass p)
      by (inl h) next =
          let same : p.port ≡ q = eqb-true p.port q h in
          let rest = not_there p order (not_here p.port order (λ there.
          apart.0 (subst (λ n. In n order) same there))) in
          omega (arith, sum_by-cons (λ q. at_number q p) q order, own_weight q p h, rest)
      by (inr h) next =
          let rest = next (rw h at is) in
          omega (arith, sum_by-cons (λ q. at_number q p) q order, no_weight q p h, rest)

  -- what each number's pass weighs, and what each pass weighs
  both_sums : (order : List ℕ) (ps : List PortView) → AreDistinct order →
      Every (λ (p : PortView). list_any (nat_eq p.port) order ≡ true) ps →
      sum_by (λ q. sum_by (at_number q) ps) order
      ≡ sum_by (λ (p : PortView). weight (port_pass p)) ps
  both_sums order [] apart all = sum_none (λ q. sum_by (at_number q) []) (λ q. refl) order
  both_sums order (p ∷ ps) apart all =
      omega (
        arith,
        sum_more (λ q. sum_by (at_number q) (p ∷ ps)) (λ q. at_number q p)
            (λ q. sum_by (at_number q) ps) (λ q. sum_by-cons (at_number q) p ps) order,
        is_there p order apart all.0,
        both_sums order ps apart all.1,
        sum_by-cons (λ (p : PortView). weight (port_pass p)) p ps,
      )

  pub weights : (order : List ℕ) (ps : List PortView) → AreDistinct order →
      Every (λ (p : PortView). list_any (nat_eq p.port) order ≡ true) ps →
      ((q : ℕ) → list_any (nat_eq q) order ≡ true → times_in q ps ≡ 1) →
      sum_by (λ (p : PortView). weight (port_pass p)) ps
      ≡ sum_by (λ q. weight (pass_among ps q)) order
  weights order ps apart all each =
      sym (both_sums order ps apart all)
      ∙ sum_same (λ q. sum_by (at_number q) ps) (λ q. weight (pass_among ps q)) order
      (λ q is. one_weighs q ps (each q is))

-- each of these ports is one of the plane's
pub ports_in : (order : List ℕ) (ps : List PortView) →
    ((q : ℕ) → list_any (nat_eq q) order ≡ false → times_in q ps ≡ 0) →
    Every (λ (p : PortView). list_any (nat_eq p.port) order ≡ true) ps
ports_in order [] nobody = tt
ports_in order (p ∷ ps) nobody = (
  elim (cases_Bool (list_any (nat_eq p.port) order)) [
    | inl h ↦ h
    | inr h ↦ absurd (omega (
      arith,
      nobody p.port h,
      times_here p.port p ps (eq-eqb p.port p.port refl),
    ))
  ],
  ports_in order ps (λ q none. omega (arith, times_more q p ps, nobody q none)),
)

-- no port has the feeder's number
pub not_feeder : (order : List ℕ) (q : ℕ) → list_any (nat_eq feeder_number) order ≡ false →
    list_any (nat_eq q) order ≡ true → (q == feeder_number) ≡ false
not_feeder order q none is = elim (cases_Bool (q == feeder_number)) [
  | inl h ↦ absurd (wrong (subst (λ n. list_any (nat_eq n) order ≡ true)
      (eqb-true q feeder_number h) is))
  | inr h ↦ h
]
  where
    wrong : list_any (nat_eq feeder_number) order ≡ true → ⊥
    wrong so = absurd (cc (sym so ∙ none))

-- ---- all passes of a plane

module _ (law : SentLaw) (plane : Plane) (port : ℕ) where
  abbrev sent_of : Pass → ℕ
  sent_of q = sent_at port q.shares (places_of plane)

  known_sent : (known : List Known) → IsKnownOf plane known →
      sent_in port known ≡ sent_at port (shares_of known) (places_of plane)
  known_sent known is = row_sent port law known is.0.placed
      ∙ ap (sent_at port (shares_of known)) is.1

  rows_sent : (ps : List PortView) → Every (IsPortOf plane) ps →
      sum_by (sent_in port) (map known_in ps)
      ≡ sum_by (λ (p : PortView). sent_of (port_pass p)) ps
  rows_sent [] all = refl
  rows_sent (p ∷ ps) all =
      omega (
        arith,
        sum_by-cons (sent_in port) p.trail.known (map known_in ps),
        sum_by-cons (λ (p : PortView). sent_of (port_pass p)) p ps,
        known_sent p.trail.known (port_known plane p all.0),
        rows_sent ps all.1,
      )

  pub all_sent : (feeder : FeederView) (ports closed : List PortView) →
      AreAll plane feeder ports closed →
      sent_in_all port (rows_in feeder (ports ++ closed))
      ≡ sent_by_all (order_of plane) (places_of plane) (passes_in feeder (ports ++ closed)) port
  all_sent feeder ports closed all =
      omega (
        arith,
        sum_by-cons (sent_in port) feeder.trail.known (map known_in (ports ++ closed)),
        sum_by-cons (λ q. sent_of (passes_in feeder (ports ++ closed) q)) feeder_number
            (order_of plane),
        first,
        rows_sent (ports ++ closed)
            (every_append (IsPortOf plane) ports closed all.speak all.spoke),
        weights sent_of (order_of plane) (ports ++ closed) plane.apart
            (ports_in (order_of plane) (ports ++ closed) all.nobody) all.each,
        others,
      )
    where
      first : sent_in port feeder.trail.known
          ≡ sent_of (passes_in feeder (ports ++ closed) feeder_number)
      first = known_sent feeder.trail.known (feeder_known plane feeder all.feeds)

      others : sum_by (λ q. sent_of (passes_in feeder (ports ++ closed) q)) (order_of plane)
          ≡ sum_by (λ q. sent_of (pass_among (ports ++ closed) q)) (order_of plane)
      others = sum_same (λ q. sent_of (passes_in feeder (ports ++ closed) q))
          (λ q. sent_of (pass_among (ports ++ closed) q)) (order_of plane)
          (λ q is. ap sent_of (of_port feeder (ports ++ closed) q
          (not_feeder (order_of plane) q all.set_up.no_feeder is)))
