-- A segment of a history goes on with a history in order.
use Rattle.std.proofs.Common.{◌++◌, ◌∙◌, ◌∷◌, ◌≡◌, ◌⊎◌, Bool, List, [], ap, append-nil}
use Rattle.std.proofs.Common.{append_assoc, arith, false, inl, inr, length, refl, subst, suc, sym}
use Rattle.std.proofs.Common.{true, ℕ}
use Rattle.std.proofs.lemmas.Bool.{cases_Bool, eq-eqb, eqb-true}
use Rattle.std.specs.Prelude.{◌==◌, if◌then◌else◌, map}
use Rattle.nfqa_msgs.specs.declared.request.Request.{Request}
use Rattle.queue_core.specs.declared.event.Event.{Event}
use Rattle.queue_core.specs.declared.event.Event.TheVariants.{Arrive, Ask, DeviceDown, PortClosed}
use Rattle.histories.specs.declared.entry.Entry.{Entry}
use Rattle.nfqa_msgs.specs.NoticeTexts.{fits}
use Rattle.run_parts.specs.Order.{Answers, Kind, early_by, late_by}
use Rattle.run_parts.specs.Requests.{Plea, errno_in, pleas_by, pleas_in, pleas_of}
use Rattle.run_parts.specs.Underway.{IsNow, Ordered}
use Rattle.live_runs.specs.Seen.{EachIs}
use Rattle.live_runs.specs.Stages.{AreRanked, IsPlain, IsPlainEvent, IsRanked}
use Rattle.live_runs.proofs.DueRanks.{ordered_later, ordered_push}

first_kind : (ks : List Kind) (n : ℕ) → length ks ≡ suc n →
    (k : Kind) × (rest : List Kind) × (ks ≡ k ∷ rest) × (length rest ≡ n)
first_kind [] n is = let wrong : 0 ≡ suc n = is in absurd (omega (arith, wrong))
first_kind (k ∷ ks) n is =
    let so : suc (length ks) ≡ suc n = is in (k, ks, refl, omega (arith, so))

none_left : (ks : List Kind) → length ks ≡ 0 → ks ≡ []
none_left [] is = refl
none_left (k ∷ ks) is = let wrong : suc (length ks) ≡ 0 = is in absurd (omega (arith, wrong))

rest_are : (ports : List ℕ) (early late port : ℕ) (ks : List Kind) (k : Kind)
    (rest : List Kind) → ks ≡ k ∷ rest → AreRanked ports early late port ks →
    IsRanked ports early late port k × AreRanked ports early late port rest
rest_are ports early late port ks k rest is are = subst (AreRanked ports early late port) is are

module _ (ports : List ℕ) (early late : ℕ) where
  abbrev Goes : List Entry → Type 0
  Goes hs = (ks : ℕ → List Kind) (told : ℕ → List Kind) (h : List Entry) →
      ((p : ℕ) → length (ks p) ≡ length (pleas_in p hs)) →
      ((p : ℕ) → AreRanked ports early late p (ks p)) →
      Ordered ports early late told h → Ordered ports early late (λ p. told p ++ ks p) (h ++ hs)

  module _ (e : Entry) (hs : List Entry) (on : Goes hs) (ks : ℕ → List Kind) (told : ℕ → List Kind)
      (h : List Entry) (many : (p : ℕ) → length (ks p) ≡ length (pleas_in p (e ∷ hs)))
      (kinds : (p : ℕ) → AreRanked ports early late p (ks p))
      (is : Ordered ports early late told h) where
    -- an entry that is no request
    quiet : (early_by ports Answers e.event ≡ early) →
        IsNow late (late_by ports Answers e.event) → ((p : ℕ) → pleas_of p e ≡ []) →
        Ordered ports early late (λ p. told p ++ ks p) (h ++ e ∷ hs)
    quiet first last none =
        subst (Ordered ports early late (λ p. told p ++ ks p)) (append_assoc h (e ∷ []) hs)
        (on ks told (h ++ e ∷ [])
        (λ p. many p ∙ ap (λ ps. length (ps ++ pleas_in p hs)) (none p)) kinds
        (ordered_push ports early late told told h (record { entry = e; kind = Answers }) first
        last (λ p. ap (λ ps. told p ++ map (λ (x : Plea). Answers) ps) (none p)
        ∙ append-nil (told p)) is))

    module _ (by : ℕ) (x : Plea)
        (its : (p : ℕ) → pleas_of p e ≡ (if p == by then x ∷ [] else [])) where
      count : (p : ℕ) → ((p == by) ≡ true) ⊎ ((p == by) ≡ false) → (rest : List Kind) →
          length rest ≡ length (pleas_in by hs) →
          length (if p == by then rest else ks p) ≡ length (pleas_in p hs)
      count p (inl c) rest so = rw c (so ∙ ap (λ n. length (pleas_in n hs))
          (sym (eqb-true p by c)))
      count p (inr c) rest so = rw c (many p
          ∙ ap (λ ps. length (ps ++ pleas_in p hs)) (its p)
          ∙ ap (λ b. length ((if b then x ∷ [] else []) ++ pleas_in p hs)) c)

      each : (p : ℕ) → ((p == by) ≡ true) ⊎ ((p == by) ≡ false) → (rest : List Kind) →
          AreRanked ports early late by rest →
          AreRanked ports early late p (if p == by then rest else ks p)
      each p (inl c) rest so = rw c (subst (λ n. AreRanked ports early late n rest)
          (sym (eqb-true p by c)) so)
      each p (inr c) rest so = rw c (kinds p)

      joined : (p : ℕ) → ((p == by) ≡ true) ⊎ ((p == by) ≡ false) → (k : Kind)
          (rest : List Kind) → ks by ≡ k ∷ rest →
          (told p ++ (if p == by then k ∷ [] else [])) ++ (if p == by then rest else ks p)
          ≡ told p ++ ks p
      joined p (inl c) k rest so = rw c (append_assoc (told p) (k ∷ []) rest
          ∙ ap (λ xs. told p ++ xs) (sym (ap ks (eqb-true p by c) ∙ so)))
      joined p (inr c) k rest so = rw c (ap (λ xs. xs ++ ks p) (append-nil (told p)))

      marks_of : (p : ℕ) (c : Bool) (k : Kind) →
          told p ++ map (λ (y : Plea). k) (if c then x ∷ [] else [])
          ≡ told p ++ (if c then k ∷ [] else [])
      marks_of p true k = refl
      marks_of p false k = refl

      own : length (ks by) ≡ suc (length (pleas_in by hs))
      own = many by ∙ ap (λ ps. length (ps ++ pleas_in by hs)) (its by)
          ∙ ap (λ c. length ((if c then x ∷ [] else []) ++ pleas_in by hs)) (eq-eqb by by refl)

      request_goes : (call : ℕ) (r : Request) → e.event ≡ Ask by call r →
          Ordered ports early late (λ p. told p ++ ks p) (h ++ e ∷ hs)
      request_goes call r is_ask =
          let one = first_kind (ks by) (length (pleas_in by hs)) own in
          let k = one.0 in
          let rest = one.1 in
          let are = rest_are ports early late by (ks by) k rest one.2 (kinds by) in
          let more : ℕ → List Kind = λ p. if p == by then rest else ks p in
          let mid : ℕ → List Kind = λ p. told p ++ (if p == by then k ∷ [] else []) in
          subst (Ordered ports early late (λ p. told p ++ ks p)) (append_assoc h (e ∷ []) hs)
          (ordered_later ports early early late late (λ p. mid p ++ more p) (λ p. told p ++ ks p)
          ((h ++ e ∷ []) ++ hs) (omega arith) (omega arith)
          (λ p. joined p (cases_Bool (p == by)) k rest one.2)
          (on more mid (h ++ e ∷ []) (λ p. count p (cases_Bool (p == by)) rest one.3)
          (λ p. each p (cases_Bool (p == by)) rest are.1)
          (ordered_push ports early late told mid h (record { entry = e; kind = k })
          (ap (early_by ports k) is_ask ∙ are.0.0 call r)
          (subst (λ ev. IsNow late (late_by ports k ev)) (sym is_ask) are.0.1)
          (λ p. ap (λ ps. told p ++ map (λ (y : Plea). k) ps) (its p) ∙ marks_of p (p == by) k)
          is)))

    plain_one : (event : Event) → e.event ≡ event →
        (early_by ports Answers event ≡ early) × IsNow late (late_by ports Answers event) →
        ((p : ℕ) → pleas_by p event e.reply ≡ []) →
        Ordered ports early late (λ p. told p ++ ks p) (h ++ e ∷ hs)
    plain_one event is_so fits none =
        quiet (ap (early_by ports Answers) is_so ∙ fits.0)
        (subst (λ ev. IsNow late (late_by ports Answers ev)) (sym is_so) fits.1)
        (λ p. ap (λ ev. pleas_by p ev e.reply) is_so ∙ none p)

    any : (event : Event) → e.event ≡ event → IsPlainEvent ports early late event →
        Ordered ports early late (λ p. told p ++ ks p) (h ++ e ∷ hs)
    any (Arrive card bypass room) is_so fits =
        plain_one (Arrive card bypass room) is_so fits (λ p. refl)
    any (Ask port call r) is_so fits =
        request_goes port (record { call = call; request = r; errno = errno_in e.reply })
        (λ p. ap (λ ev. pleas_by p ev e.reply) is_so) call r is_so
    any (PortClosed port) is_so fits = plain_one (PortClosed port) is_so fits (λ p. refl)
    any (DeviceDown device) is_so fits = plain_one (DeviceDown device) is_so fits (λ p. refl)

  segment_goes : (hs : List Entry) → EachIs (IsPlain ports early late) hs → Goes hs
  segment_goes [] plain ks told h many kinds is =
      subst (Ordered ports early late (λ p. told p ++ ks p)) (sym (append-nil h))
      (ordered_later ports early early late late told (λ p. told p ++ ks p) h
      (omega arith) (omega arith)
      (λ p. sym (append-nil (told p)) ∙ ap (λ xs. told p ++ xs) (sym (none_left (ks p) (many p))))
      is)
  segment_goes (e ∷ hs) plain ks told h many kinds is =
      any e hs (segment_goes hs plain.1) ks told h many kinds is e.event refl plain.0

  pub segment_ordered : (hs : List Entry) (ks : ℕ → List Kind) (told : ℕ → List Kind)
      (h : List Entry) →
      ((p : ℕ) → length (ks p) ≡ length (pleas_in p hs)) →
      ((p : ℕ) → AreRanked ports early late p (ks p)) →
      EachIs (IsPlain ports early late) hs → Ordered ports early late told h →
      Ordered ports early late (λ p. told p ++ ks p) (h ++ hs)
  segment_ordered hs ks told h many kinds plain is = segment_goes hs plain ks told h many kinds is
