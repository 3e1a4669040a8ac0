-- The order of a queue's entries, entry by entry.
use Rattle.std.proofs.Common.{◌≡◌, ◌≤◌, ◌⊎◌, ℕ, List, [], ◌∷◌, ◌++◌, Option, Some, None, Bool}
use Rattle.std.proofs.Common.{true, false, refl, sym, ap, ◌∙◌, subst, inl, inr, cond, map}
use Rattle.std.proofs.Common.{arith, ◌↔◌, true≢false}
use Rattle.std.specs.Prelude.{◌==◌, nat_lt, flat_map}
use Rattle.std.proofs.lemmas.Bool.{cases_Bool, eq-eqb, eqb-true, ltb-true, ltb-false}
use Rattle.packet_entry.specs.declared.packet.Card.{Card}
use Rattle.queue_core.specs.declared.event.Event.{Event}
use Rattle.queue_core.specs.declared.event.Event.TheVariants.{Arrive, Ask, PortClosed, DeviceDown}
use Rattle.queue_core.specs.declared.event.Reply.{Reply}
use Rattle.histories.specs.declared.entry.Entry.{Entry}
use Rattle.run_parts.specs.Ascending.{AscendFrom}
use Rattle.run_parts.specs.Order.{Kind, Opens, Answers, Ends, Marked, kinds_of, early_rank}
use Rattle.run_parts.specs.Order.{late_ranks}
use Rattle.run_parts.specs.Order.{early_by, late_by}
use Rattle.run_parts.specs.Requests.{Plea, pleas_of, pleas_by}
use Rattle.run_parts.specs.Underway.{last_of}
use Rattle.port_audit.specs.declared.order.Ranks.{Ranks}
use Rattle.port_audit.specs.Ranking.{IsOrderedFrom, ranks_then, ranked, late_then}

-- ---- numbers that ascend

pub ascend_more : (low : ℕ) (xs ys : List ℕ) → AscendFrom low xs →
    AscendFrom (last_of low xs) ys → AscendFrom low (xs ++ ys)
ascend_more low [] ys one two = two
ascend_more low (x ∷ xs) ys one two = (one.0, ascend_more x xs ys one.1 two)

pub ascend_parts : (low : ℕ) (xs ys : List ℕ) → AscendFrom low (xs ++ ys) →
    AscendFrom low xs × AscendFrom (last_of low xs) ys
ascend_parts low [] ys all = (tt, all)
ascend_parts low (x ∷ xs) ys all =
    let parts = ascend_parts x xs ys all.1 in ((all.0, parts.0), parts.1)

-- ---- one entry

first_entry : {d e : Entry} {ds es : List Entry} → d ∷ ds ≡ e ∷ es → d ≡ e
first_entry h = cc

other_entries : {d e : Entry} {ds es : List Entry} → d ∷ ds ≡ e ∷ es → ds ≡ es
other_entries h = cc

-- the kinds that an entry of this kind has
abbrev pub kinds_at : ℕ → Kind → Entry → List Kind
kinds_at p k e = map (λ (plea : Plea). k) (pleas_of p e)

module _ (ports : List ℕ) where
  pub told_change : (low behind : ℕ) (t u : ℕ → List Kind) (h : List Entry) →
      ((p : ℕ) → t p ≡ u p) → IsOrderedFrom ports low behind t h →
      IsOrderedFrom ports low behind u h
  told_change low behind t u h same is = record {
    marks = is.marks;
    entries = is.entries;
    kinds = λ p. is.kinds p ∙ same p;
    early = is.early;
    late = is.late;
  }

  -- an entry of this kind may come first
  pub step_back : (low behind : ℕ) (told rest : ℕ → List Kind) (e : Entry) (es : List Entry)
      (k : Kind) → low ≤ early_by ports k e.event → AscendFrom behind (late_by ports k e.event) →
      ((p : ℕ) → kinds_at p k e ++ rest p ≡ told p) →
      IsOrderedFrom ports (early_by ports k e.event)
      (last_of behind (late_by ports k e.event)) rest es →
      IsOrderedFrom ports low behind told (e ∷ es)
  step_back low behind told rest e es k early late kinds is = record {
    marks = record { entry = e; kind = k } ∷ is.marks;
    entries = ap (λ (ds : List Entry). e ∷ ds) is.entries;
    kinds = λ p. ap (λ ks. kinds_at p k e ++ ks) (is.kinds p) ∙ kinds p;
    early = (early, is.early);
    late = ascend_more behind (late_by ports k e.event)
        (flat_map (late_ranks ports) is.marks) late is.late;
  }

  -- where an order begins with an entry, it is of some kind
  pub record BeginsWith (low behind : ℕ) (told : ℕ → List Kind) (e : Entry) (es : List Entry)
      : Type 0 where
    pub kind : Kind
    pub rest : ℕ → List Kind
    pub early : low ≤ early_by ports kind e.event
    pub late : AscendFrom behind (late_by ports kind e.event)
    pub kinds : (p : ℕ) → told p ≡ kinds_at p kind e ++ rest p
    pub others : IsOrderedFrom ports (early_by ports kind e.event)
        (last_of behind (late_by ports kind e.event)) rest es

  pub step_on : (low behind : ℕ) (told : ℕ → List Kind) (e : Entry) (es : List Entry) →
      IsOrderedFrom ports low behind told (e ∷ es) → BeginsWith low behind told e es
  step_on low behind told e es is = by is.marks is.entries is.kinds is.early is.late
    where
      by : (ms : List Marked) → map (λ (m : Marked). m.entry) ms ≡ e ∷ es →
          ((p : ℕ) → flat_map (kinds_of p) ms ≡ told p) →
          AscendFrom low (map (early_rank ports) ms) →
          AscendFrom behind (flat_map (late_ranks ports) ms) →
          BeginsWith low behind told e es
      by [] none kinds early late = absurd (cc)
      by (m ∷ ms) entries kinds early late =
          let same : m.entry ≡ e = first_entry entries in
          let E = early_by ports m.kind e.event in
          let L = late_by ports m.kind e.event in
          let early_is : early_rank ports m ≡ E =
          ap (λ (d : Entry). early_by ports m.kind d.event) same in
          let late_is : late_ranks ports m ≡ L =
          ap (λ (d : Entry). late_by ports m.kind d.event) same in
          let parts = ascend_parts behind L (flat_map (late_ranks ports) ms)
          (subst (λ xs. AscendFrom behind (xs ++ flat_map (late_ranks ports) ms)) late_is late) in
          let both : AscendFrom low (E ∷ map (early_rank ports) ms) =
          subst (λ n. AscendFrom low (n ∷ map (early_rank ports) ms)) early_is early in
          record {
            kind = m.kind;
            rest = λ p. flat_map (kinds_of p) ms;
            early = both.0;
            late = parts.0;
            kinds = λ p. sym (kinds p)
                ∙ ap (λ (d : Entry). kinds_at p m.kind d ++ flat_map (kinds_of p) ms) same;
            others = record {
              marks = ms;
              entries = other_entries entries;
              kinds = λ p. refl;
              early = both.1;
              late = parts.1;
            };
          }

  -- ---- no entry

  pub none_ordered : (low behind : ℕ) (told : ℕ → List Kind) →
      IsOrderedFrom ports low behind told [] ↔ ((p : ℕ) → told p ≡ [])
  none_ordered low behind told = (
    λ is p. by is.marks is.entries is.kinds p,
    λ none. record {
      marks = [];
      entries = refl;
      kinds = λ p. sym (none p);
      early = tt;
      late = tt;
    },
  )
    where
      by : (ms : List Marked) → map (λ (m : Marked). m.entry) ms ≡ [] →
          ((p : ℕ) → flat_map (kinds_of p) ms ≡ told p) → (p : ℕ) → told p ≡ []
      by [] none kinds p = sym (kinds p)
      by (m ∷ ms) none kinds p = absurd (cc)

  -- ---- an entry that is no request

  -- its ranks are the same for each kind
  pub record IsPlain (v : Event) : Type 0 where
    pub early : (k : Kind) → early_by ports k v ≡ early_by ports Answers v
    pub late : (k : Kind) → late_by ports k v ≡ late_by ports Answers v
    pub none : (p : ℕ) (reply : Reply) → pleas_by p v reply ≡ []

  plain_by : (v : Event) → early_by ports Opens v ≡ early_by ports Answers v →
      early_by ports Ends v ≡ early_by ports Answers v →
      ((k : Kind) → late_by ports k v ≡ late_by ports Answers v) →
      ((p : ℕ) (reply : Reply) → pleas_by p v reply ≡ []) → IsPlain v
  plain_by v opens ends late none = record { early = by; late = late; none = none }
    where
      by : (k : Kind) → early_by ports k v ≡ early_by ports Answers v
      by Opens = opens
      by Answers = refl
      by Ends = ends

  pub arrival_plain : (card : Card) (bypass room : Bool) → IsPlain (Arrive card bypass room)
  arrival_plain card bypass room =
      plain_by (Arrive card bypass room) refl refl (λ k. refl) (λ p reply. refl)

  pub closing_plain : (port : ℕ) → IsPlain (PortClosed port)
  closing_plain port = plain_by (PortClosed port) refl refl (λ k. refl) (λ p reply. refl)

  pub falling_plain : (device : ℕ) → IsPlain (DeviceDown device)
  falling_plain device = plain_by (DeviceDown device) refl refl (λ k. refl) (λ p reply. refl)

  pub plain_on : (low behind : ℕ) (told : ℕ → List Kind) (e : Entry) (es : List Entry) →
      IsPlain e.event → IsOrderedFrom ports low behind told (e ∷ es) →
      (low ≤ early_by ports Answers e.event)
      × AscendFrom behind (late_by ports Answers e.event)
      × IsOrderedFrom ports (early_by ports Answers e.event)
      (last_of behind (late_by ports Answers e.event)) told es
  plain_on low behind told e es plain is =
      let begins = step_on low behind told e es is in
      let k = begins.kind in (
        subst (λ n. low ≤ n) (plain.early k) begins.early,
        subst (AscendFrom behind) (plain.late k) begins.late,
        subst (λ n. IsOrderedFrom ports n (last_of behind (late_by ports Answers e.event)) told es)
            (plain.early k)
            (subst (λ xs. IsOrderedFrom ports (early_by ports k e.event) (last_of behind xs) told
            es) (plain.late k)
            (told_change (early_by ports k e.event) (last_of behind (late_by ports k e.event))
            begins.rest told es
            (λ p. sym (begins.kinds p
            ∙ ap (λ ps. map (λ (plea : Plea). k) ps ++ begins.rest p) (plain.none p e.reply)))
            begins.others)),
      )

  pub plain_back : (low behind : ℕ) (told : ℕ → List Kind) (e : Entry) (es : List Entry) →
      IsPlain e.event → low ≤ early_by ports Answers e.event →
      AscendFrom behind (late_by ports Answers e.event) →
      IsOrderedFrom ports (early_by ports Answers e.event)
      (last_of behind (late_by ports Answers e.event)) told es →
      IsOrderedFrom ports low behind told (e ∷ es)
  plain_back low behind told e es plain early late is =
      step_back low behind told told e es Answers early late
      (λ p. ap (λ ps. map (λ (plea : Plea). Answers) ps ++ told p) (plain.none p e.reply)) is

  -- ---- a request

  module _ (low behind : ℕ) (told : ℕ → List Kind) (e : Entry) (es : List Entry) (port : ℕ)
      (plea : Plea) (own : pleas_of port e ≡ plea ∷ [])
      (others : (p : ℕ) → (port ≡ p → ⊥) → pleas_of p e ≡ []) where
    first_kind : {j k : Kind} {js ks : List Kind} → j ∷ js ≡ k ∷ ks → j ≡ k
    first_kind h = cc

    other_kinds : {j k : Kind} {js ks : List Kind} → j ∷ js ≡ k ∷ ks → js ≡ ks
    other_kinds h = cc

    -- without a kind it can't stand there
    pub unasked_none : told port ≡ [] → IsOrderedFrom ports low behind told (e ∷ es) → ⊥
    unasked_none none is =
        let begins = step_on low behind told e es is in
        let wrong : [] ≡ begins.kind ∷ begins.rest port =
        sym none ∙ begins.kinds port
        ∙ ap (λ ps. map (λ (q : Plea). begins.kind) ps ++ begins.rest port) own in
        absurd (cc)

    module _ (k : Kind) (rest : ℕ → List Kind) (first : told port ≡ k ∷ rest port)
        (same : (p : ℕ) → (port ≡ p → ⊥) → told p ≡ rest p) where
      pub asked_on : IsOrderedFrom ports low behind told (e ∷ es) →
          (low ≤ early_by ports k e.event) × AscendFrom behind (late_by ports k e.event)
          × IsOrderedFrom ports (early_by ports k e.event)
          (last_of behind (late_by ports k e.event)) rest es
      asked_on is =
          let begins = step_on low behind told e es is in
          let both : k ∷ rest port ≡ begins.kind ∷ begins.rest port =
          sym first ∙ begins.kinds port
          ∙ ap (λ ps. map (λ (q : Plea). begins.kind) ps ++ begins.rest port) own in
          let is_kind : begins.kind ≡ k = sym (first_kind both) in
          let rests : (p : ℕ) → begins.rest p ≡ rest p =
          λ p. elim (cases_Bool (port == p)) [
            | inl here ↦ subst (λ n. begins.rest n ≡ rest n) (eqb-true port p here)
                (sym (other_kinds both))
            | inr there ↦ (let differ : port ≡ p → ⊥ =
                λ at. true≢false (sym (eq-eqb port p at) ∙ there) in
                sym (begins.kinds p
                ∙ ap (λ ps. map (λ (q : Plea). begins.kind) ps ++ begins.rest p)
                (others p differ)) ∙ same p differ)
          ] in
          subst (λ j. (low ≤ early_by ports j e.event) × AscendFrom behind (late_by ports j e.event)
          × IsOrderedFrom ports (early_by ports j e.event)
          (last_of behind (late_by ports j e.event)) rest es) is_kind (
            begins.early,
            begins.late,
            told_change (early_by ports begins.kind e.event)
                (last_of behind (late_by ports begins.kind e.event)) begins.rest rest es rests
                begins.others,
          )

      pub asked_back : low ≤ early_by ports k e.event →
          AscendFrom behind (late_by ports k e.event) →
          IsOrderedFrom ports (early_by ports k e.event)
          (last_of behind (late_by ports k e.event)) rest es →
          IsOrderedFrom ports low behind told (e ∷ es)
      asked_back early late is =
          step_back low behind told rest e es k early late kinds is
        where
          kinds : (p : ℕ) → kinds_at p k e ++ rest p ≡ told p
          kinds p = elim (cases_Bool (port == p)) [
            | inl here ↦ subst (λ n. kinds_at n k e ++ rest n ≡ told n) (eqb-true port p here)
                (ap (λ ps. map (λ (q : Plea). k) ps ++ rest port) own ∙ sym first)
            | inr there ↦ (let differ : port ≡ p → ⊥ =
                λ at. true≢false (sym (eq-eqb port p at) ∙ there) in
                ap (λ ps. map (λ (q : Plea). k) ps ++ rest p) (others p differ)
                ∙ sym (same p differ))
          ]

-- ---- ranks that are kept

-- an entry has one late rank at most
pub one_late : (ports : List ℕ) (k : Kind) (v : Event) →
    (late_by ports k v ≡ []) ⊎ ((l : ℕ) × (late_by ports k v ≡ l ∷ []))
one_late ports k (Arrive card bypass room) = by (card.visit == 1)
  where
    by : (b : Bool) → (cond {A = List ℕ} b (0 ∷ []) [] ≡ [])
        ⊎ ((l : ℕ) × (cond {A = List ℕ} b (0 ∷ []) [] ≡ l ∷ []))
    by true = inr (0, refl)
    by false = inl refl
one_late ports Opens (Ask port call request) = inl refl
one_late ports Answers (Ask port call request) = inl refl
one_late ports Ends (Ask port call request) = inr (_, refl)
one_late ports k (PortClosed port) = inr (_, refl)
one_late ports k (DeviceDown device) = inr (0, refl)

late_some : (behind late : ℕ) (ls : List ℕ) →
    (ls ≡ []) ⊎ ((l : ℕ) × (ls ≡ l ∷ [])) → late_then behind ls ≡ Some late →
    AscendFrom behind ls × (late ≡ last_of behind ls)
late_some behind late ls (inl none) is =
    let same : Some behind ≡ Some late = sym (ap (late_then behind) none) ∙ is in (
      subst (AscendFrom behind) (sym none) tt,
      subst (λ xs. late ≡ last_of behind xs) (sym none) (sym (some_is same)),
    )
  where
    some_is : {m n : ℕ} → Some m ≡ Some n → m ≡ n
    some_is h = cc
late_some behind late ls (inr (l, one)) is = by (nat_lt l behind) refl
    (sym (ap (late_then behind) one) ∙ is)
  where
    some_is : {m n : ℕ} → Some m ≡ Some n → m ≡ n
    some_is h = cc

    by : (b : Bool) → nat_lt l behind ≡ b → cond b None (Some l) ≡ Some late →
        AscendFrom behind ls × (late ≡ last_of behind ls)
    by true less wrong = absurd (let no : None ≡ Some late = wrong in cc)
    by false more same = (
      subst (AscendFrom behind) (sym one) (ltb-false l behind more, tt),
      subst (λ xs. late ≡ last_of behind xs) (sym one) (sym (some_is same)),
    )

late_none : (behind : ℕ) (ls : List ℕ) → late_then behind ls ≡ None → AscendFrom behind ls → ⊥
late_none behind [] is all = absurd (let no : Some behind ≡ None = is in cc)
late_none behind (l ∷ ls) is all = by (nat_lt l behind) refl is
  where
    by : (b : Bool) → nat_lt l behind ≡ b → cond b None (Some l) ≡ None → ⊥
    by true less none = omega (arith, ltb-true l behind less, all.0)
    by false more wrong = absurd (let no : Some l ≡ None = wrong in cc)

module _ (ports : List ℕ) (low behind : ℕ) (k : Kind) (v : Event) where
  -- these ranks come next
  pub record AreNext (r : Ranks) : Type 0 where
    pub low_is : low ≤ early_by ports k v
    pub ascend : AscendFrom behind (late_by ports k v)
    pub early : r.early ≡ early_by ports k v
    pub late : r.late ≡ last_of behind (late_by ports k v)

  same_ranks : {q r : Ranks} → Some q ≡ Some r → r ≡ q
  same_ranks h = cc

  late_are : (o : Option ℕ) (r : Ranks) → low ≤ early_by ports k v →
      late_then behind (late_by ports k v) ≡ o → ranked (early_by ports k v) o ≡ Some r → AreNext r
  late_are None r above is wrong = absurd (cc)
  late_are (Some late) r above is same =
      let parts = late_some behind late (late_by ports k v) (one_late ports k v) is in
      record {
        low_is = above;
        ascend = parts.0;
        early = ap (λ (q : Ranks). q.early) (same_ranks same);
        late = ap (λ (q : Ranks). q.late) (same_ranks same) ∙ parts.1;
      }

  pub ranks_are : (r : Ranks) → ranks_then ports low behind k v ≡ Some r → AreNext r
  ranks_are r is = by (nat_lt (early_by ports k v) low) refl is
    where
      by : (b : Bool) → nat_lt (early_by ports k v) low ≡ b →
          cond b None (ranked (early_by ports k v) (late_then behind (late_by ports k v)))
          ≡ Some r → AreNext r
      by true less wrong = absurd (cc)
      by false more same =
          late_are (late_then behind (late_by ports k v)) r
          (ltb-false (early_by ports k v) low more) refl same

  none_late : (o : Option ℕ) → late_then behind (late_by ports k v) ≡ o →
      ranked (early_by ports k v) o ≡ None → AscendFrom behind (late_by ports k v) → ⊥
  none_late None is none all = late_none behind (late_by ports k v) is all
  none_late (Some late) is wrong all = absurd (cc)

  -- none can come next
  pub ranks_none : ranks_then ports low behind k v ≡ None → low ≤ early_by ports k v →
      AscendFrom behind (late_by ports k v) → ⊥
  ranks_none is above all = by (nat_lt (early_by ports k v) low) refl is
    where
      by : (b : Bool) → nat_lt (early_by ports k v) low ≡ b →
          cond b None (ranked (early_by ports k v) (late_then behind (late_by ports k v)))
          ≡ None → ⊥
      by true less none = omega (arith, ltb-true (early_by ports k v) low less, above)
      by false more none = none_late (late_then behind (late_by ports k v)) refl none all
