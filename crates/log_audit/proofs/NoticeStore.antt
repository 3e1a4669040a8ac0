-- Notices that are kept, entry by entry.
use Rattle.std.proofs.Common.{◌≡◌, ◌∙◌, ℕ, List, [], ◌∷◌, ◌++◌, refl, sym, ap, subst, inl, inr}
use Rattle.std.proofs.Common.{Bool, true, false, Option, Some, None, cond}
use Rattle.std.specs.Prelude.{find, ◌==◌, OnOk, Result, Ok, Err, option_map}
use Rattle.std.specs.BTreeMap.{get, is_at}
use Rattle.std.specs.Option.{option_or}
use Rattle.std.specs.Ordering.{is_eq, nat_cmp, ordering_then}
use Rattle.std.specs.Cmp.{nat_cmp_is}
use Rattle.std.specs.declared.cmp.Ordering.{Ordering}
use Rattle.std.specs.declared.cmp.Ordering.TheVariants.{Less, Equal, Greater}
use Rattle.std.proofs.lemmas.Bool.{and_from, and_parts, cases_Bool, eq-eqb, eqb-true}
use Rattle.std.proofs.lemmas.List.Folds.{find-append}
use Rattle.std.proofs.lemmas.Map.Lookups.{exact_unsigned, exact_pairs}
use Rattle.packet_entry.specs.declared.letter.Letter.{Letter}
use Rattle.packet_entry.specs.declared.packet.Card.{Card}
use Rattle.nfqa_msgs.specs.NoticeMeaning.{notice_of}
use Rattle.nfqa_msgs.specs.NoticeWriting.{notice}
use Rattle.nfqa_msgs.specs.declared.notice.Notice.{Notice}
use Rattle.queue_core.specs.State.{Bound}
use Rattle.queue_core.specs.Step.{step}
use Rattle.queue_core.specs.WithOffer.{letter_of}
use Rattle.histories.specs.declared.entry.Entry.{Entry}
use Rattle.histories.specs.History.{history, replay}
use Rattle.nfqa_msgs.specs.NoticeTexts.{told_exactly}
use Rattle.queue_replay.specs.declared.found.Found.{Found}
use Rattle.queue_replay.specs.Replays.{IsToldBy, port_in}
use Rattle.histories.specs.QueueHistories.{others_last, state_last}
use Rattle.log_audit.specs.PortWalks.{IsTold}
use Rattle.log_audit.specs.Stays.{ArePackets, AreTold, Keeps, KeepsFirst, NoticeMap}
use Rattle.log_audit.specs.Stays.{all_letters, at_queue}
use Rattle.log_audit.specs.Stays.{is_visit, known_in, letters_at, or_else, or_this, stay, stay_cmp}
use Rattle.log_audit.specs.declared.notices.Stay.{Stay}

-- ---- stays

equal : (o : Ordering) → is_eq o ≡ true → o ≡ Equal
equal Less h = absurd (cc)
equal Equal h = refl
equal Greater h = absurd (cc)

abbrev pair_cmp : ℕ × ℕ → ℕ × ℕ → Ordering
pair_cmp a b = ordering_then (nat_cmp a.0 b.0) (nat_cmp a.1 b.1)

exact_number : (a b : ℕ × ℕ) → pair_cmp a b ≡ Equal → a ≡ b
exact_number a b h = exact_pairs nat_cmp nat_cmp exact_unsigned exact_unsigned a b h

pub same_stay : (a b : Stay) → is_at (stay_cmp a) b ≡ true → a ≡ b
same_stay a b h =
    ap (λ (p : ℕ × (ℕ × ℕ)). record { queue = p.0; number = p.1.0; visit = p.1.1 })
    (exact_pairs nat_cmp pair_cmp exact_unsigned exact_number (a.queue, (a.number, a.visit))
    (b.queue, (b.number, b.visit)) (equal (stay_cmp a b) h))

alike : (n : ℕ) → nat_cmp n n ≡ Equal
alike n = sym (nat_cmp_is n n Equal refl)

pub stay_itself : (a : Stay) → is_at (stay_cmp a) a ≡ true
stay_itself a =
    ap (λ o. is_eq (ordering_then o (ordering_then (nat_cmp a.number a.number)
    (nat_cmp a.visit a.visit)))) (alike a.queue)
    ∙ ap (λ o. is_eq (ordering_then o (nat_cmp a.visit a.visit))) (alike a.number)
    ∙ ap is_eq (alike a.visit)

-- ---- one notice

or_none : (o : Option Letter) → or_else o None ≡ o
or_none None = refl
or_none (Some l) = refl

-- a notice that is kept of its own stay
kept_own : (l : Letter) (n : Notice) (o : Option Letter) (kept : Option Notice) →
    IsTold (Some l) (Some n) → IsTold o kept → IsTold (or_else o (Some l)) (or_this kept n)
kept_own l n None None told is = told
kept_own l n None (Some other) told is = absurd is
kept_own l n (Some m) None told is = absurd is
kept_own l n (Some m) (Some other) told is = is

find_own : (number visit : ℕ) (l : Letter) → l.number ≡ number → l.visit ≡ visit →
    find (is_visit number visit) (l ∷ []) ≡ Some l
find_own number visit l numbers visits =
    ap (λ b. cond b (Some l) None)
    (and_from (l.number == number) (l.visit == visit) (eq-eqb l.number number numbers)
    (eq-eqb l.visit visit visits))

find_other : (number visit : ℕ) (l : Letter) → (l.number ≡ number → l.visit ≡ visit → ⊥) →
    find (is_visit number visit) (l ∷ []) ≡ None
find_other number visit l differ = by (is_visit number visit l) refl
  where
    by : (b : Bool) → is_visit number visit l ≡ b → cond b (Some l) None ≡ None
    by true is =
        let parts = and_parts (l.number == number) (l.visit == visit) is in
        absurd (differ (eqb-true l.number number parts.0) (eqb-true l.visit visit parts.1))
    by false is = refl

-- of another stay nothing is found
found_none : (from queue number visit : ℕ) (l : Letter) →
    (from ≡ queue → l.number ≡ number → l.visit ≡ visit → ⊥) →
    find (is_visit number visit) (at_queue from queue (l ∷ [])) ≡ None
found_none from queue number visit l differ = by (from == queue) refl
  where
    by : (b : Bool) → (from == queue) ≡ b → find (is_visit number visit) (cond b (l ∷ []) []) ≡ None
    by true is = find_other number visit l (differ (eqb-true from queue is))
    by false is = refl

pub keeps_one : (from : ℕ) (l : Letter) (n : Notice) (old new : NoticeMap) →
    IsTold (Some l) (Some n) → KeepsFirst (stay from l.number l.visit) n old new →
    Keeps (l ∷ []) from old new
keeps_one from l n old new told keeps queue number visit o is =
    let own = stay from l.number l.visit in
    elim (cases_Bool (is_at (stay_cmp own) (stay queue number visit))) [
      | inl here ↦
          let same = same_stay own (stay queue number visit) here in
          let P : Stay → Type 0 = λ s. IsTold o (get stay_cmp old s) →
          IsTold (or_else o (find (is_visit s.number s.visit) (at_queue from s.queue (l ∷ []))))
          (get stay_cmp new s) in
          subst P same (λ was.
          let found : find (is_visit l.number l.visit) (at_queue from from (l ∷ [])) ≡ Some l =
          ap (λ b. find (is_visit l.number l.visit) (cond b (l ∷ []) [])) (eq-eqb from from refl)
          ∙ find_own l.number l.visit l refl refl in
          subst (λ f. IsTold (or_else o f) (get stay_cmp new own)) (sym found)
          (subst (IsTold (or_else o (Some l))) (sym keeps.own)
          (kept_own l n o (get stay_cmp old own) told was))) is
      | inr other ↦
          let none = found_none from queue number visit l (λ queues numbers visits.
          let same : own ≡ stay queue number visit =
          ap (λ q. stay q l.number l.visit) queues ∙ ap (λ n. stay queue n l.visit) numbers
          ∙ ap (λ v. stay queue number v) visits in
          clash (sym (stay_itself own)
          ∙ subst (λ s. is_at (stay_cmp own) s ≡ false) (sym same) other)) in
          subst (λ f. IsTold (or_else o f) (get stay_cmp new (stay queue number visit))) (sym none)
          (subst (λ p. IsTold p (get stay_cmp new (stay queue number visit))) (sym (or_none o))
          (subst (IsTold o) (sym (keeps.others (stay queue number visit) other)) is))
    ]
  where
    clash : true ≡ false → ⊥
    clash wrong = cc

-- ---- entry by entry

-- what is known of a stay is what is kept of it, or else what the entries tell that are still to
-- come
pub record IsKeptAt (entries before rest : List Entry) (notices : NoticeMap)
    (queue number visit : ℕ) : Type 0 where
  pub letter : Option Letter
  pub told : IsTold letter (get stay_cmp notices (stay queue number visit))
  pub known : known_in entries queue number visit
      ≡ or_else letter (find (is_visit number visit)
      (all_letters (replay (history queue before)) (history queue rest)))

abbrev pub AreKept : List Entry → List Entry → List Entry → NoticeMap → Type 0
AreKept entries before rest notices = (queue number visit : ℕ) →
    IsKeptAt entries before rest notices queue number visit

-- and the packets of those are packets
abbrev pub AreKeptSoFar : List Entry → NoticeMap → List Entry → List Entry → Type 0
AreKeptSoFar entries notices before rest = AreKept entries before rest notices × ArePackets rest

pub kept_begun : (entries : List Entry) (notices : NoticeMap) →
    ((s : Stay) → get stay_cmp notices s ≡ None) → AreKept entries [] entries notices
kept_begun entries notices no_notice queue number visit = record {
  letter = None;
  told = subst (IsTold None) (sym (no_notice (stay queue number visit))) tt;
  known = refl;
}

or_or : (o a b : Option Letter) → or_else o (option_or a b) ≡ or_else (or_else o a) b
or_or None None b = refl
or_or None (Some l) b = refl
or_or (Some m) a b = refl

module _ (number visit : ℕ) (e : Entry) (behind : List Entry) (was now : Option Bound)
    (o : Option Letter) where
  -- an entry of another queue
  other_on : (queue : ℕ) (letters : List Letter) → (e.queue == queue) ≡ false → now ≡ was →
      or_else o (find (is_visit number visit) (all_letters was (history queue (e ∷ behind))))
      ≡ or_else (or_else o (find (is_visit number visit) (at_queue e.queue queue letters)))
      (find (is_visit number visit) (all_letters now (history queue behind)))
  other_on queue letters other stays =
      let more = history queue behind in
      let Found : Option Letter → Option Letter = λ f. or_else (or_else o f)
      (find (is_visit number visit) (all_letters now more)) in
      ap (λ b. or_else o (find (is_visit number visit)
      (all_letters was (cond b (e ∷ more) more)))) other
      ∙ ap (λ q. or_else o (find (is_visit number visit) (all_letters q more))) (sym stays)
      ∙ ap (λ f. or_else f (find (is_visit number visit) (all_letters now more)))
      (sym (or_none o))
      ∙ ap (λ b. Found (find (is_visit number visit) (cond b letters []))) (sym other)

  -- an entry of its own queue
  own_on : now ≡ (step was e.event).state →
      or_else o (find (is_visit number visit) (all_letters was (history e.queue (e ∷ behind))))
      ≡ or_else (or_else o (find (is_visit number visit)
      (at_queue e.queue e.queue (letters_at was e))))
      (find (is_visit number visit) (all_letters now (history e.queue behind)))
  own_on state =
      let letters = letters_at was e in
      let test = is_visit number visit in
      let more = history e.queue behind in
      let itself = eq-eqb e.queue e.queue refl in
      let Found : Option Letter → Option Letter = λ f. or_else (or_else o f)
      (find test (all_letters now more)) in
      ap (λ b. or_else o (find test (all_letters was (cond b (e ∷ more) more)))) itself
      ∙ ap (or_else o) (find-append test letters (all_letters (step was e.event).state more))
      ∙ or_or o (find test letters) (find test (all_letters (step was e.event).state more))
      ∙ ap (λ s. or_else (or_else o (find test letters)) (find test (all_letters s more)))
      (sym state)
      ∙ ap (λ b. Found (find test (cond b letters []))) (sym itself)

pub kept_on : (entries before behind : List Entry) (e : Entry) (notices new : NoticeMap) →
    Keeps (letters_at (replay (history e.queue before)) e) e.queue notices new →
    AreKept entries before (e ∷ behind) notices → AreKept entries (before ++ e ∷ []) behind new
kept_on entries before behind e notices new keeps are queue number visit =
    let was = are queue number visit in
    let letters = letters_at (replay (history e.queue before)) e in
    let now : List Entry = before ++ e ∷ [] in
    record {
      letter = or_else was.letter (find (is_visit number visit) (at_queue e.queue queue letters));
      told = keeps queue number visit was.letter was.told;
      known = was.known ∙ elim (cases_Bool (e.queue == queue)) [
        | inl own ↦
            let P : ℕ → Type 0 = λ q.
            or_else was.letter (find (is_visit number visit)
            (all_letters (replay (history q before)) (history q (e ∷ behind))))
            ≡ or_else (or_else was.letter
            (find (is_visit number visit) (at_queue e.queue q letters)))
            (find (is_visit number visit)
            (all_letters (replay (history q now)) (history q behind))) in
            subst P (eqb-true e.queue queue own)
            (own_on number visit e behind (replay (history e.queue before))
            (replay (history e.queue now)) was.letter
            (state_last before e))
        | inr other ↦ other_on number visit e behind (replay (history queue before))
            (replay (history queue now)) was.letter queue letters other
            (ap replay (others_last before e queue other))
      ];
    }

pub kept_all : (entries : List Entry) (notices : NoticeMap) → AreKept entries entries [] notices →
    AreTold (known_in entries) notices
kept_all entries notices are queue number visit =
    let was = are queue number visit in
    subst (λ o. IsTold o (get stay_cmp notices (stay queue number visit)))
    (sym (was.known ∙ or_none was.letter)) was.told

-- ---- the notices of an entry

keeps_nothing : (from : ℕ) (notices : NoticeMap) → Keeps [] from notices notices
keeps_nothing from notices queue number visit o is =
    subst (λ p. IsTold p (get stay_cmp notices (stay queue number visit)))
    (sym (ap (λ ls. or_else o (find (is_visit number visit) ls)) (by (from == queue)) ∙ or_none o))
    is
  where
    by : (b : Bool) → cond b (let ls : List Letter = [] in ls) [] ≡ []
    by true = refl
    by false = refl

-- whatever the queue is, of which this was found
abbrev pub KeepsAt : Found → Entry → NoticeMap → NoticeMap → Type 0
KeepsAt here e old new = (q : Option Bound) → here.port ≡ port_in q → IsToldBy q here →
    Keeps (letters_at q e) e.queue old new

pub keeps_unbound : (here : Found) (e : Entry) (notices : NoticeMap) → here.port ≡ None →
    KeepsAt here e notices notices
keeps_unbound here e notices none None port told = keeps_nothing e.queue notices
keeps_unbound here e notices none (Some b) port told =
    absurd (let wrong : None ≡ Some b.port = sym none ∙ port in cc)

pub keeps_bound : {E : Type 0} (r : Result (Unit {0}) E) (here : Found) (e : Entry)
    (old new : NoticeMap) (p : ℕ) → here.port ≡ Some p →
    OnOk r ((b : Bound) → IsToldBy (Some b) here →
    Keeps (letters_at (Some b) e) e.queue old new) → OnOk r (KeepsAt here e old new)
keeps_bound {E} (Err x) here e old new p some each = tt
keeps_bound {E} (Ok u) here e old new p some each = at
  where
    at : KeepsAt here e old new
    at None port told = absurd (let wrong : Some p ≡ None = sym some ∙ port in cc)
    at (Some b) port told = each b told

-- ---- the notice of an arrival

pub keeps_taken : {E : Type 0} (r : Result (Unit {0}) E) (number : ℕ) (here : Found) (id : ℕ)
    (card : Card) (n : Notice) (old new : NoticeMap) →
    option_map notice_of (told_exactly (notice number here.mode here.range id card)) ≡ Some n →
    OnOk r (KeepsFirst (stay number card.number card.visit) n old new) →
    OnOk r ((q : Bound) → IsToldBy (Some q) here →
    Keeps (letter_of number q id card ∷ []) number old new)
keeps_taken {E} (Ok u) number here id card n old new told keeps = λ q is.
    keeps_one number (letter_of number q id card) n old new
    (ap (λ m. option_map notice_of (told_exactly (notice number m q.range id card))) (sym is.0)
    ∙ ap (λ m. option_map notice_of (told_exactly (notice number here.mode m id card)))
    (sym is.1) ∙ told) keeps
keeps_taken {E} (Err e) number here id card n old new told keeps = tt
