-- Arrivals that found no room, and notices that were heard.
use Rattle.std.proofs.Common.{◌≡◌, ◌≤◌, ℕ, ◌+◌, List, [], ◌∷◌, ◌++◌, Option, Some, None, Bool}
use Rattle.std.proofs.Common.{true, false, refl, sym, ap, ◌∙◌, subst, inl, inr, append-nil, cond}
use Rattle.std.proofs.Common.{length, map, arith, suc, true≢false}
use Rattle.std.specs.Prelude.{◌==◌, nat_eq, ◌||◌, ◌&&◌, filter}
use Rattle.std.specs.List.{list_any}
use Rattle.std.proofs.lemmas.Bool.{cases_Bool, eq-eqb, eqb-true, and_parts, ltb-true}
use Rattle.std.proofs.lemmas.Bool.{ltb-false}
use Rattle.std.proofs.lemmas.List.Elements.{filter-append}
use Rattle.std.proofs.lemmas.List.{length-append}
use Rattle.packet_entry.specs.declared.letter.Letter.{Letter}
use Rattle.queue_core.specs.State.{Bound}
use Rattle.queue_core.specs.Step.{step}
use Rattle.histories.specs.declared.entry.Entry.{Entry}
use Rattle.histories.specs.declared.log.Did.{Did}
use Rattle.histories.specs.declared.log.Did.TheVariants.{Received, Sent, Closed}
use Rattle.histories.specs.declared.histories.Histories.{Histories}
use Rattle.histories.specs.History.{history, replay, replay_from}
use Rattle.histories.specs.Logs.{is_received}
use Rattle.histories.specs.Letters.{lacks_under, lacks_room}
use Rattle.inspector_script.specs.Scripts.{ScriptValue}
use Rattle.run_parts.specs.Log.{Note, Got, Turned, Begun, Spoke, Shut, logged, unanswered}
use Rattle.run_parts.specs.Notices.{heard}
use Rattle.run_parts.specs.Ports.{is_port}
use Rattle.run_parts.specs.Room.{some_lacks}
use Rattle.run_parts.specs.Run.{RoomHolds}
use Rattle.queue_replay.specs.declared.found.Found.{Found}
use Rattle.queue_replay.specs.Replays.{port_in}
use Rattle.histories.specs.QueueHistories.{each_on, own_within}
use Rattle.queue_replay.specs.Underway.{IsUnderway, WithFound, there, found_there, found_on}
use Rattle.port_audit.specs.Hearing.{heard_in, hears_few, NoneLacks, lacks_at}
use Rattle.port_audit.specs.Makers.{none_left}
use Rattle.port_audit.specs.Told.{AreTold, dids_of}

-- ---- tests of booleans

pub or_right : (a b : Bool) → b ≡ true → (a || b) ≡ true
or_right true b h = refl
or_right false b h = h

pub or_none : (a b : Bool) → a ≡ false → b ≡ false → (a || b) ≡ false
or_none a b h k = ap (λ c. c || b) h ∙ k

pub or_left_none : (a b : Bool) → (a || b) ≡ false → a ≡ false
or_left_none true b h = h
or_left_none false b h = refl

-- ---- arrivals that found no room

lacks_within : (p : ℕ) (q : Option Bound) (es fs : List Entry) →
    some_lacks p q (es ++ fs) ≡ (some_lacks p q es || some_lacks p (replay_from q es) fs)
lacks_within p q [] fs = refl
lacks_within p q (e ∷ es) fs =
    elim (lacks_under p q e) as (λ b. (b || some_lacks p (step q e.event).state (es ++ fs))
    ≡ ((b || some_lacks p (step q e.event).state es)
    || some_lacks p (replay_from (step q e.event).state es) fs)) [
      | true ↦ refl
      | false ↦ lacks_within p (step q e.event).state es fs
    ]

module _ (few : List ℕ) where
  -- at a queue of no port of few
  not_lacking : (p : ℕ) (q : Option Bound) (e : Entry) → list_any (nat_eq p) few ≡ true →
      lacks_at few (port_in q) e.event ≡ false → lacks_under p q e ≡ false
  not_lacking p None e among had = refl
  not_lacking p (Some q) e among had = elim (cases_Bool (p == q.port)) [
    | inl own ↦ ap (λ b. b && lacks_room e.event) own
        ∙ by (lacks_room e.event) (subst (λ n. (lacks_room e.event && list_any (nat_eq n) few)
        ≡ false) (sym (eqb-true p q.port own)) had)
    | inr other ↦ ap (λ b. b && lacks_room e.event) other
  ]
    where
      by : (b : Bool) → (b && list_any (nat_eq p) few) ≡ false → b ≡ false
      by true h = absurd (true≢false (sym among ∙ h))
      by false h = refl

  pub room_on : (before : List Entry) (e : Entry) → NoneLacks few before →
      lacks_at few (port_in (replay (history e.queue before))) e.event ≡ false →
      NoneLacks few (before ++ e ∷ [])
  room_on before e none had p among =
      each_on (λ _ h. some_lacks p None h ≡ false) before e (none p among)
      (λ was. lacks_within p None (history e.queue before) (e ∷ [])
      ∙ or_none (some_lacks p None (history e.queue before))
      (lacks_under p (replay (history e.queue before)) e || false) was
      (or_none (lacks_under p (replay (history e.queue before)) e) false
      (not_lacking p (replay (history e.queue before)) e among had) refl))

  lacking : (q : Option Bound) (e : Entry) → lacks_at few (port_in q) e.event ≡ true →
      (p : ℕ) × (list_any (nat_eq p) few ≡ true) × (lacks_under p q e ≡ true)
  lacking None e lacks = absurd (true≢false (sym lacks))
  lacking (Some q) e lacks =
      let both = and_parts (lacks_room e.event) (list_any (nat_eq q.port) few) lacks in (
        q.port,
        both.1,
        ap (λ b. b && lacks_room e.event) (eq-eqb q.port q.port refl) ∙ both.0,
      )

  pub no_room : (before others : List Entry) (e : Entry) →
      lacks_at few (port_in (replay (history e.queue before))) e.event ≡ true →
      NoneLacks few (before ++ e ∷ others) → ⊥
  no_room before others e lacks none =
      let h = history e.queue before in
      let at = lacking (replay h) e lacks in
      let rest = history e.queue others in
      true≢false (sym (ap (some_lacks at.0 None)
      (own_within e.queue before others e (eq-eqb e.queue e.queue refl))
      ∙ lacks_within at.0 None h (e ∷ rest)
      ∙ or_right (some_lacks at.0 None h) (some_lacks at.0 (replay h) (e ∷ rest))
      (ap (λ b. b || some_lacks at.0 (step (replay h) e.event).state rest) at.2))
      ∙ none at.0 at.1 e.queue)

  -- ---- entries that are gone over

  -- none so far lacks room
  abbrev pub NoneSoFar : List Entry → List Entry → Type 0
  NoneSoFar before rest = NoneLacks few before

  module _ (found fs : List Found) (entries rest others : List Entry) (e : Entry) (f : Found)
      (front : rest ≡ e ∷ others) (first : found ≡ f ∷ fs)
      (u : IsUnderway (WithFound found NoneSoFar) entries rest) where
    as_found : lacks_at few (port_in (replay (history e.queue u.before))) e.event
        ≡ lacks_at few f.port e.event
    as_found = sym (ap (λ (o : Option ℕ). lacks_at few o e.event)
        (found_there found NoneSoFar entries rest others e front u fs f first).port)

    pub room_here : lacks_at few f.port e.event ≡ false →
        IsUnderway (WithFound fs NoneSoFar) entries others
    room_here had =
        found_on found NoneSoFar entries rest others e front u fs f first NoneSoFar
        (λ here none. room_on u.before e none (as_found ∙ had))

    pub no_room_here : lacks_at few f.port e.event ≡ true → NoneLacks few entries → ⊥
    no_room_here lacks none =
        no_room u.before others e (as_found ∙ lacks)
        (subst (NoneLacks few) (there (WithFound found NoneSoFar) entries rest others e front u)
        none)

-- ---- notices that were heard

one_heard : (d : Did) → heard_in (unanswered d ∷ []) ≡ heard_in (d ∷ [])
one_heard (Received queue number visit) = refl
one_heard (Sent call ask answer) = refl
one_heard Closed = refl

pub heard_append : (ds es : List Did) → heard_in (ds ++ es) ≡ heard_in ds + heard_in es
heard_append ds es =
    ap (λ (xs : List Did). length xs) (filter-append is_received ds es)
    ∙ length-append (filter is_received ds) (filter is_received es)

heard_unanswered : (ds : List Did) → heard_in (map unanswered ds) ≡ heard_in ds
heard_unanswered [] = refl
heard_unanswered (d ∷ ds) =
    heard_append (unanswered d ∷ []) (map unanswered ds)
    ∙ ap (λ n. n + heard_in (map unanswered ds)) (one_heard d)
    ∙ ap (λ n. heard_in (d ∷ []) + n) (heard_unanswered ds)
    ∙ sym (heard_append (d ∷ []) ds)

heard_logged : (port : ℕ) (ns : List Note) → heard_in (logged port ns) ≡ length (heard ns)
heard_logged port [] = refl
heard_logged port (Got l ∷ ns) = ap suc (heard_logged port ns)
heard_logged port (Turned ∷ ns) = heard_logged port ns
heard_logged port (Begun ∷ ns) = heard_logged port ns
heard_logged port (Spoke call m errno ∷ ns) = heard_logged port ns
heard_logged port (Shut ∷ ns) = heard_logged port ns

-- as many as are told
pub heard_is : (port : ℕ) (dids : List Did) (ns : List Note) →
    map unanswered dids ≡ map unanswered (logged port ns) → heard_in dids ≡ length (heard ns)
heard_is port dids ns told =
    sym (heard_unanswered dids) ∙ ap heard_in told ∙ heard_unanswered (logged port ns)
    ∙ heard_logged port ns

-- ---- ports

-- a chosen one is one of these, and passes the test
pub chosen : (test : ℕ → Bool) (p : ℕ) (ps : List ℕ) →
    list_any (nat_eq p) (filter test ps) ≡ true →
    (list_any (nat_eq p) ps ≡ true) × (test p ≡ true)
chosen test p [] among = absurd (true≢false (sym among))
chosen test p (x ∷ ps) among = by (test x) refl (chosen test p ps) among
  where
    Found : List ℕ → Type 0
    Found xs = (list_any (nat_eq p) xs ≡ true) × (test p ≡ true)

    by : (b : Bool) → test x ≡ b → (list_any (nat_eq p) (filter test ps) ≡ true → Found ps) →
        list_any (nat_eq p) (cond b (x ∷ filter test ps) (filter test ps)) ≡ true →
        Found (x ∷ ps)
    by true passes rest h = elim (cases_Bool (nat_eq p x)) [
      | inl same ↦ (
        ap (λ c. c || list_any (nat_eq p) ps) same,
        ap test (eqb-true p x same) ∙ passes,
      )
      | inr other ↦ (let there = rest
          (sym (ap (λ c. c || list_any (nat_eq p) (filter test ps)) other) ∙ h) in (
            or_right (nat_eq p x) (list_any (nat_eq p) ps) there.0,
            there.1,
          ))
    ]
    by false fails rest h =
        let there = rest h in (
          or_right (nat_eq p x) (list_any (nat_eq p) ps) there.0,
          there.1,
        )

-- one of these that passes the test is chosen
pub choose : (test : ℕ → Bool) (p : ℕ) (ps : List ℕ) → list_any (nat_eq p) ps ≡ true →
    test p ≡ true → list_any (nat_eq p) (filter test ps) ≡ true
choose test p [] among passes = among
choose test p (x ∷ ps) among passes = elim (cases_Bool (nat_eq p x)) [
  | inl same ↦ ap (λ b. list_any (nat_eq p) (cond b (x ∷ filter test ps) (filter test ps)))
      (sym (ap test (eqb-true p x same)) ∙ passes)
      ∙ ap (λ c. c || list_any (nat_eq p) (filter test ps)) same
  | inr other ↦ by (test x) (choose test p ps
      (sym (ap (λ c. c || list_any (nat_eq p) ps) other) ∙ among) passes)
]
  where
    by : (b : Bool) → list_any (nat_eq p) (filter test ps) ≡ true →
        list_any (nat_eq p) (cond b (x ∷ filter test ps) (filter test ps)) ≡ true
    by true h = or_right (nat_eq p x) (list_any (nat_eq p) (filter test ps)) h
    by false h = h

-- ---- what is judged

module _ (script : ScriptValue) (h : Histories) (notes : ℕ → List Note)
    (told : AreTold script h notes) where
  sent : (p : ℕ) → is_port script p ≡ true →
      heard_in (dids_of p h.logs) ≡ length (heard (notes p) ++ none_left p)
  sent p is =
      heard_is p (dids_of p h.logs) (notes p) (told p is)
      ∙ ap (λ (ls : List Letter). length ls) (sym (append-nil (heard (notes p))))

  pub roomy_if : NoneLacks (filter (hears_few script.mail h.logs) script.ports) h.entries →
      RoomHolds script h notes none_left
  roomy_if none p is queue lacks =
      elim (cases_Bool (hears_few script.mail h.logs p)) [
        | inl less ↦ absurd (true≢false (sym lacks ∙ none p
            (choose (hears_few script.mail h.logs) p script.ports is less) queue))
        | inr enough ↦ subst (λ n. script.mail ≤ n) (sent p is)
            (ltb-false (heard_in (dids_of p h.logs)) script.mail enough)
      ]

  pub none_lacks_if : RoomHolds script h notes none_left →
      NoneLacks (filter (hears_few script.mail h.logs) script.ports) h.entries
  none_lacks_if holds p among queue =
      elim (cases_Bool (some_lacks p None (history queue h.entries))) [
        | inl lacks ↦ (let is = chosen (hears_few script.mail h.logs) p script.ports among in
            absurd (omega (
              arith,
              sent p is.0,
              holds p is.0 queue lacks,
              ltb-true (heard_in (dids_of p h.logs)) script.mail is.1,
            )))
        | inr none ↦ none
      ]
