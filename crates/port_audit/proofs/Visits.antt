-- Notices by the packet's number and its visit are notices.
use Rattle.std.proofs.Common.{◌≡◌, ℕ, List, [], ◌∷◌, ◌++◌, Option, Some, None, Bool, true, false}
use Rattle.std.proofs.Common.{refl, sym, ap, ◌∙◌, subst, inl, inr, cond, append-nil, map}
use Rattle.std.specs.Prelude.{◌==◌, nat_eq, filter}
use Rattle.std.specs.List.{list_any, AllByRecursion}
use Rattle.std.proofs.lemmas.Bool.{cases_Bool, eq-eqb, eqb-true, ne_eqb}
use Rattle.packet_entry.specs.declared.packet.Card.{Card}
use Rattle.packet_entry.specs.declared.letter.Letter.{Letter}
use Rattle.queue_core.specs.State.{Bound}
use Rattle.queue_core.specs.Step.{step}
use Rattle.queue_core.specs.declared.event.Event.{Event}
use Rattle.queue_core.specs.declared.event.Event.TheVariants as event
use Rattle.queue_core.specs.declared.event.Reply.{Reply}
use Rattle.queue_core.specs.declared.event.Reply.TheVariants as reply
use Rattle.queue_core.specs.declared.offers.Outcome.{Outcome}
use Rattle.queue_core.specs.declared.offers.Outcome.TheVariants as outcome
use Rattle.histories.specs.declared.entry.Entry.{Entry}
use Rattle.histories.specs.declared.log.Did.{Did}
use Rattle.histories.specs.declared.log.Did.TheVariants.{Received, Sent, Closed}
use Rattle.histories.specs.declared.histories.Histories.{Histories}
use Rattle.histories.specs.History.{history, replay}
use Rattle.histories.specs.Letters.{letters_under, letters_of_event, letters_of_reply, is_from}
use Rattle.histories.specs.Letters.{letters_of_outcome}
use Rattle.inspector_script.specs.Scripts.{ScriptValue}
use Rattle.run_parts.specs.Log.{Note, Got, Turned, Begun, Spoke, Shut, logged, unanswered}
use Rattle.run_parts.specs.Notices.{heard, letters_from}
use Rattle.run_parts.specs.Ports.{is_port}
use Rattle.run_parts.specs.Run.{NoticesHold}
use Rattle.port_audit.specs.declared.notices.Visit.{Visit}
use Rattle.port_audit.specs.Dealing.{brought_from, AreMet, told_of, RowMap, IsMet, side, AreDealt}
use Rattle.queue_replay.specs.Replays.{port_in}
use Rattle.port_audit.specs.Makers.{IsAmong, none_left}
use Rattle.port_audit.specs.Noticing.{IsOnlyOne, AreOnlyOnes, visit_of, visits_by, visits_in}
use Rattle.port_audit.specs.Noticing.{visits_told, visits_of_event, visits_at, visits_under}
use Rattle.port_audit.specs.Noticing.{BringsAt}
use Rattle.port_audit.specs.Noticing.{visits_of_reply, visits_of_outcome, MeetsNext}
use Rattle.port_audit.specs.Told.{AreTold, dids_of}
use Rattle.port_audit.proofs.RowMatches.{IsTold, told_same, told_next, told_breaks}

-- ---- what is told

one_visit : (queue : ℕ) (d : Did) → visits_by queue (unanswered d) ≡ visits_by queue d
one_visit queue (Received from number count) = refl
one_visit queue (Sent call ask answer) = refl
one_visit queue Closed = refl

same_visits : (queue : ℕ) (ds : List Did) →
    visits_in queue (map unanswered ds) ≡ visits_in queue ds
same_visits queue [] = refl
same_visits queue (d ∷ ds) =
    ap (λ vs. vs ++ visits_in queue (map unanswered ds)) (one_visit queue d)
    ∙ ap (λ vs. visits_by queue d ++ vs) (same_visits queue ds)

got_one : (b : Bool) (l : Letter) (ls : List Letter) →
    cond b (visit_of l ∷ []) [] ++ map visit_of ls ≡ map visit_of (cond b (l ∷ ls) ls)
got_one true l ls = refl
got_one false l ls = refl

visits_logged : (queue port : ℕ) (ns : List Note) →
    visits_in queue (logged port ns) ≡ map visit_of (filter (is_from queue) (heard ns))
visits_logged queue port [] = refl
visits_logged queue port (Got l ∷ ns) =
    ap (λ vs. cond (l.queue == queue) (visit_of l ∷ []) [] ++ vs) (visits_logged queue port ns)
    ∙ got_one (l.queue == queue) l (filter (is_from queue) (heard ns))
visits_logged queue port (Turned ∷ ns) = visits_logged queue port ns
visits_logged queue port (Begun ∷ ns) = visits_logged queue port ns
visits_logged queue port (Spoke call m errno ∷ ns) = visits_logged queue port ns
visits_logged queue port (Shut ∷ ns) = visits_logged queue port ns

-- ---- what is brought

outcome_visits : (queue : ℕ) (q : Bound) (card : Card) (o : Outcome) →
    visits_of_outcome card o ≡ map visit_of (letters_of_outcome queue q card o)
outcome_visits queue q card (outcome.Taken id) = refl
outcome_visits queue q card outcome.Overflow = refl
outcome_visits queue q card outcome.OverflowOpen = refl
outcome_visits queue q card (outcome.UserFull id) = refl
outcome_visits queue q card (outcome.UserFullOpen id) = refl
outcome_visits queue q card outcome.NoQueue = refl
outcome_visits queue q card outcome.Bypassed = refl
outcome_visits queue q card outcome.CopyNone = refl
outcome_visits queue q card outcome.Loop = refl

reply_visits : (queue : ℕ) (q : Bound) (card : Card) (r : Reply) →
    visits_of_reply card r ≡ map visit_of (letters_of_reply queue q card r)
reply_visits queue q card (reply.Arrived o) = outcome_visits queue q card o
reply_visits queue q card (reply.Answer errno taken) = refl
reply_visits queue q card (reply.Flushed taken) = refl

event_visits : (queue : ℕ) (q : Bound) (v : Event) (r : Reply) →
    visits_of_event v r ≡ map visit_of (letters_of_event queue q v r)
event_visits queue q (event.Arrive card bypass room) r = reply_visits queue q card r
event_visits queue q (event.Ask port call request) r = refl
event_visits queue q (event.PortClosed port) r = refl
event_visits queue q (event.DeviceDown device) r = refl

map_if : (b : Bool) (vs : List Visit) (ls : List Letter) → vs ≡ map visit_of ls →
    cond b vs [] ≡ map visit_of (cond b ls [])
map_if true vs ls same = same
map_if false vs ls same = refl

at_visits : (p : ℕ) (q : Option Bound) (e : Entry) →
    visits_at p (port_in q) e ≡ map visit_of (letters_under p q e)
at_visits p None e = refl
at_visits p (Some q) e =
    map_if (p == q.port) (visits_of_event e.event e.reply)
    (letters_of_event e.queue q e.event e.reply) (event_visits e.queue q e.event e.reply)

map_more : (ls ms : List Letter) → map visit_of (ls ++ ms) ≡ map visit_of ls ++ map visit_of ms
map_more [] ms = refl
map_more (l ∷ ls) ms = ap (λ vs. visit_of l ∷ vs) (map_more ls ms)

module _ (ports : List ℕ) (p : ℕ) where
  pub visits_brought : list_any (nat_eq p) ports ≡ true → (q : Option Bound) (es : List Entry) →
      brought_from (visits_under ports) p q es ≡ map visit_of (letters_from p q es)
  visits_brought is q [] = refl
  visits_brought is q (e ∷ es) =
      ap (λ b. cond b (visits_at p (port_in q) e) []
      ++ brought_from (visits_under ports) p (step q e.event).state es) is
      ∙ ap (λ vs. vs ++ brought_from (visits_under ports) p (step q e.event).state es)
      (at_visits p q e)
      ∙ ap (λ vs. map visit_of (letters_under p q e) ++ vs)
      (visits_brought is (step q e.event).state es)
      ∙ sym (map_more (letters_under p q e) (letters_from p (step q e.event).state es))

  none_brought : list_any (nat_eq p) ports ≡ false → (q : Option Bound) (es : List Entry) →
      brought_from (visits_under ports) p q es ≡ []
  none_brought isnt q [] = refl
  none_brought isnt q (e ∷ es) =
      ap (λ b. cond b (visits_at p (port_in q) e) []
      ++ brought_from (visits_under ports) p (step q e.event).state es) isnt
      ∙ none_brought isnt (step q e.event).state es

-- ---- an entry

module _ (ports : List ℕ) (q : Option Bound) (e : Entry) where
  -- it brings nothing
  pub none_under : (po : Option ℕ) → po ≡ port_in q → BringsAt ports po e None → (p : ℕ) →
      visits_under ports p q e ≡ []
  none_under po same none p = elim (cases_Bool (list_any (nat_eq p) ports)) [
    | inl is ↦ ap (λ b. cond b (visits_at p (port_in q) e) []) is
        ∙ ap (λ o. visits_at p o e) (sym same) ∙ none p is
    | inr isnt ↦ ap (λ b. cond b (visits_at p (port_in q) e) []) isnt
  ]

  -- it brings a visit of one port
  module _ (po : Option ℕ) (same : po ≡ port_in q) (port : ℕ) (v : Visit)
      (brings : BringsAt ports po e (Some (port, v))) where
    at_port : port_in q ≡ Some port
    at_port = sym same ∙ brings.1

    pub own_under : visits_under ports port q e ≡ v ∷ []
    own_under =
        ap (λ b. cond b (visits_at port (port_in q) e) []) brings.0
        ∙ ap (λ o. visits_at port o e) at_port
        ∙ ap (λ b. cond b (visits_of_event e.event e.reply) []) (eq-eqb port port refl)
        ∙ brings.2

    pub others_under : (p : ℕ) → (port ≡ p → ⊥) → visits_under ports p q e ≡ []
    others_under p differ =
        ap (λ vs. cond (list_any (nat_eq p) ports) vs [])
        (ap (λ o. visits_at p o e) at_port
        ∙ ap (λ b. cond b (visits_of_event e.event e.reply) [])
        (ne_eqb p port (λ is. differ (sym is))))
        ∙ both (list_any (nat_eq p) ports)
      where
        both : (b : Bool) → cond {A = List Visit} b [] [] ≡ []
        both true = refl
        both false = refl

-- ---- the next entry

pub next_none : (ports : List ℕ) (po : Option ℕ) (e : Entry) (rows : RowMap Visit) →
    BringsAt ports po e None → MeetsNext ports po e rows rows true
next_none ports po e rows none = inl (none, refl)

pub next_some : (ports : List ℕ) (po : Option ℕ) (e : Entry) (port : ℕ) (v : Visit)
    (old new : RowMap Visit) (b : Bool) → BringsAt ports po e (Some (port, v)) →
    IsMet (side port e.queue) v old new b → MeetsNext ports po e old new b
next_some ports po e port v old new true brings met = inr ((port, v), brings, met)
next_some ports po e port v old new false brings met = ((port, v), brings, met)

module _ (ports : List ℕ) (told : ℕ → ℕ → List Visit) (before : List Entry) (e : Entry)
    (po : Option ℕ) (same : po ≡ port_in (replay (history e.queue before)))
    (old new : RowMap Visit) (is : IsTold ports told (visits_under ports) old before) where
  pub next_on : MeetsNext ports po e old new true →
      IsTold ports told (visits_under ports) new (before ++ e ∷ [])
  next_on (inl (none, kept)) =
      subst (λ rows. IsTold ports told (visits_under ports) rows (before ++ e ∷ [])) (sym kept)
      (told_same ports told (visits_under ports) before e old is
      (none_under ports (replay (history e.queue before)) e po same none))
  next_on (inr (x, brings, takes)) =
      told_next ports told (visits_under ports) before e x.0 x.1
      (own_under ports (replay (history e.queue before)) e po same x.0 x.1 brings) old new is
      (others_under ports (replay (history e.queue before)) e po same x.0 x.1 brings) takes

  pub next_breaks : (others : List Entry) → MeetsNext ports po e old new false →
      AreMet ports told (visits_under ports) (before ++ e ∷ others) → ⊥
  next_breaks others (x, brings, differs) met =
      told_breaks ports told (visits_under ports) before e x.0 x.1
      (own_under ports (replay (history e.queue before)) e po same x.0 x.1 brings) old others is
      differs met

-- whatever the first rows tell, these have what of it isn't brought so far
abbrev pub Taking : List ℕ → RowMap Visit → RowMap Visit → List Entry → List Entry → Type 0
Taking ports first now before rest = (told : ℕ → ℕ → List Visit) → AreDealt ports told first →
    IsTold ports told (visits_under ports) now before

-- ---- notices are known by their visits

-- of two lists with the same visits, those of the one are those of the other
same_letters : (ls ms : List Letter) → map visit_of ls ≡ map visit_of ms →
    AllByRecursion (λ l. (m : Letter) → IsAmong m ms → visit_of m ≡ visit_of l → l ≡ m) ls →
    ls ≡ ms
same_letters [] [] same only = refl
same_letters [] (m ∷ ms) same only = absurd (cc)
same_letters (l ∷ ls) [] same only = absurd (cc)
same_letters (l ∷ ls) (m ∷ ms) same only =
    let first : visit_of l ≡ visit_of m = head_is same in
    let rest : map visit_of ls ≡ map visit_of ms = tail_is same in
    ap (λ k. k ∷ ls) (only.0 m (inl refl) (sym first))
    ∙ ap (λ ks. m ∷ ks) (same_letters ls ms rest (fewer ls only.1))
  where
    head_is : {v w : Visit} {vs ws : List Visit} → v ∷ vs ≡ w ∷ ws → v ≡ w
    head_is h = cc

    tail_is : {v w : Visit} {vs ws : List Visit} → v ∷ vs ≡ w ∷ ws → vs ≡ ws
    tail_is h = cc

    fewer : (ks : List Letter) →
        AllByRecursion (λ k. (n : Letter) → IsAmong n (m ∷ ms) → visit_of n ≡ visit_of k → k ≡ n)
        ks →
        AllByRecursion (λ k. (n : Letter) → IsAmong n ms → visit_of n ≡ visit_of k → k ≡ n) ks
    fewer [] all = tt
    fewer (k ∷ ks) all = ((λ n among is. all.0 n (inr among) is), fewer ks all.1)

only_from : (es : List Entry) (port queue : ℕ) (ls : List Letter) →
    AllByRecursion (IsOnlyOne es) ls →
    AllByRecursion (λ l. (m : Letter) → IsAmong m (letters_from port None (history queue es)) →
    visit_of m ≡ visit_of l → l ≡ m) (filter (is_from queue) ls)
only_from es port queue [] only = tt
only_from es port queue (l ∷ ls) only =
    by (l.queue == queue) refl (only_from es port queue ls only.1)
  where
    Only : Letter → Type 0
    Only k = (m : Letter) → IsAmong m (letters_from port None (history queue es)) →
        visit_of m ≡ visit_of k → k ≡ m

    by : (b : Bool) → (l.queue == queue) ≡ b → AllByRecursion Only (filter (is_from queue) ls) →
        AllByRecursion Only (cond b (l ∷ filter (is_from queue) ls) (filter (is_from queue) ls))
    by true own rest = (
      λ m among same. only.0 port m
          (subst (λ n. IsAmong m (letters_from port None (history n es)))
          (sym (eqb-true l.queue queue own)) among)
          (ap (λ (v : Visit). v.number) same) (ap (λ (v : Visit). v.visit) same),
      rest,
    )
    by false other rest = rest

-- ---- what is judged

module _ (script : ScriptValue) (h : Histories) (notes : ℕ → List Note)
    (told : AreTold script h notes) (only : AreOnlyOnes script h notes) where
  heard_visits : (p queue : ℕ) → is_port script p ≡ true →
      told_of script.ports (visits_told h.logs) p queue
      ≡ map visit_of (filter (is_from queue) (heard (notes p) ++ none_left p))
  heard_visits p queue is =
      ap (λ b. cond b (visits_told h.logs p queue) []) is
      ∙ sym (same_visits queue (dids_of p h.logs)) ∙ ap (visits_in queue) (told p is)
      ∙ same_visits queue (logged p (notes p)) ∙ visits_logged queue p (notes p)
      ∙ ap (λ ls. map visit_of (filter (is_from queue) ls)) (sym (append-nil (heard (notes p))))

  pub notices_if : AreMet script.ports (visits_told h.logs) (visits_under script.ports) h.entries →
      NoticesHold script h notes none_left
  notices_if met p is queue =
      same_letters (filter (is_from queue) (heard (notes p) ++ none_left p))
      (letters_from p None (history queue h.entries))
      (sym (heard_visits p queue is) ∙ met p queue
      ∙ visits_brought script.ports p is None (history queue h.entries))
      (subst (λ ls. AllByRecursion (λ l. (m : Letter) →
      IsAmong m (letters_from p None (history queue h.entries)) →
      visit_of m ≡ visit_of l → l ≡ m) (filter (is_from queue) ls))
      (sym (append-nil (heard (notes p))))
      (only_from h.entries p queue (heard (notes p)) (only p is)))

  pub met_if : NoticesHold script h notes none_left →
      AreMet script.ports (visits_told h.logs) (visits_under script.ports) h.entries
  met_if holds p queue = elim (cases_Bool (is_port script p)) [
    | inl is ↦ heard_visits p queue is ∙ ap (map visit_of) (holds p is queue)
        ∙ sym (visits_brought script.ports p is None (history queue h.entries))
    | inr isnt ↦ ap (λ b. cond b (visits_told h.logs p queue) []) isnt
        ∙ sym (none_brought script.ports p isnt None (history queue h.entries))
  ]
