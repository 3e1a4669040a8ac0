-- Histories that a script made are well formed, where each value fits its field.
use Rattle.std.proofs.Common.{◌≡◌, ℕ, List, [], ◌∷◌, ◌++◌, length}
use Rattle.std.proofs.Common.{Option, None, Bool, true, false, refl, sym, ◌∙◌, arith}
use Rattle.std.proofs.Common.{subst}
use Rattle.std.specs.Prelude.{◌==◌, ◌≢◌, All, AllPairs, flat_map, if◌then◌else◌}
use Rattle.std.specs.List.{AllByRecursion}
use Rattle.std.specs.List.Sorted.{IsNonDecreasingBy}
use Rattle.std.proofs.lemmas.Bool.{cases_Bool, eq-eqb, eqb-true}
use Rattle.std.proofs.Common.{◌⊎◌, inl, inr}
use Rattle.std.proofs.lemmas.List.Elements.{All-from_recursion, All-head, All-tail}
use Rattle.std.proofs.lemmas.List.Sorted.{IsNonDecreasingBy-from_sort}
use Rattle.std.proofs.lemmas.List.Kept.{AllPairs-cons}
use Rattle.nfqa_msgs.specs.declared.request.Decoded.{Decoded}
use Rattle.nfqa_msgs.specs.declared.request.Decoded.TheVariants.{Nothing, Refused, Asked}
use Rattle.nfqa_msgs.specs.RequestReading.{decoded}
use Rattle.queue_core.specs.declared.event.Event.{Event}
use Rattle.queue_core.specs.declared.event.Event.TheVariants.{Arrive, Ask, PortClosed, DeviceDown}
use Rattle.queue_core.specs.declared.event.Reply.{Reply}
use Rattle.queue_core.specs.declared.event.Reply.TheVariants.{Arrived, Answer, Flushed}
use Rattle.queue_core.specs.State.{Bound}
use Rattle.queue_core.specs.Step.{step}
use Rattle.queue_core.specs.Laws.{Tells}
use Rattle.histories.specs.declared.entry.Entry.{Entry}
use Rattle.histories.specs.declared.log.Did.{Did}
use Rattle.histories.specs.declared.log.Did.TheVariants.{Received, Closed}
use Rattle.histories.specs.declared.log.PortLog.{PortLog}
use Rattle.histories.specs.declared.histories.Histories.{Histories}
use Rattle.histories.specs.History.{history, is_of, AreLegal, IsLegalFrom}
use Rattle.histories.specs.Happenings as place
use Rattle.packet_entry.specs.declared.letter.Letter.{Letter}
use Rattle.inspector_script.specs.Scripts.{ScriptValue, IsScript}
use Rattle.run_parts.specs.Log.{Note, Got, Turned, Begun, Spoke, Shut, Standing, AreNextFrom}
use Rattle.run_parts.specs.Log.{after, logged, start}
use Rattle.run_parts.specs.Requests.{Plea, pleas_of, pleas_in, pleas_told, plea_of}
use Rattle.run_parts.specs.Run.{IsMadeBy, IsTold, RequestsHold}
use Rattle.run_parts.specs.Ports.{is_port, place_in}
use Rattle.run_parts.specs.Requests.{errno_in}
use Rattle.histories.specs.Grouping.{IsGrouped}
use Rattle.journals.specs.WellFormed as formed
use Rattle.journals.specs.WellFormed.{Fit, FitsEntry, FitsEvent, FitsLog, FitsReply}
use Rattle.journals.specs.WellFormed.{IsEntry, IsEventAt, IsReplyTo, IsWellFormed}

abbrev pub Replies : Type 0
Replies = (q : Option Bound) (e : Event) →
    Tells e (step q e).reply (length (step q e).left)

-- ---- lists

by_recursion : {X : Type 0} (P : X → Type 0) (xs : List X) → All P xs → AllByRecursion P xs
by_recursion P [] all = tt
by_recursion P (x ∷ xs) all = (All-head P x xs all, by_recursion P xs (All-tail P x xs all))

-- what holds in each queue's history holds of all entries
own_history : (e : Entry) (es : List Entry) → history e.queue (e ∷ es) ≡ e ∷ history e.queue es
own_history e es = rw (eq-eqb e.queue e.queue refl) refl

from_histories : (P : Entry → Type 0) (es : List Entry) →
    ((queue : ℕ) → AllByRecursion P (history queue es)) → AllByRecursion P es
from_histories P [] all = tt
from_histories P (e ∷ es) all = (
  (subst (λ gs. AllByRecursion P gs) (own_history e es) (all e.queue)).0,
  from_histories P es (λ queue. rest queue (is_of queue e) refl (all queue)),
)
  where
    rest : (queue : ℕ) (b : Bool) → is_of queue e ≡ b →
        AllByRecursion P (history queue (e ∷ es)) → AllByRecursion P (history queue es)
    rest queue true own holds =
        let whole : history queue (e ∷ es) ≡ e ∷ history queue es = rw own refl in
        (subst (λ gs. AllByRecursion P gs) whole holds).1
    rest queue false other holds =
        let whole : history queue (e ∷ es) ≡ history queue es = rw other refl in
        subst (λ gs. AllByRecursion P gs) whole holds

both_hold : {X : Type 0} (P Q R : X → Type 0) → ((x : X) → P x → Q x → R x) → (xs : List X) →
    AllByRecursion P xs → AllByRecursion Q xs → AllByRecursion R xs
both_hold P Q R on [] ps qs = tt
both_hold P Q R on (x ∷ xs) ps qs = (on x ps.0 qs.0, both_hold P Q R on xs ps.1 qs.1)

-- ---- replies

-- a reply is of its event's kind: it tells how many packets left
abbrev IsTelling : Event → Reply → Type 0
IsTelling event reply = (n : ℕ) × Tells event reply n

abbrev EntryTells : Entry → Type 0
EntryTells e = IsTelling e.event e.reply

tell_from : Replies → (q : Option Bound) (es : List Entry) → IsLegalFrom q es →
    AllByRecursion EntryTells es
tell_from replies q [] legal = tt
tell_from replies q (e ∷ es) legal = (
  (
    length (step q e.event).left,
    subst (λ r. Tells e.event r (length (step q e.event).left)) (sym legal.0.reply)
        (replies q e.event),
  ),
  tell_from replies (step q e.event).state es legal.1,
)

-- ---- the queues of requests

abbrev Names : ℕ → Plea → Type 0
Names queue p = place.queue_of p.request ≡ queue

join : {X : Type 0} (P : X → Type 0) (xs ys : List X) → AllByRecursion P xs →
    AllByRecursion P ys → AllByRecursion P (xs ++ ys)
join P [] ys all more = more
join P (x ∷ xs) ys all more = (all.0, join P xs ys all.1 more)

front : {X : Type 0} (P : X → Type 0) (xs ys : List X) → AllByRecursion P (xs ++ ys) →
    AllByRecursion P xs
front P [] ys all = tt
front P (x ∷ xs) ys all = (all.0, front P xs ys all.1)

back : {X : Type 0} (P : X → Type 0) (xs ys : List X) → AllByRecursion P (xs ++ ys) →
    AllByRecursion P ys
back P [] ys all = all
back P (x ∷ xs) ys all = back P xs ys all.1

plea_names : (queue call errno : ℕ) (d : Decoded) →
    AllByRecursion (Names queue) (plea_of queue call errno d)
plea_names queue call errno Nothing = tt
plea_names queue call errno (Refused refusal) = tt
plea_names queue call errno (Asked request) = by (place.queue_of request == queue) refl
  where
    by : (b : Bool) → (place.queue_of request == queue) ≡ b →
        AllByRecursion (Names queue)
        (if b then record { call = call; request = request; errno = errno } ∷ [] else [])
    by true same = (eqb-true (place.queue_of request) queue same, tt)
    by false other = tt

told_names : (queue : ℕ) (notes : List Note) →
    AllByRecursion (Names queue) (flat_map (pleas_told queue) notes)
told_names queue [] = tt
told_names queue (Got l ∷ ns) = told_names queue ns
told_names queue (Turned ∷ ns) = told_names queue ns
told_names queue (Begun ∷ ns) = told_names queue ns
told_names queue (Shut ∷ ns) = told_names queue ns
told_names queue (Spoke call m errno ∷ ns) =
    join (Names queue) (plea_of queue call errno (decoded m)) (flat_map (pleas_told queue) ns)
    (plea_names queue call errno (decoded m)) (told_names queue ns)

asked_names : (script : ScriptValue) (h : Histories) (notes : ℕ → List Note) →
    RequestsHold script h notes → (port queue : ℕ) →
    (is_port script port ≡ true) ⊎ (is_port script port ≡ false) →
    AllByRecursion (Names queue) (pleas_in port (history queue h.entries))
asked_names script h notes hold port queue (inl i) =
    subst (λ ps. AllByRecursion (Names queue) ps) (sym (hold.each port i queue))
    (told_names queue (notes port))
asked_names script h notes hold port queue (inr out) =
    subst (λ ps. AllByRecursion (Names queue) ps) (sym (hold.nobody port out queue)) tt

-- the request of an entry is of this queue, where it is this port's
abbrev AskedOf : ℕ → ℕ → Event → Type 0
AskedOf queue port (Arrive card bypass room) = Unit {0}
AskedOf queue port (Ask by call request) = port ≡ by → place.queue_of request ≡ queue
AskedOf queue port (PortClosed closed) = Unit {0}
AskedOf queue port (DeviceDown device) = Unit {0}

entry_asked : (queue port : ℕ) (event : Event) (q : ℕ) (reply : Reply) (more : List Plea) →
    AllByRecursion (Names queue)
    (pleas_of port (record { queue = q; event = event; reply = reply }) ++ more) →
    AskedOf queue port event
entry_asked queue port (Arrive card bypass room) q reply more all = tt
entry_asked queue port (PortClosed closed) q reply more all = tt
entry_asked queue port (DeviceDown device) q reply more all = tt
entry_asked queue port (Ask by call request) q reply more all = λ same.
    let p : Plea = record { call = call; request = request; errno = errno_in reply } in
    let own : (port == by) ≡ true = eq-eqb port by same in
    let there : AllByRecursion (Names queue) ((p ∷ []) ++ more) =
    subst (λ b. AllByRecursion (Names queue) ((if b then p ∷ [] else []) ++ more)) own all in
    there.0

asked_in : (queue port : ℕ) (es : List Entry) →
    AllByRecursion (Names queue) (pleas_in port es) →
    AllByRecursion (λ (e : Entry). AskedOf queue port e.event) es
asked_in queue port [] all = tt
asked_in queue port (e ∷ es) all = (
  entry_asked queue port e.event e.queue e.reply (pleas_in port es) all,
  asked_in queue port es (back (Names queue) (pleas_of port e) (pleas_in port es) all),
)

abbrev OwnAsk : ℕ → Event → Type 0
OwnAsk queue (Arrive card bypass room) = Unit {0}
OwnAsk queue (Ask by call request) = place.queue_of request ≡ queue
OwnAsk queue (PortClosed closed) = Unit {0}
OwnAsk queue (DeviceDown device) = Unit {0}

own_ask : (queue : ℕ) (event : Event) → ((port : ℕ) → AskedOf queue port event) →
    OwnAsk queue event
own_ask queue (Arrive card bypass room) asked = tt
own_ask queue (Ask by call request) asked = asked by refl
own_ask queue (PortClosed closed) asked = tt
own_ask queue (DeviceDown device) asked = tt

own_asks : (queue : ℕ) (es : List Entry) →
    ((port : ℕ) → AllByRecursion (λ (e : Entry). AskedOf queue port e.event) es) →
    AllByRecursion (λ (e : Entry). OwnAsk queue e.event) es
own_asks queue [] all = tt
own_asks queue (e ∷ es) all =
    (own_ask queue e.event (λ port. (all port).0), own_asks queue es (λ port. (all port).1))

all_own : (queue : ℕ) (es : List Entry) →
    AllByRecursion (λ (e : Entry). e.queue ≡ queue) (history queue es)
all_own queue [] = tt
all_own queue (e ∷ es) = by (is_of queue e) refl (all_own queue es)
  where
    by : (b : Bool) → is_of queue e ≡ b →
        AllByRecursion (λ (e : Entry). e.queue ≡ queue) (history queue es) →
        AllByRecursion (λ (e : Entry). e.queue ≡ queue) (history queue (e ∷ es))
    by true own all =
        let whole : history queue (e ∷ es) ≡ e ∷ history queue es = rw own refl in
        subst (λ gs. AllByRecursion (λ (e : Entry). e.queue ≡ queue) gs) (sym whole)
        (eqb-true e.queue queue own, all)
    by false other all =
        let whole : history queue (e ∷ es) ≡ history queue es = rw other refl in
        subst (λ gs. AllByRecursion (λ (e : Entry). e.queue ≡ queue) gs) (sym whole) all

-- ---- entries

event_at : (queue : ℕ) (event : Event) → FitsEvent event → OwnAsk queue event →
    IsEventAt queue event
event_at queue (Arrive card bypass room) fit own = fit
event_at queue (Ask port call request) fit own =
    (fit.0, fit.1, fit.2, own)
event_at queue (PortClosed port) fit own = fit
event_at queue (DeviceDown device) fit own = fit

reply_to : (event : Event) (reply : Reply) → FitsReply reply → IsTelling event reply →
    IsReplyTo event reply
reply_to (Arrive card bypass room) (Arrived outcome) fit tells = fit
reply_to (Arrive card bypass room) (Answer errno taken) fit tells = tells.1
reply_to (Arrive card bypass room) (Flushed taken) fit tells = tells.1
reply_to (Ask port call request) (Arrived outcome) fit tells = tells.1
reply_to (Ask port call request) (Answer errno taken) fit tells = fit
reply_to (Ask port call request) (Flushed taken) fit tells = tells.1
reply_to (PortClosed port) (Arrived outcome) fit tells = tells.1
reply_to (PortClosed port) (Answer errno taken) fit tells = tells.1
reply_to (PortClosed port) (Flushed taken) fit tells = fit
reply_to (DeviceDown device) (Arrived outcome) fit tells = tells.1
reply_to (DeviceDown device) (Answer errno taken) fit tells = tells.1
reply_to (DeviceDown device) (Flushed taken) fit tells = fit

-- ---- logs

abbrev LastOnly : List Did → Type 0
LastOnly [] = Unit {0}
LastOnly (d ∷ ds) = AllByRecursion (λ (b : Did). d ≢ Closed) ds × LastOnly ds

always : (A : Type 0) → A → (ds : List Did) → AllByRecursion (λ (b : Did). A) ds
always A a [] = tt
always A a (d ∷ ds) = (a, always A a ds)

module _ (workers : ℕ) (script : ScriptValue) (place port : ℕ) where
  shut_ends : (t : Standing) (ns : List Note) → t.is_open ≡ false →
      AreNextFrom workers script place port t ns → ns ≡ []
  shut_ends t [] closed next = refl
  shut_ends t (Got l ∷ ns) closed next =
      let wrong : true ≡ false = sym next.0.0 ∙ closed in absurd (cc)
  shut_ends t (Turned ∷ ns) closed next =
      let wrong : true ≡ false = sym next.0.1 ∙ closed in absurd (cc)
  shut_ends t (Begun ∷ ns) closed next =
      let wrong : true ≡ false = sym next.0.0 ∙ closed in absurd (cc)
  shut_ends t (Spoke call m errno ∷ ns) closed next =
      let wrong : true ≡ false = sym next.0.0 ∙ closed in absurd (cc)
  shut_ends t (Shut ∷ ns) closed next =
      let wrong : true ≡ false = sym next.0.0 ∙ closed in absurd (cc)

  last_only : (t : Standing) (ns : List Note) → AreNextFrom workers script place port t ns →
      LastOnly (logged port ns)
  last_only t [] next = tt
  last_only t (Got l ∷ ns) next = (
    always (Received l.queue l.number l.visit ≢ Closed) (λ e. let wrong = e in cc)
        (logged port ns),
    last_only (after workers script place port t (Got l)) ns next.1,
  )
  last_only t (Turned ∷ ns) next =
      last_only (after workers script place port t Turned) ns next.1
  last_only t (Begun ∷ ns) next = last_only (after workers script place port t Begun) ns next.1
  last_only t (Spoke call m errno ∷ ns) next = (
    always (_ ≢ Closed) (λ e. let wrong = e in cc) (logged port ns),
    last_only (after workers script place port t (Spoke call m errno)) ns next.1,
  )
  last_only t (Shut ∷ ns) next =
      let none : ns ≡ [] = shut_ends (after workers script place port t Shut) ns refl next.1 in
      subst (λ gs. LastOnly (Closed ∷ logged port gs)) (sym none) (tt, tt)

pairs : (ds : List Did) → LastOnly ds → AllPairs (λ a b. a ≢ Closed) ds
pairs [] last = λ i j d low within. omega (arith, within)
pairs (d ∷ ds) last =
    AllPairs-cons (λ (a b : Did). a ≢ Closed) d ds
    (All-from_recursion (λ (b : Did). d ≢ Closed) ds last.0) (pairs ds last.1)

log_formed : (workers : ℕ) (script : ScriptValue) (notes : ℕ → List Note) (l : PortLog) →
    FitsLog l →
    IsTold workers script notes l → formed.IsLog l
log_formed workers script notes l fit is = record {
  port = fit.port;
  dids = fit.dids;
  closed_last = subst (λ ds. AllPairs (λ a b. a ≢ Closed) ds) (sym is.whole)
      (pairs (logged l.port (notes l.port))
      (last_only workers script (place_in l.port script.ports) l.port
      (start script (place_in l.port script.ports)) (notes l.port) is.next));
}

-- ---- all of it

pub well_formed : Replies → (workers feeders : ℕ) (script : ScriptValue) (frames : ℕ)
    (h : Histories)
    (notes : ℕ → List Note) (left : ℕ → List Letter) → IsScript script → Fit h → h.lost ≡ [] →
    (ws : List Entry) → IsGrouped ws h.entries → AreLegal h.entries →
    IsMadeBy workers feeders script frames h notes left →
    All (IsTold workers script notes) h.logs → IsWellFormed h
well_formed replies workers feeders script frames h notes left is fit kept ws grouped legal made
    told =
    let tell : AllByRecursion EntryTells h.entries =
    from_histories EntryTells h.entries
    (λ queue. tell_from replies None (history queue h.entries) (legal queue)) in
    let asks : AllByRecursion (λ (e : Entry). OwnAsk e.queue e.event) h.entries =
    from_histories (λ (e : Entry). OwnAsk e.queue e.event) h.entries
    (λ queue. both_hold (λ (e : Entry). e.queue ≡ queue)
    (λ (e : Entry). OwnAsk queue e.event) (λ (e : Entry). OwnAsk e.queue e.event)
    (λ e at own. subst (λ q. OwnAsk q e.event) (sym at) own) (history queue h.entries)
    (all_own queue h.entries)
    (own_asks queue (history queue h.entries)
    (λ port. asked_in queue port (history queue h.entries)
    (asked_names script h notes made.requests port queue
    (cases_Bool (is_port script port)))))) in
    let fits : AllByRecursion FitsEntry h.entries =
    by_recursion FitsEntry h.entries fit.entries in
    let up : IsNonDecreasingBy (λ (e : Entry). e.queue) h.entries =
    IsNonDecreasingBy-from_sort (λ (e : Entry). e.queue) h.entries grouped.ascend in
    record {
      nothing_lost = kept;
      entries = All-from_recursion IsEntry h.entries
          (both_hold (λ (e : Entry). FitsEntry e × EntryTells e)
          (λ (e : Entry). OwnAsk e.queue e.event) IsEntry
          (λ e two own. record {
            queue = two.0.queue;
            event = event_at e.queue e.event two.0.event own;
            reply = reply_to e.event e.reply two.0.reply two.1;
          }) h.entries
          (both_hold FitsEntry EntryTells (λ (e : Entry). FitsEntry e × EntryTells e)
          (λ e f t. (f, t)) h.entries fits tell) asks);
      queues_ascend = λ i j d low within. up i j d (omega (arith, low)) within;
      logs = All-from_recursion formed.IsLog h.logs
          (both_hold FitsLog (IsTold workers script notes) formed.IsLog
          (log_formed workers script notes) h.logs
          (by_recursion FitsLog h.logs fit.logs)
          (by_recursion (IsTold workers script notes) h.logs told));
      ports_differ = subst (λ ps. AllPairs (λ a b. a ≢ b) ps) (sym made.ports)
          is.ports_differ;
    }
