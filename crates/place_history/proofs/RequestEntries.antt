-- Requests, as the entries that they are.
use Rattle.std.proofs.Common.{◌≡◌, ℕ, List, [], ◌∷◌, ◌++◌, length, Option, None, Some, refl, sym}
use Rattle.std.proofs.Common.{ap, ◌∙◌, subst}
use Rattle.std.specs.Prelude.{IsSomeAnd, nat_eq, if◌then◌else◌, IfOk, IfErr, IfNone, ok_or}
use Rattle.std.specs.Prelude.{option_to_list, option_map}
use Rattle.std.proofs.Math.Dec.{eqb-suc-zero}
use Rattle.packet_entry.specs.declared.packet.Card.{Card}
use Rattle.hook_chain.specs.declared.chain.Decision.{Decision}
use Rattle.std.proofs.lemmas.List.{length-map}
use Rattle.nfqa_msgs.specs.Numbers.{enoent}
use Rattle.nfqa_headers.specs.declared.verdict_header.Head.{Head}
use Rattle.nfqa_msgs.specs.declared.request.Request.{Request}
use Rattle.nfqa_msgs.specs.declared.request.Request.TheVariants.{Verdict}
use Rattle.queue_core.specs.declared.event.Event.{Event}
use Rattle.queue_core.specs.declared.event.Event.TheVariants.{Ask}
use Rattle.queue_core.specs.declared.event.Reply.{Reply}
use Rattle.queue_core.specs.declared.event.Reply.TheVariants.{Answer}
use Rattle.queue_core.specs.State.{Bound}
use Rattle.queue_core.specs.Step.{Stepped, step, way_of, unchanged}
use Rattle.queue_core.specs.Lines.{IsAllowed, IsRefused}
use Rattle.queue_core.specs.Calls.{hands_out, ways_of}
use Rattle.queue_core.specs.WithOffer.{WithOffer}
use Rattle.histories.specs.declared.entry.Entry.{Entry}
use Rattle.place_history.specs.declared.place.held.Held.{Held}
use Rattle.place_history.specs.declared.place.requests.Asker.{Asker}
use Rattle.histories.specs.States.{step_of, state_of}
use Rattle.place_history.specs.Changes.{queue_at}
use Rattle.histories.specs.Happenings.{all_handed}
use Rattle.place_history.specs.PlaceInvariant.{IsReplayed, Enters}
use Rattle.place_history.proofs.QueueStep.{Makes, state_before, states_alike}

-- an answer that the step gives has its entry
pub enters : (old new : Held) (queue : ℕ) (event : Event) (errno taken : ℕ)
    (handed : List (Card × Decision)) (e : Entry) (s : Stepped) →
    step_of old.entries.items queue event ≡ s →
    new.entries.items ≡ old.entries.items ++ e ∷ [] →
    e ≡ record { queue = queue; event = event; reply = Answer errno taken } →
    s.reply ≡ Answer errno taken → taken ≡ length s.left → handed ≡ all_handed s.left →
    Enters old new queue event errno handed
enters old new queue event errno taken handed e s same appended is reply count out =
    let replied : (step_of old.entries.items queue event).reply ≡ Answer errno taken =
    ap (λ (t : Stepped). t.reply) same ∙ reply in
    record {
      entries = appended ∙ ap (λ x. old.entries.items ++ x ∷ [])
          (is ∙ ap (answered_at queue event) (sym replied));
      reply = replied ∙ ap (Answer errno)
          (count ∙ ap (λ (t : Stepped). length t.left) (sym same));
      handed_out = out ∙ ap (λ (t : Stepped). all_handed t.left) (sym same);
    }
  where
    answered_at : ℕ → Event → Reply → Entry
    answered_at queue event reply =
        record { queue = queue; event = event; reply = reply }

-- how many wait in a queue that is held
pub waiting_held : (h : Held) (queue : ℕ) (b : Bound) (taken : ℕ) → IsReplayed h →
    h.offer ≡ None → state_of h.entries.items queue ≡ Some b →
    IsSomeAnd (queue_at h.queues queue) (λ (w : WithOffer). taken ≡ length w.state.waiting) →
    taken ≡ length b.waiting
waiting_held h queue b taken is none state count =
    rw (is.states queue, none, state) at count

-- ---- verdicts and batches that aren't refused

abbrev port_in : Option Bound → ℕ
port_in None = 0
port_in (Some q) = q.port

-- the port of a queue that is held
pub port_held : (h : Held) (queue : ℕ) (w : WithOffer) (b : Bound) (port : ℕ) → IsReplayed h →
    queue_at h.queues queue ≡ Some w → state_of h.entries.items queue ≡ Some b →
    b.port ≡ port → w.state.port ≡ port
port_held h queue w b port is was state same =
    ap port_in (sym (state_before h queue w is was) ∙ state) ∙ same

-- a request that the queue's own call serves
pub asked_step : (h : Held) (asker : Asker) (before : WithOffer) (b : Bound) (request : Request)
    (s : Stepped) → IsReplayed h → queue_at h.queues asker.queue ≡ Some before →
    state_of h.entries.items asker.queue ≡ Some b → b.port ≡ asker.port →
    step (Some before.state) (Ask before.state.port asker.call request) ≡ s →
    step (Some before.state) (Ask asker.port asker.call request) ≡ s
asked_step h asker before b request s is was state same served =
    subst (λ p. step (Some before.state) (Ask p asker.call request) ≡ s)
    (port_held h asker.queue before b asker.port is was state same) served

hands_state : (q : Bound) (hs : List (Card × Decision)) → (hands_out q hs).state ≡ Some q
hands_state q [] = refl
hands_state q (h ∷ hs) = refl

pub hands_left : (q : Bound) (hs : List (Card × Decision)) → (hands_out q hs).left ≡ ways_of hs
hands_left q [] = refl
hands_left q (h ∷ hs) = refl

-- the answer of what hands so many out
abbrev pub answer_of : ℕ → ℕ
answer_of taken = if nat_eq taken 0 then enoent else 0

hands_reply : (q : Bound) (hs : List (Card × Decision)) →
    (hands_out q hs).reply ≡ Answer (answer_of (length hs)) (length hs)
hands_reply q [] = refl
hands_reply q (h ∷ hs) = rw (eqb-suc-zero (length hs)) refl

abbrev pub ask_entry : Asker → Request → ℕ → ℕ → Entry
ask_entry asker request errno taken =
    record {
      queue = asker.queue;
      event = Ask asker.port asker.call request;
      reply = Answer errno taken;
    }

-- a call that hands these out has made the request's step
pub served_makes : (before after : WithOffer) (asker : Asker) (request : Request)
    (hs : List (Card × Decision)) → after.offer ≡ None →
    step (Some before.state) (Ask asker.port asker.call request) ≡ hands_out after.state hs →
    Makes before after (ask_entry asker request (answer_of (length hs)) (length hs))
served_makes before after asker request hs settled is = record {
  state = ap (λ (s : Stepped). s.state) is ∙ hands_state after.state hs;
  reply = sym (ap (λ (s : Stepped). s.reply) is ∙ hands_reply after.state hs);
  allowed = tt;
  settled = settled;
}

-- and its entry tells what was handed out
pub served_enters : (old new : Held) (before after : WithOffer) (asker : Asker)
    (request : Request) (hs : List (Card × Decision)) → IsReplayed old →
    queue_at old.queues asker.queue ≡ Some before →
    step (Some before.state) (Ask asker.port asker.call request) ≡ hands_out after.state hs →
    new.entries.items ≡ old.entries.items
    ++ ask_entry asker request (answer_of (length hs)) (length hs) ∷ [] →
    Enters old new asker.queue (Ask asker.port asker.call request) (answer_of (length hs))
    (all_handed (ways_of hs))
served_enters old new before after asker request hs is was step_is appended =
    enters old new asker.queue (Ask asker.port asker.call request) (answer_of (length hs))
    (length hs) (all_handed (ways_of hs)) _ (hands_out after.state hs)
    (ap (λ q. step q (Ask asker.port asker.call request))
    (state_before old asker.queue before is was) ∙ step_is)
    appended refl (hands_reply after.state hs)
    (sym (length-map hs (λ (h : Card × Decision). (h.0, way_of h.1)))
    ∙ ap length (sym (hands_left after.state hs)))
    (ap all_handed (sym (hands_left after.state hs)))

-- ---- a verdict of a port at a bound queue

-- one that is refused changes nothing
pub verdict_refused : (s : Option Bound) (port errno : ℕ) (head : Option Head)
    (mark : Option ℕ) (payload : Option (List ℕ)) (priority : Option ℕ) →
    IsRefused s port head errno → (queue call : ℕ) →
    step s (Ask port call (Verdict queue head mark payload priority)) ≡ unchanged s errno
verdict_refused s port errno head mark payload priority is queue call = rw is refl

-- that it is refused is the step of its queue
pub refused_step : (h : Held) (queue : ℕ) (event : Event) (errno : ℕ) → IsReplayed h →
    step (option_map (λ (w : WithOffer). w.state) (queue_at h.queues queue)) event
    ≡ unchanged (option_map (λ (w : WithOffer). w.state) (queue_at h.queues queue)) errno →
    step_of h.entries.items queue event ≡ unchanged (state_of h.entries.items queue) errno
refused_step h queue event errno is refused =
    subst (λ s. step s event ≡ unchanged s errno) (states_alike h queue is) refused

-- one that is allowed is carried out as that of the queue's port
verdict_allowed : (q : Bound) (port : ℕ) (head : Option Head) (allowed : Head) (mark : Option ℕ)
    (payload : Option (List ℕ)) (priority : Option ℕ) (s : Stepped) →
    IsAllowed (Some q) port head allowed → (queue call : ℕ) →
    step (Some q) (Ask q.port call (Verdict queue (Some allowed) mark payload priority)) ≡ s →
    step (Some q) (Ask port call (Verdict queue head mark payload priority)) ≡ s
verdict_allowed q port head allowed mark payload priority s is queue call served =
    subst (λ h. step (Some q) (Ask port call (Verdict queue h mark payload priority)) ≡ s)
    (sym is.3)
    (subst
    (λ p. step (Some q) (Ask p call (Verdict queue (Some allowed) mark payload priority)) ≡ s)
    (ap port_in is.1 ∙ is.2) served)

-- what leaves by it
pub verdict_leaves : (q new : Bound) (port : ℕ) (head : Option Head) (allowed : Head)
    (mark : Option ℕ) (payload : Option (List ℕ)) (priority : Option ℕ)
    (out : Option (Card × Decision)) → IsAllowed (Some q) port head allowed →
    ((queue call : ℕ) →
    step (Some q) (Ask q.port call (Verdict queue (Some allowed) mark payload priority))
    ≡ hands_out new (option_to_list out)) →
    IfOk (ok_or out enoent) (λ o. (queue call : ℕ) →
    step (Some q) (Ask port call (Verdict queue head mark payload priority))
    ≡ hands_out new (o ∷ []))
verdict_leaves q new port head allowed mark payload priority None is served = tt
verdict_leaves q new port head allowed mark payload priority (Some o) is served =
    λ queue call. verdict_allowed q port head allowed mark payload priority
    (hands_out new (o ∷ [])) is queue call (served queue call)

-- or the errno where nothing waits under its id
pub verdict_finds_none : (q new : Bound) (port : ℕ) (head : Option Head) (allowed : Head)
    (mark : Option ℕ) (payload : Option (List ℕ)) (priority : Option ℕ)
    (out : Option (Card × Decision)) → IsAllowed (Some q) port head allowed →
    IfNone out (new ≡ q) →
    ((queue call : ℕ) →
    step (Some q) (Ask q.port call (Verdict queue (Some allowed) mark payload priority))
    ≡ hands_out new (option_to_list out)) →
    IfErr (ok_or out enoent) (λ errno. (queue call : ℕ) →
    step (Some q) (Ask port call (Verdict queue head mark payload priority))
    ≡ unchanged (Some q) errno)
verdict_finds_none q new port head allowed mark payload priority None is same served =
    λ queue call. verdict_allowed q port head allowed mark payload priority
    (unchanged (Some q) enoent) is queue call
    (served queue call ∙ ap (λ b. unchanged (Some b) enoent) same)
verdict_finds_none q new port head allowed mark payload priority (Some o) is same served = tt
