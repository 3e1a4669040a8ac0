-- What queues take: with an arrival's entry, and from then on as entries are appended.
use Rattle.std.proofs.Common.{◌≡◌, ◌∙◌, ℕ, List, [], ◌∷◌, ◌++◌, Option, Some, Bool}
use Rattle.std.proofs.Common.{refl, sym, ap, subst, inl, append_assoc}
use Rattle.std.proofs.lemmas.List.Elements.{filter-append}
use Rattle.packet_entry.specs.declared.packet.Card.{Card}
use Rattle.packet_entry.specs.declared.letter.Letter.{Letter}
use Rattle.queue_core.specs.State.{Bound}
use Rattle.queue_core.specs.Step.{step, arrive}
use Rattle.queue_core.specs.declared.event.Event.TheVariants.{Arrive}
use Rattle.queue_core.specs.declared.event.Reply.{Reply}
use Rattle.queue_core.specs.declared.event.Reply.TheVariants.{Arrived, Answer, Flushed}
use Rattle.queue_core.specs.declared.offers.Outcome.{Outcome}
use Rattle.queue_core.specs.declared.offers.Outcome.TheVariants as outcome
use Rattle.histories.specs.declared.entry.Entry.{Entry}
use Rattle.histories.specs.declared.log.Did.{Did}
use Rattle.histories.specs.declared.log.Did.TheVariants.{Received, Sent, Closed}
use Rattle.histories.specs.History.{history, is_of}
use Rattle.histories.specs.Happenings as happening
use Rattle.histories.specs.Journeys.{Arrival}
use Rattle.histories.specs.Letters.{letters_of_reply}
use Rattle.histories.specs.States.{entry_of, state_of, step_of}
use Rattle.total_order.specs.Steps.{AreTaken, Has, taken, taken_by, taken_with}
use Rattle.solo_schedule.proofs.Departures.{has_front, has_behind, last_part}
use Rattle.solo_schedule.proofs.Notices.{arrival_offers, offered}

taken_append : (es fs : List Entry) → taken (es ++ fs) ≡ taken es ++ taken fs
taken_append [] fs = refl
taken_append (e ∷ es) fs = ap (λ cs. taken_by e.event e.reply ++ cs) (taken_append es fs)
    ∙ sym (append_assoc (taken_by e.event e.reply) (taken es) (taken fs))

taken_in : (queue : ℕ) (es fs : List Entry) →
    taken (history queue (es ++ fs)) ≡ taken (history queue es) ++ taken (history queue fs)
taken_in queue es fs =
    ap taken (filter-append (is_of queue) es fs)
    ∙ taken_append (history queue es) (history queue fs)

pub are_taken_on : (ds : List Did) (es fs : List Entry) → AreTaken ds es → AreTaken ds (es ++ fs)
are_taken_on [] es fs are = tt
are_taken_on (Received queue number visit ∷ ds) es fs are = (
  subst (λ cs. Has number visit cs) (sym (taken_in queue es fs))
      (has_front number visit (taken (history queue es)) (taken (history queue fs)) are.0),
  are_taken_on ds es fs are.1,
)
are_taken_on (Sent call words answer ∷ ds) es fs are = are_taken_on ds es fs are
are_taken_on (Closed ∷ ds) es fs are = are_taken_on ds es fs are

pub are_taken_more : (ds fs : List Did) (es : List Entry) → AreTaken ds es → AreTaken fs es →
    AreTaken (ds ++ fs) es
are_taken_more [] fs es are more = more
are_taken_more (Received queue number visit ∷ ds) fs es are more =
    (are.0, are_taken_more ds fs es are.1 more)
are_taken_more (Sent call words answer ∷ ds) fs es are more = are_taken_more ds fs es are more
are_taken_more (Closed ∷ ds) fs es are more = are_taken_more ds fs es are more

-- a reply that offers a notice says that the packet was taken
offers_tell : (queue : ℕ) (b : Bound) (card : Card) (reply : Reply) (l : Letter) →
    letters_of_reply queue b card reply ≡ l ∷ [] → taken_with card reply ≡ card ∷ []
offers_tell queue b card (Answer errno n) l is = absurd (cc)
offers_tell queue b card (Flushed n) l is = absurd (cc)
offers_tell queue b card (Arrived o) l is = by o is
  where
    by : (o : Outcome) → letters_of_reply queue b card (Arrived o) ≡ l ∷ [] →
        taken_with card (Arrived o) ≡ card ∷ []
    by (outcome.Taken id) is = refl
    by outcome.Overflow is = absurd (cc)
    by outcome.OverflowOpen is = absurd (cc)
    by (outcome.UserFull id) is = absurd (cc)
    by (outcome.UserFullOpen id) is = absurd (cc)
    by outcome.NoQueue is = absurd (cc)
    by outcome.Bypassed is = absurd (cc)
    by outcome.CopyNone is = absurd (cc)
    by outcome.Loop is = absurd (cc)

stays_taken : (queue : ℕ) (o : Option Bound) (b : Bound) (card : Card) (bypass room : Bool) →
    o ≡ Some b → (step o (Arrive card bypass room)).left ≡ [] →
    taken_with card (step o (Arrive card bypass room)).reply ≡ card ∷ []
stays_taken queue o b card bypass room at =
    subst (λ q. (step q (Arrive card bypass room)).left ≡ [] →
    taken_with card (step q (Arrive card bypass room)).reply ≡ card ∷ []) (sym at)
    (λ stays. offers_tell queue b card (arrive (Some b) card bypass room).reply _
    (arrival_offers queue b card bypass room ∙ ap (offered queue b card) stays))

-- an arrival at a bound queue that leaves nothing was taken
pub taken_at : (es : List Entry) (a : Arrival) (room : Bool) (b : Bound) →
    state_of es a.queue ≡ Some b → (step_of es a.queue (happening.arrive a room)).left ≡ [] →
    Has a.card.number a.card.visit
    (taken (history a.queue (es ++ entry_of es a.queue (happening.arrive a room) ∷ [])))
taken_at es a room b at stays =
    let e = entry_of es a.queue (happening.arrive a room) in
    subst (λ cs. Has a.card.number a.card.visit cs)
    (sym (taken_in a.queue es (e ∷ [])
    ∙ ap (λ fs. taken (history a.queue es) ++ taken fs) (last_part a.queue e refl)
    ∙ ap (λ cs. taken (history a.queue es) ++ (cs ++ []))
    (stays_taken a.queue (state_of es a.queue) b a.card a.bypass room at stays)))
    (has_behind a.card.number a.card.visit (taken (history a.queue es)) (a.card ∷ [])
    (inl (refl, refl)))
