-- What is known of a port's log: the arrivals of its notices, and what its requests rest on.
use Rattle.std.proofs.Common.{◌≡◌, ℕ, zero, suc, List, [], ◌∷◌, ◌++◌, refl, sym, ap, subst, take}
use Rattle.std.proofs.Common.{slice_get, length, Option}
use Rattle.histories.specs.declared.log.AskWords.{AskWords}
use Rattle.histories.specs.declared.log.Did.{Did}
use Rattle.histories.specs.declared.log.Did.TheVariants.{Received, Sent, Closed}
use Rattle.total_order.specs.Steps.{IsSent}
use Rattle.total_order.specs.Places.{Lists, AreHeard}

-- of two parts of a log, and so of the whole
pub heard_both : (places : ℕ) (lists : Lists) (time : ℕ) (ds es : List Did) →
    AreHeard places lists time ds → AreHeard places lists time es →
    AreHeard places lists time (ds ++ es)
heard_both places lists time [] es h k = k
heard_both places lists time (Received queue number visit ∷ ds) es h k =
    (h.0, heard_both places lists time ds es h.1 k)
heard_both places lists time (Sent call ask answer ∷ ds) es h k =
    heard_both places lists time ds es h k
heard_both places lists time (Closed ∷ ds) es h k = heard_both places lists time ds es h k

-- of a log, and so of its parts
pub heard_parts : (places : ℕ) (lists : Lists) (time : ℕ) (ds es : List Did) →
    AreHeard places lists time (ds ++ es) →
    AreHeard places lists time ds × AreHeard places lists time es
heard_parts places lists time [] es h = (tt, h)
heard_parts places lists time (Received queue number visit ∷ ds) es h =
    let rest = heard_parts places lists time ds es h.1 in ((h.0, rest.0), rest.1)
heard_parts places lists time (Sent call ask answer ∷ ds) es h =
    heard_parts places lists time ds es h
heard_parts places lists time (Closed ∷ ds) es h = heard_parts places lists time ds es h

-- ---- a log that goes on

-- a message keeps its position, and what was received before it
pub sent_on : (call at : ℕ) (ds more : List Did) → IsSent call (slice_get ds at) →
    IsSent call (slice_get (ds ++ more) at) × (take at (ds ++ more) ≡ take at ds)
sent_on call at [] more s = absurd s
sent_on call zero (d ∷ ds) more s = (s, refl)
sent_on call (suc at) (d ∷ ds) more s =
    let rest = sent_on call at ds more s in (rest.0, ap (λ es. d ∷ es) rest.1)

-- the next message has the length of the log as its position
pub sent_next : (call : ℕ) (words : AskWords) (answer : Option ℕ) (ds : List Did) →
    IsSent call (slice_get (ds ++ Sent call words answer ∷ []) (length ds))
    × (take (length ds) (ds ++ Sent call words answer ∷ []) ≡ ds)
sent_next call words answer [] = (refl, refl)
sent_next call words answer (d ∷ ds) =
    let rest = sent_next call words answer ds in (rest.0, ap (λ es. d ∷ es) rest.1)

module _ (places : ℕ) (lists : Lists) (time call : ℕ) where
  -- so what a request rests on stays known
  pub asked_on : (at : ℕ) (ds more : List Did) → IsSent call (slice_get ds at) →
      AreHeard places lists time (take at ds) → IsSent call (slice_get (ds ++ more) at)
      × AreHeard places lists time (take at (ds ++ more))
  asked_on at ds more s h =
      let on = sent_on call at ds more s in
      (on.0, subst (λ es. AreHeard places lists time es) (sym on.1) h)

  -- and is known of the next request, if it is of the log
  pub asked_next : (words : AskWords) (answer : Option ℕ) (ds : List Did) →
      AreHeard places lists time ds →
      IsSent call (slice_get (ds ++ Sent call words answer ∷ []) (length ds))
      × AreHeard places lists time (take (length ds) (ds ++ Sent call words answer ∷ []))
  asked_next words answer ds h =
      let next = sent_next call words answer ds in
      (next.0, subst (λ es. AreHeard places lists time es) (sym next.1) h)
