-- What a port did and the letters that it received, as more of both comes.
use Rattle.std.proofs.Common.{◌≡◌, ◌<◌, ◌≤◌, ◌+◌, ℕ, zero, suc, List, [], ◌∷◌, ◌++◌, refl, ap}
use Rattle.std.proofs.Common.{length, take, arith, subst, append-nil}
use Rattle.std.specs.Prelude.{slice_get, Option}
use Rattle.std.proofs.lemmas.List.{length-append}
use Rattle.mailbox.specs.declared.view.Post.{Post}
use Rattle.histories.specs.declared.log.AskWords.{AskWords}
use Rattle.histories.specs.declared.log.Did.{Did}
use Rattle.histories.specs.declared.log.Did.TheVariants.{Received, Sent, Closed}
use Rattle.total_order.specs.Steps.{IsSent}
use Rattle.place_turns.specs.Timely.{AreEarly, AreAllEarly, receipts}

-- ---- logs

pub sent_still : (call at : ℕ) (ds more : List Did) → at < length ds →
    IsSent call (slice_get ds at) → IsSent call (slice_get (ds ++ more) at)
sent_still call at [] more few is = absurd (omega (arith, few))
sent_still call zero (d ∷ ds) more few is = is
sent_still call (suc at) (d ∷ ds) more few is =
    sent_still call at ds more (omega (arith, few)) is

pub front_still : (at : ℕ) (ds more : List Did) → at < length ds →
    take at (ds ++ more) ≡ take at ds
front_still at [] more few = absurd (omega (arith, few))
front_still zero (d ∷ ds) more few = refl
front_still (suc at) (d ∷ ds) more few =
    ap (λ (l : List Did). d ∷ l) (front_still at ds more (omega (arith, few)))

pub sent_last : (call : ℕ) (words : AskWords) (answer : Option ℕ) (ds : List Did) →
    IsSent call (slice_get (ds ++ Sent call words answer ∷ []) (length ds))
sent_last call words answer [] = refl
sent_last call words answer (d ∷ ds) = sent_last call words answer ds

pub front_all : (ds more : List Did) → take (length ds) (ds ++ more) ≡ ds
front_all [] more = refl
front_all (d ∷ ds) more = ap (λ (l : List Did). d ∷ l) (front_all ds more)

-- ---- letters that are early

pub early_more : (time later : ℕ) (ds : List Did) (ps more : List Post) → time ≤ later →
    AreEarly time ds ps → AreEarly later ds (ps ++ more)
early_more time later [] ps more l e = tt
early_more time later (Received queue number visit ∷ ds) [] more l e = absurd e
early_more time later (Received queue number visit ∷ ds) (p ∷ ps) more l e =
    let m = e.3 in
    (e.0, e.1, e.2, omega (arith, m, l), early_more time later ds ps more l e.4)
early_more time later (Sent call words answer ∷ ds) ps more l e =
    early_more time later ds ps more l e
early_more time later (Closed ∷ ds) ps more l e = early_more time later ds ps more l e

-- what is no notice asks for no letter
early_then : (time : ℕ) (d : Did) → ((ps : List Post) → AreEarly time (d ∷ []) ps) →
    (ds : List Did) (ps : List Post) → AreEarly time ds ps → AreEarly time (ds ++ d ∷ []) ps
early_then time d none [] ps e = none ps
early_then time d none (Received queue number visit ∷ ds) [] e = absurd e
early_then time d none (Received queue number visit ∷ ds) (p ∷ ps) e =
    (e.0, e.1, e.2, e.3, early_then time d none ds ps e.4)
early_then time d none (Sent call words answer ∷ ds) ps e = early_then time d none ds ps e
early_then time d none (Closed ∷ ds) ps e = early_then time d none ds ps e

pub early_closed : (time : ℕ) (ds : List Did) (ps : List Post) → AreEarly time ds ps →
    AreEarly time (ds ++ Closed ∷ []) ps
early_closed time = early_then time Closed (λ ps. tt)

pub all_are_early : (time later : ℕ) (ds : List Did) (ps : List Post) → time ≤ later →
    AreAllEarly time ds ps → AreEarly later ds ps
all_are_early time later ds ps l e =
    subst (AreEarly later ds) (append-nil ps) (early_more time later ds ps [] l e.0)

pub all_later : (time later : ℕ) (ds : List Did) (ps : List Post) → time ≤ later →
    AreAllEarly time ds ps → AreAllEarly later ds ps
all_later time later ds ps l e = (all_are_early time later ds ps l e, e.1)

-- ---- one thing more is done

receipts_then : (ds : List Did) (d : Did) →
    receipts (ds ++ d ∷ []) ≡ receipts ds + receipts (d ∷ [])
receipts_then [] d = omega arith
receipts_then (Received queue number visit ∷ ds) d = omega (arith, receipts_then ds d)
receipts_then (Sent call words answer ∷ ds) d = receipts_then ds d
receipts_then (Closed ∷ ds) d = receipts_then ds d

pub all_sent : (time call : ℕ) (words : AskWords) (answer : Option ℕ) (ds : List Did)
    (ps : List Post) → AreAllEarly time ds ps →
    AreAllEarly time (ds ++ Sent call words answer ∷ []) ps
all_sent time call words answer ds ps e = (
  early_then time (Sent call words answer) (λ ps. tt) ds ps e.0,
  omega (arith, e.1, receipts_then ds (Sent call words answer)),
)

pub all_closed : (time : ℕ) (ds : List Did) (ps : List Post) → AreAllEarly time ds ps →
    AreAllEarly time (ds ++ Closed ∷ []) ps
all_closed time ds ps e =
    (early_closed time ds ps e.0, omega (arith, e.1, receipts_then ds Closed))

early_heard : (time : ℕ) (p : Post) (ds : List Did) (ps : List Post) → p.time < time →
    length ps ≡ receipts ds → AreEarly time ds ps →
    AreEarly time (ds ++ Received p.letter.queue p.letter.number p.letter.visit ∷ [])
    (ps ++ p ∷ [])
early_heard time p [] [] l many e = (refl, refl, refl, l, tt)
early_heard time p [] (o ∷ ps) l many e = absurd (omega (arith, many))
early_heard time p (Received queue number visit ∷ ds) [] l many e = absurd e
early_heard time p (Received queue number visit ∷ ds) (o ∷ ps) l many e =
    (e.0, e.1, e.2, e.3, early_heard time p ds ps l (omega (arith, many)) e.4)
early_heard time p (Sent call words answer ∷ ds) ps l many e =
    early_heard time p ds ps l many e
early_heard time p (Closed ∷ ds) ps l many e = early_heard time p ds ps l many e

pub all_heard : (time : ℕ) (p : Post) (ds : List Did) (ps : List Post) → p.time < time →
    AreAllEarly time ds ps →
    AreAllEarly time (ds ++ Received p.letter.queue p.letter.number p.letter.visit ∷ [])
    (ps ++ p ∷ [])
all_heard time p ds ps l e =
    let d : Did = Received p.letter.queue p.letter.number p.letter.visit in (
      early_heard time p ds ps l e.1 e.0,
      omega (arith, e.1, receipts_then ds d, length-append ps (p ∷ [])),
    )
