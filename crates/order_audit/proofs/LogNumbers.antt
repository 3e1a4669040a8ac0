-- Numbers of messages in a log, and notices that were heard.
use Rattle.std.proofs.Common.{◌≡◌, ◌≤◌, ◌<◌, ℕ, zero, suc, ◌+◌, List, [], ◌∷◌, take, refl, sym}
use Rattle.std.proofs.Common.{ap, true, Option, Some, None, arith}
use Rattle.std.specs.Prelude.{slice_get}
use Rattle.std.proofs.lemmas.Bool.{eq-eqb}
use Rattle.histories.specs.declared.entry.Entry.{Entry}
use Rattle.histories.specs.declared.log.Did.{Did}
use Rattle.histories.specs.declared.log.Did.TheVariants.{Received, Sent, Closed}
use Rattle.total_order.specs.Steps.{AreTaken, IsSent}
use Rattle.order_audit.specs.Cursors.{Ascend}
use Rattle.order_audit.specs.Walking.{is_sent}
use Rattle.order_audit.proofs.Gone.{IsHeard}

-- numbers that ascend are no lower than where they begin
sent_low : (low call : ℕ) (ds : List Did) (i : ℕ) → Ascend low ds →
    IsSent call (slice_get ds i) → low ≤ call
sent_low low call [] i up is = absurd is
sent_low low call (Received queue number visit ∷ ds) zero up is = absurd is
sent_low low call (Sent number ask answer ∷ ds) zero up is =
    let le = up.0 in omega (arith, le, is)
sent_low low call (Closed ∷ ds) zero up is = absurd is
sent_low low call (Received queue number visit ∷ ds) (suc i) up is = sent_low low call ds i up is
sent_low low call (Sent number ask answer ∷ ds) (suc i) up is =
    let le = up.0 in let more = sent_low (number + 1) call ds i up.1 is in
    omega (arith, le, more)
sent_low low call (Closed ∷ ds) (suc i) up is = sent_low low call ds i up is

-- so a number is in a log once
pub one_place : (low call : ℕ) (ds : List Did) (i j : ℕ) → Ascend low ds →
    IsSent call (slice_get ds i) → IsSent call (slice_get ds j) → i ≡ j
one_place low call [] i j up is at = absurd is
one_place low call (d ∷ ds) zero zero up is at = refl
one_place low call (Received queue number visit ∷ ds) zero (suc j) up is at = absurd is
one_place low call (Received queue number visit ∷ ds) (suc i) zero up is at = absurd at
one_place low call (Received queue number visit ∷ ds) (suc i) (suc j) up is at =
    ap suc (one_place low call ds i j up is at)
one_place low call (Sent number ask answer ∷ ds) zero (suc j) up is at =
    absurd (let more = sent_low (number + 1) call ds j up.1 at in omega (arith, more, is))
one_place low call (Sent number ask answer ∷ ds) (suc i) zero up is at =
    absurd (let more = sent_low (number + 1) call ds i up.1 is in omega (arith, more, at))
one_place low call (Sent number ask answer ∷ ds) (suc i) (suc j) up is at =
    ap suc (one_place (number + 1) call ds i j up.1 is at)
one_place low call (Closed ∷ ds) zero (suc j) up is at = absurd is
one_place low call (Closed ∷ ds) (suc i) zero up is at = absurd at
one_place low call (Closed ∷ ds) (suc i) (suc j) up is at =
    ap suc (one_place low call ds i j up is at)

-- what is before a position was heard
pub heard_at : (ds : List Did) (n i : ℕ) (es : List Entry) → i < n → AreTaken (take n ds) es →
    IsHeard (slice_get ds i) es
heard_at [] n i es less are = tt
heard_at (d ∷ ds) zero i es less are = absurd (omega (arith, less))
heard_at (Received queue number visit ∷ ds) (suc n) zero es less are = are.0
heard_at (Sent call ask answer ∷ ds) (suc n) zero es less are = tt
heard_at (Closed ∷ ds) (suc n) zero es less are = tt
heard_at (Received queue number visit ∷ ds) (suc n) (suc i) es less are =
    heard_at ds n i es (omega (arith, less)) are.1
heard_at (Sent call ask answer ∷ ds) (suc n) (suc i) es less are =
    heard_at ds n i es (omega (arith, less)) are
heard_at (Closed ∷ ds) (suc n) (suc i) es less are = heard_at ds n i es (omega (arith, less)) are

-- and what is anywhere in a log that was heard
pub heard_in : (ds : List Did) (i : ℕ) (es : List Entry) → AreTaken ds es →
    IsHeard (slice_get ds i) es
heard_in [] i es are = tt
heard_in (Received queue number visit ∷ ds) zero es are = are.0
heard_in (Sent call ask answer ∷ ds) zero es are = tt
heard_in (Closed ∷ ds) zero es are = tt
heard_in (Received queue number visit ∷ ds) (suc i) es are = heard_in ds i es are.1
heard_in (Sent call ask answer ∷ ds) (suc i) es are = heard_in ds i es are
heard_in (Closed ∷ ds) (suc i) es are = heard_in ds i es are

-- a message is the message with its number
pub sent_back : (call : ℕ) (o : Option Did) → IsSent call o → is_sent call o ≡ true
sent_back call None is = absurd is
sent_back call (Some (Received queue number visit)) is = absurd is
sent_back call (Some (Sent number ask answer)) is = eq-eqb number call (sym is)
sent_back call (Some Closed) is = absurd is
