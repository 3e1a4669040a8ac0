-- What is kept of the script's ports at first, port by port.
use Rattle.std.proofs.Common.{◌≡◌, ◌+◌, ◌∙◌, ◌++◌, ◌∷◌, [], ℕ, List, ap, arith, length, min}
use Rattle.std.proofs.Common.{subst, sym}
use Rattle.std.specs.List.{AllZip}
use Rattle.std.proofs.lemmas.List.{length-map}
use Rattle.mailbox.specs.Views.{ReceiverView}
use Rattle.histories.specs.declared.log.Did.{Did}
use Rattle.inspector_script.specs.Scripts.{ScriptValue}
use Rattle.run_parts.specs.Log.{received_count}
use Rattle.run_parts.specs.Ports.{ArePlaced, place_in}
use Rattle.place_rows.specs.Lists.{Every}
use Rattle.plane.specs.Opening.{IsNew}
use Rattle.plane.specs.Passes.{PortView}
use Rattle.live_passes.specs.Numbered.{numbers_of}
use Rattle.live_work.specs.declared.mind.Mind.{Mind}
use Rattle.live_work.specs.Minds.{IsMind}
use Rattle.live_work.specs.Numbers.{most_counted}

-- that of the port at this place, which received nothing yet
pub record IsFresh (place : ℕ) (m : Mind) : Type 0 where
  pub place_is : m.machine.place ≡ place
  pub counted : m.machine.received ≡ 0
  pub none : m.received ≡ 0

abbrev pub AreFresh : ℕ → List Mind → Type 0
AreFresh place [] = Unit {0}
AreFresh place (m ∷ ms) = IsFresh place m × AreFresh (place + 1) ms

pub fresh_push : (place : ℕ) (ms : List Mind) (m : Mind) → AreFresh place ms →
    IsFresh (place + length ms) m → AreFresh place (ms ++ m ∷ [])
fresh_push place [] m are is =
    let none : place + 0 ≡ place = omega arith in
    (subst (λ (n : ℕ). IsFresh n m) none is, tt)
fresh_push place (n ∷ ns) m are is =
    let more : place + length (n ∷ ns) ≡ place + 1 + length ns = omega arith in
    (are.0, fresh_push (place + 1) ns m are.1 (subst (λ (k : ℕ). IsFresh k m) more is))

pub all_fresh : (script : ScriptValue) (place : ℕ) (ports : List PortView) (ms : List Mind) →
    ArePlaced script (λ p. place_in p script.ports) place (numbers_of ports) →
    AreFresh place ms → length ms ≡ length ports → Every IsNew ports →
    AllZip (IsMind script) ports ms
all_fresh script place [] [] placed fresh long new = tt
all_fresh script place [] (m ∷ ms) placed fresh long new = absurd (omega (arith, long))
all_fresh script place (p ∷ ps) [] placed fresh long new = absurd (omega (arith, long))
all_fresh script place (p ∷ ps) (m ∷ ms) placed fresh long new = (
  record {
    port = placed.1;
    place = fresh.0.place_is ∙ sym placed.0;
    counted = fresh.0.counted ∙ sym (ap (λ (l : List Did). received_count l) new.0.dids);
    heard = fresh.0.none
        ∙ sym (ap (λ (r : ReceiverView). min (length r.received) most_counted) new.0.receiver);
  },
  all_fresh script (place + 1) ps ms placed.2 fresh.1 (omega (arith, long)) new.1,
)

pub as_many : (script : ScriptValue) (ports : List PortView) (ms : List Mind) →
    numbers_of ports ≡ script.ports → length ms ≡ length script.ports →
    length ms ≡ length ports
as_many script ports ms numbers long =
    let all : length (numbers_of ports) ≡ length script.ports =
    ap (λ (l : List ℕ). length l) numbers in
    omega (arith, long, all, length-map ports (λ (p : PortView). p.port))
