-- A port looks into its mailbox: what is known after each look.
use Rattle.std.proofs.Common.{◌≡◌, ◌<◌, ◌+◌, ◌∙◌, [], ◌∷◌, ℕ, List, Option, Some, None, ap, refl}
use Rattle.std.proofs.Common.{subst, sym, true, false, arith, length}
use Rattle.std.specs.Prelude.{◌↔◌}
use Rattle.std.proofs.lemmas.List.{length-append}
use Rattle.mailbox.specs.Views.{ReceiverView}
use Rattle.packet_entry.specs.declared.letter.Letter.{Letter}
use Rattle.script_lines.specs.declared.ask.Ask.{Ask}
use Rattle.inspector_script.specs.Scripts.{ScriptValue}
use Rattle.run_parts.specs.Log.{answer_to}
use Rattle.nfqa_msgs.specs.NoticeTexts.{told_exactly}
use Rattle.run_parts.specs.Ports.{place_in}
use Rattle.port_scripts.specs.Words.{AreWords}
use Rattle.plane.specs.declared.plane.Plane.{Plane}
use Rattle.plane.specs.Passes.{IsPortOf, PortView}
use Rattle.plane.specs.Passes as view
use Rattle.place_turns.specs.Trails.{parts_of}
use Rattle.live_runs.specs.Doing.{GoesOn, HasAsked}
use Rattle.live_runs.specs.Passes.{Pass, Receives}
use Rattle.live_passes.specs.Numbered.{StaysPort}
use Rattle.live_passes.specs.Views.{port_pass}
use Rattle.live_work.specs.Sending.{SaysTo}
use Rattle.live_work.specs.Looking.{LooksOn, heard_by}
use Rattle.live_work.specs.Minds.{HearsNothing}

-- ---- the laws of looks

abbrev pub LookLaw : Type 0
LookLaw = (workers : ℕ) (script : ScriptValue) (places port : ℕ) (l : Letter)
    (old mid new : Pass) → Receives l old mid →
    HasAsked workers script places port
    (answer_to script (place_in port script.ports) mid.dids (told_exactly l.bytes)) [] mid new →
    GoesOn workers script places port old new

abbrev pub NoLookLaw : Type 0
NoLookLaw = (workers : ℕ) (script : ScriptValue) (places port : ℕ) (pass : Pass) →
    GoesOn workers script places port pass pass

abbrev pub NextLookLaw : Type 0
NextLookLaw = (workers : ℕ) (script : ScriptValue) (places port : ℕ) (old mid new : Pass) →
    GoesOn workers script places port old mid → GoesOn workers script places port mid new →
    GoesOn workers script places port old new

-- ---- one look

-- a look leaves the pass its port's
pub received_stays : (plane : Plane) (old new : PortView) (l : Option Letter) →
    IsPortOf plane new → view.Receives old new l → StaysPort plane old new
received_stays plane old new None of is = record {
  of = of;
  port = ap (λ (p : PortView). p.port) is;
  parts = ap (λ (p : PortView). parts_of p.trail.known) is;
}
received_stays plane old new (Some l) of is = record {
  of = of;
  port = ap (λ (p : PortView). p.port) is.2;
  parts = ap (λ (p : PortView). parts_of p.trail.known) is.2;
}

pub same_stays : (plane : Plane) (old new : PortView) → IsPortOf plane new → new ≡ old →
    StaysPort plane old new
same_stays plane old new of is = record {
  of = of;
  port = ap (λ (p : PortView). p.port) is;
  parts = ap (λ (p : PortView). parts_of p.trail.known) is;
}

-- what is asked for in answer closes nothing
pub answer_words : (script : ScriptValue) (place : ℕ) (mid : PortView) (l : Letter)
    (asks : List Ask) →
    AreWords (answer_to script place mid.dids (told_exactly l.bytes)) →
    asks ≡ answer_to script place mid.dids (told_exactly l.bytes) → AreWords asks
answer_words script place mid l asks words are =
    subst (λ (given : List Ask). AreWords given) (sym are) words

-- a notice was received and answered
pub looks_on : LookLaw → (script : ScriptValue) (places : ℕ) (l : Letter) (asks : List Ask)
    (old mid new : PortView) → Receives l (port_pass old) (port_pass mid) →
    mid.port ≡ old.port →
    asks ≡ answer_to script (place_in old.port script.ports) mid.dids (told_exactly l.bytes) →
    SaysTo script places mid.port asks [] (port_pass mid) (port_pass new) → (workers : ℕ) →
    LooksOn workers script places old new
looks_on law script places l asks old mid new receives port are says workers = record {
  on = law workers script places old.port l (port_pass old) (port_pass mid) (port_pass new)
      receives
      (subst (λ (given : List Ask). HasAsked workers script places old.port given []
      (port_pass mid) (port_pass new)) are
      ((subst (λ (p : ℕ). SaysTo script places p asks [] (port_pass mid) (port_pass new)) port
      says).each workers));
}

-- the mailbox was found empty, or nothing was done
pub looks_none : NoLookLaw → (script : ScriptValue) (places : ℕ) (old new : PortView) →
    port_pass new ≡ port_pass old → (workers : ℕ) → LooksOn workers script places old new
looks_none law script places old new same workers = record {
  on = subst (λ (q : Pass). GoesOn workers script places old.port (port_pass old) q) (sym same)
      (law workers script places old.port (port_pass old));
}

pub looks_both : NextLookLaw → (script : ScriptValue) (places : ℕ) (a b c : PortView) →
    b.port ≡ a.port → ((workers : ℕ) → LooksOn workers script places a b) →
    ((workers : ℕ) → LooksOn workers script places b c) → (workers : ℕ) →
    LooksOn workers script places a c
looks_both law script places a b c port one two workers = record {
  on = law workers script places a.port (port_pass a) (port_pass b) (port_pass c)
      (one workers).on
      (subst (λ (p : ℕ). GoesOn workers script places p (port_pass b) (port_pass c)) port
      (two workers).on);
}

-- ---- whether there was a notice

-- a letter that is received is one more
pub one_more_heard : (old new : PortView) (l : Letter) → view.Receives old new (Some l) →
    heard_by new ≡ heard_by old + 1
one_more_heard old new l got =
    ap (λ (p : PortView). heard_by p) got.2
    ∙ length-append old.receiver.received
    ((record { from = got.0; letter = l; time = got.1 }) ∷ [])

-- and messages receive nothing
pub still_heard : (old new : PortView) → HearsNothing old new → heard_by new ≡ heard_by old
still_heard old new none = ap (λ (r : ReceiverView). length r.received) none.receiver

pub found_one : (old mid new : PortView) (l : Letter) → view.Receives old mid (Some l) →
    HearsNothing mid new → (true ≡ true) ↔ (heard_by old < heard_by new)
found_one old mid new l got none = (
  λ same. omega (arith, one_more_heard old mid l got, still_heard mid new none),
  λ less. refl,
)

pub found_none : (old new : PortView) → view.Receives old new None →
    (false ≡ true) ↔ (heard_by old < heard_by new)
found_none old new is =
    let same : heard_by new ≡ heard_by old = ap (λ (p : PortView). heard_by p) is in
    (λ wrong. absurd (cc wrong), λ less. absurd (omega (arith, less, same)))
