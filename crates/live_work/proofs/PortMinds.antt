-- What is kept of a port beside its pass stays its own, notice by notice.
use Rattle.std.proofs.Common.{◌≡◌, ◌<◌, ◌+◌, ◌^◌, ◌-◌, ◌∙◌, ◌++◌, ◌∷◌, [], ℕ, suc, List}
use Rattle.std.proofs.Common.{Option, Some, None, Bool, true, false, ap, arith, cond, length, min}
use Rattle.std.proofs.Common.{refl, subst, sym}
use Rattle.std.specs.Prelude.{◌==◌, if◌then◌else◌, nat_eq}
use Rattle.std.specs.List.{list_any}
use Rattle.std.proofs.lemmas.List.{length-append}
use Rattle.std.proofs.lemmas.List.Sums.{sum_by-append}
use Rattle.mailbox.specs.Views.{ReceiverView}
use Rattle.packet_entry.specs.declared.letter.Letter.{Letter}
use Rattle.nfqa_msgs.specs.NoticeMeaning.{notice_of}
use Rattle.nfqa_msgs.specs.NoticeWriting.{Told}
use Rattle.histories.specs.declared.log.Did.{Did}
use Rattle.histories.specs.declared.log.Did.TheVariants.{Received}
use Rattle.histories.specs.Logs.{is_received}
use Rattle.script_lines.specs.declared.ask.Ask.{Ask}
use Rattle.inspector_script.specs.Scripts.{Machine, ScriptValue, answer, next_count}
use Rattle.run_parts.specs.Log.{answer_to, received_count}
use Rattle.nfqa_msgs.specs.NoticeTexts.{told_exactly}
use Rattle.run_parts.specs.Ports.{is_port, place_in}
use Rattle.run_parts.specs.Log.{asks_for}
use Rattle.plane.specs.Passes.{PortView, Receives}
use Rattle.live_work.specs.declared.mind.Mind.{Mind}
use Rattle.live_work.specs.Minds.{HearsNothing, IsMind}
use Rattle.live_work.specs.Numbers.{most_counted}

-- ---- where the port stands

within_one : (b : Bool) (rest n : ℕ) → (b ≡ false → rest < n) →
    (if b then 0 else suc rest) < suc n
within_one true rest n so = omega arith
within_one false rest n so = let more : rest < n = so refl in omega (arith, more)

pub within_ports : (port : ℕ) (ports : List ℕ) → list_any (nat_eq port) ports ≡ true →
    place_in port ports < length ports
within_ports port [] is = absurd (cc)
within_ports port (q ∷ qs) is =
    within_one (port == q) (place_in port qs) (length qs)
    (λ apart. within_ports port qs (rw apart at is))

pub mind_within : (script : ScriptValue) (p : PortView) (m : Mind) → IsMind script p m →
    m.machine.place < length script.ports
mind_within script p m is =
    omega (arith, is.place, within_ports p.port script.ports is.port)

-- ---- a notice

count_one : (dids : List Did) (queue number visit : ℕ) →
    received_count (dids ++ Received queue number visit ∷ []) ≡ next_count (received_count dids)
count_one dids queue number visit =
    omega (
      arith,
      sum_by-append (λ (d : Did). cond (is_received d) 1 0) dids
          (Received queue number visit ∷ []),
    )

pub asks_are : (script : ScriptValue) (place : ℕ) (n : ℕ) (dids : List Did)
    (told : Option Told) → n ≡ received_count dids →
    asks_for script place n told ≡ answer_to script place dids told
asks_are script place n dids None is = refl
asks_are script place n dids (Some told) is =
    ap (λ (k : ℕ). answer script place k (notice_of told)) is

pub received_next : (old new : PortView) (l : Letter) (n : ℕ) → n ≡ received_count old.dids →
    Receives old new (Some l) → next_count n ≡ received_count new.dids
received_next old new l n is receives =
    ap (λ (k : ℕ). next_count k) is
    ∙ sym (ap (λ (p : PortView). received_count p.dids) receives.2
    ∙ count_one old.dids l.queue l.number l.visit)

-- what is asked for is the answer to the notice
pub answers_so : (script : ScriptValue) (m : Mind) (l : Letter) (asks : List Ask) →
    asks ≡ asks_for script m.machine.place (next_count m.machine.received) (told_exactly l.bytes) →
    (old new : PortView) → IsMind script old m → Receives old new (Some l) →
    asks ≡ answer_to script (place_in old.port script.ports) new.dids (told_exactly l.bytes)
answers_so script m l asks are old new is receives =
    are
    ∙ ap (λ (place : ℕ). asks_for script place (next_count m.machine.received)
    (told_exactly l.bytes)) is.place
    ∙ asks_are script (place_in old.port script.ports) (next_count m.machine.received) new.dids
    (told_exactly l.bytes) (received_next old new l m.machine.received is.counted receives)

-- one more was heard
heard_one : (old new : PortView) (l : Letter) (m n : ℕ) →
    m ≡ min (length old.receiver.received) most_counted → n ≡ min (m + 1) (2 ^ 128 - 1) →
    Receives old new (Some l) → n ≡ min (length new.receiver.received) most_counted
heard_one old new l m n was now receives =
    let longer : length new.receiver.received
    ≡ length (old.receiver.received
    ++ record { from = receives.0; letter = l; time = receives.1 } ∷ []) =
    ap (λ (p : PortView). length p.receiver.received) receives.2 in
    omega (
      arith,
      was,
      now,
      longer,
      length-append old.receiver.received
          (record { from = receives.0; letter = l; time = receives.1 } ∷ []),
    )

pub mind_on : (script : ScriptValue) (m n : Mind) (l : Letter) →
    n.machine ≡ record m.machine { received = next_count m.machine.received } →
    n.received ≡ min (m.received + 1) (2 ^ 128 - 1) → (old new : PortView) →
    IsMind script old m → Receives old new (Some l) → IsMind script new n
mind_on script m n l machine received old new is receives =
    let port : new.port ≡ old.port = ap (λ (p : PortView). p.port) receives.2 in
    record {
      port = ap (λ (p : ℕ). is_port script p) port ∙ is.port;
      place = ap (λ (x : Machine). x.place) machine ∙ is.place
          ∙ sym (ap (λ (p : ℕ). place_in p script.ports) port);
      counted = ap (λ (x : Machine). x.received) machine
          ∙ received_next old new l m.machine.received is.counted receives;
      heard = heard_one old new l m.received n.received is.heard received receives;
    }

-- ---- what leaves the count as it is

pub mind_stays : (script : ScriptValue) (old new : PortView) (m n : Mind) →
    IsMind script old m → HearsNothing old new → new.port ≡ old.port →
    n.machine ≡ m.machine → n.received ≡ m.received → IsMind script new n
mind_stays script old new m n is hears port machine received = record {
  port = ap (λ (p : ℕ). is_port script p) port ∙ is.port;
  place = ap (λ (x : Machine). x.place) machine ∙ is.place
      ∙ sym (ap (λ (p : ℕ). place_in p script.ports) port);
  counted = ap (λ (x : Machine). x.received) machine ∙ is.counted ∙ sym hears.counted;
  heard = received ∙ is.heard
      ∙ sym (ap (λ (r : ReceiverView). min (length r.received) most_counted) hears.receiver);
}

-- a look that finds nothing
pub mind_looks : (script : ScriptValue) (old new : PortView) (m : Mind) → IsMind script old m →
    Receives old new None → IsMind script new m
mind_looks script old new m is receives =
    subst (λ (p : PortView). IsMind script p m) (sym receives)
    (record { port = is.port; place = is.place; counted = is.counted; heard = is.heard })
