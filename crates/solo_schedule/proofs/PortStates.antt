-- What is known of each port of a run: the packets of the notices in its mailbox were taken, and
-- its log has no closing while it is open.
use Rattle.std.proofs.Common.{◌≡◌, ◌⊎◌, ◌∙◌, ℕ, List, [], ◌∷◌, ◌++◌, Option, Some, None}
use Rattle.std.proofs.Common.{Bool, true, false, refl, sym, ap, subst, inl, inr}
use Rattle.std.specs.Prelude.{map, not, ◌==◌, if◌then◌else◌, option_map}
use Rattle.std.proofs.lemmas.Bool.{cases_Bool, eqb-true}
use Rattle.std.proofs.lemmas.List.{map-append}
use Rattle.packet_entry.specs.declared.packet.Card.{Card}
use Rattle.packet_entry.specs.declared.letter.Letter.{Letter}
use Rattle.queue_core.specs.State.{Bound}
use Rattle.queue_core.specs.Step.{Way, next_id}
use Rattle.queue_core.specs.WithOffer.{letter_of}
use Rattle.histories.specs.declared.entry.Entry.{Entry}
use Rattle.histories.specs.declared.log.AskWords.{AskWords}
use Rattle.histories.specs.declared.log.Did.{Did}
use Rattle.histories.specs.declared.log.Did.TheVariants.{Received, Sent, Closed}
use Rattle.histories.specs.History.{history}
use Rattle.histories.specs.Journeys.{Arrival}
use Rattle.total_order.specs.Steps.{AreTaken, Has, taken}
use Rattle.total_order.specs.OneThread.{Logs, and_log, HasClosed, IsOpen}
use Rattle.packet_moves.specs.World.{Port, changed_at, delivered, having_done}
use Rattle.packet_moves.specs.World.{received, received_from, closed}
use Rattle.packet_moves.specs.Logs.{dids_of}
use Rattle.packet_moves.specs.Moving.{with_notice}
use Rattle.solo_schedule.specs.Schedule.{letters_at, is_open_port}
use Rattle.solo_schedule.proofs.Takings.{are_taken_on, are_taken_more}

-- what each port did
abbrev pub logs_of : (ℕ → Option Port) → Logs
logs_of ports port = dids_of (ports port)

-- ---- logs of open and closed ports

pub has_closed : (ds : List Did) → HasClosed (ds ++ Closed ∷ [])
has_closed [] = tt
has_closed (Received queue number visit ∷ ds) = has_closed ds
has_closed (Sent call words answer ∷ ds) = has_closed ds
has_closed (Closed ∷ ds) = tt

open_on : (ds : List Did) (did : Did) → IsOpen (did ∷ []) → IsOpen ds → IsOpen (ds ++ did ∷ [])
open_on [] did one op = one
open_on (Received queue number visit ∷ ds) did one op = open_on ds did one op
open_on (Sent call words answer ∷ ds) did one op = open_on ds did one op
open_on (Closed ∷ ds) did one op = absurd (op tt)

-- ---- what is known of each port

-- what a port is about to receive
abbrev pub notices : List Letter → List Did
notices ls = map (λ (l : Letter). Received l.queue l.number l.visit) ls

-- The packets of all notices in its mailbox were taken, its log has a closing only once it has
-- closed, and it is one of the script's.
pub record IsPort (es : List Entry) (inside : Bool) (o : Option Port) : Type 0 where
  pub mail : AreTaken (notices (letters_at o)) es
  pub unclosed : is_open_port o ≡ true → IsOpen (dids_of o)
  pub outside : inside ≡ false → o ≡ None

pub port_on : (es fs : List Entry) (inside : Bool) (o : Option Port) → IsPort es inside o →
    IsPort (es ++ fs) inside o
port_on es fs inside o is = record {
  mail = are_taken_on (notices (letters_at o)) es fs is.mail;
  unclosed = is.unclosed;
  outside = is.outside;
}

-- a notice comes
pub port_delivered : (es : List Entry) (inside : Bool) (letter : Letter) (o : Option Port) →
    Has letter.number letter.visit (taken (history letter.queue es)) → IsPort es inside o →
    IsPort es inside (option_map (delivered letter) o)
port_delivered es inside letter None new is = record {
  mail = tt;
  unclosed = is.unclosed;
  outside = λ out. refl;
}
port_delivered es inside letter (Some held) new is = record {
  mail = subst (λ ds. AreTaken ds es)
      (sym (map-append (λ (l : Letter). Received l.queue l.number l.visit) held.letters
      (letter ∷ [])))
      (are_taken_more (notices held.letters) (notices (letter ∷ [])) es is.mail (new, tt));
  unclosed = is.unclosed;
  outside = λ out. ap (option_map (delivered letter)) (is.outside out);
}

-- it sends
pub port_sent : (es : List Entry) (inside : Bool) (call : ℕ) (words : AskWords) (answer : Option ℕ)
    (o : Option Port) → IsPort es inside o →
    IsPort es inside (option_map (having_done (Sent call words answer)) o)
port_sent es inside call words answer None is =
    record { mail = tt; unclosed = is.unclosed; outside = λ out. refl }
port_sent es inside call words answer (Some held) is = record {
  mail = is.mail;
  unclosed = λ op. open_on held.dids (Sent call words answer) (λ wrong. wrong) (is.unclosed op);
  outside = λ out. ap (option_map (having_done (Sent call words answer))) (is.outside out);
}

-- it receives
pub port_received : (es : List Entry) (inside : Bool) (o : Option Port) → IsPort es inside o →
    IsPort es inside (option_map received o)
port_received es inside None is = record { mail = tt; unclosed = is.unclosed; outside = λ out. refl }
port_received es inside (Some held) is = record {
  mail = mail held.letters is.mail;
  unclosed = unclosed held.letters is.unclosed;
  outside = λ out. ap (option_map received) (is.outside out);
}
  where
    mail : (ls : List Letter) → AreTaken (notices ls) es →
        AreTaken (notices (received_from ls held).letters) es
    mail [] are = is.mail
    mail (l ∷ ls) are = are.1

    unclosed : (ls : List Letter) → (not held.is_closed ≡ true → IsOpen held.dids) →
        not (received_from ls held).is_closed ≡ true → IsOpen (received_from ls held).dids
    unclosed [] was op = was op
    unclosed (l ∷ ls) was op =
        open_on held.dids (Received l.queue l.number l.visit) (λ wrong. wrong) (was op)

-- it closes
pub port_closed : (es : List Entry) (inside : Bool) (o : Option Port) → IsPort es inside o →
    IsPort es inside (option_map closed o)
port_closed es inside None is = record { mail = tt; unclosed = is.unclosed; outside = λ out. refl }
port_closed es inside (Some held) is = record {
  mail = is.mail;
  unclosed = λ wrong. absurd (cc);
  outside = λ out. ap (option_map closed) (is.outside out);
}

-- ---- one port changes

pub changed_so : (Q : ℕ → Option Port → Type 0) (port : ℕ) (g : Port → Port)
    (ports : ℕ → Option Port) → ((p : ℕ) (o : Option Port) → Q p o → Q p (option_map g o)) →
    ((p : ℕ) → Q p (ports p)) → (p : ℕ) → Q p (changed_at port g ports p)
changed_so Q port g ports keeps is p = by (p == port)
  where
    by : (c : Bool) → Q p (if c then option_map g (ports p) else ports p)
    by true = keeps p (ports p) (is p)
    by false = is p

-- an arrival's notice changes one
pub notice_so : (Q : ℕ → Option Port → Type 0) (o : Option Bound) (a : Arrival)
    (left : List (Card × Way)) (ports : ℕ → Option Port) →
    ((b : Bound) → o ≡ Some b → left ≡ [] → (p : ℕ) (q : Option Port) → Q p q →
    Q p (option_map (delivered (letter_of a.queue b (next_id b) a.card)) q)) →
    ((p : ℕ) → Q p (ports p)) → (p : ℕ) → Q p (with_notice o a left ports p)
notice_so Q None a left ports keeps is p = is p
notice_so Q (Some b) a (l ∷ ls) ports keeps is p = is p
notice_so Q (Some b) a [] ports keeps is p =
    changed_so Q b.port (delivered (letter_of a.queue b (next_id b) a.card)) ports
    (keeps b refl refl) is p

-- what an open port did is logged
pub logs_then : (port : ℕ) (g : Port → Port) (did : Did) (ports : ℕ → Option Port) →
    is_open_port (ports port) ≡ true →
    ((held : Port) → ports port ≡ Some held → (g held).dids ≡ held.dids ++ did ∷ []) →
    (p : ℕ) → and_log port did (logs_of ports) p ≡ logs_of (changed_at port g ports) p
logs_then port g did ports op logs p = by (cases_Bool (p == port))
  where
    one : (o : Option Port) → is_open_port o ≡ true →
        ((held : Port) → o ≡ Some held → (g held).dids ≡ held.dids ++ did ∷ []) →
        dids_of o ++ did ∷ [] ≡ dids_of (option_map g o)
    one None wrong logs = absurd (cc)
    one (Some held) op logs = sym (logs held refl)

    own : (k : ℕ) → k ≡ port → dids_of (ports k) ++ did ∷ [] ≡ dids_of (option_map g (ports k))
    own k same = one (ports k) (ap (λ n. is_open_port (ports n)) same ∙ op)
        (λ held at. logs held (ap ports (sym same) ∙ at))

    by : ((p == port) ≡ true) ⊎ ((p == port) ≡ false) →
        and_log port did (logs_of ports) p ≡ logs_of (changed_at port g ports) p
    by (inl h) = rw h (own p (eqb-true p port h))
    by (inr h) = rw h refl
