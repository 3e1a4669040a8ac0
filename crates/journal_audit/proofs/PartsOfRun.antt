-- A run of a script has each part, and all parts make a run.
use Rattle.std.proofs.Common.{◌≡◌, ℕ, List, [], ◌∷◌, Some, None, Bool, true}
use Rattle.std.proofs.Common.{false}
use Rattle.std.proofs.Common.{cond, refl, sym, ap, ◌∙◌, subst, inl, inr, map, append-nil}
use Rattle.std.specs.Prelude.{filter, IfSome, IsSome, Option, ◌==◌, nat_eq, ◌||◌, slice_get}
use Rattle.std.specs.List.{AllByRecursion, list_any}
use Rattle.std.proofs.lemmas.Bool.{cases_Bool, eq-eqb}
use Rattle.packet_entry.specs.declared.letter.Letter.{Letter}
use Rattle.histories.specs.declared.log.PortLog.{PortLog}
use Rattle.histories.specs.declared.histories.Histories.{Histories}
use Rattle.histories.specs.Letters.{is_from}
use Rattle.inspector_script.specs.Scripts.{ScriptValue}
use Rattle.run_parts.specs.Log.{Note}
use Rattle.run_parts.specs.Notices.{heard}
use Rattle.run_parts.specs.Ports.{is_port, log_of}
use Rattle.run_parts.specs.Run.{IsMadeBy}
use Rattle.port_audit.specs.Makers.{IsAmong, IsTaken, none_left}
use Rattle.journal_audit.specs.declared.part.Part.{Part}
use Rattle.journal_audit.specs.declared.part.Part.TheVariants.{Logs, Requests, Notices, Closings}
use Rattle.journal_audit.specs.declared.part.Part.TheVariants.{Feeder, Ports, Order, Room}
use Rattle.journal_audit.specs.Parts.{every_part, Holds, IsMakersAnswer}

-- ---- notices

among_filter : (l : Letter) (ms : List Letter) → IsAmong l ms →
    IsAmong l (filter (is_from l.queue) ms)
among_filter l [] among = absurd among
among_filter l (m ∷ ms) (inl same) =
    subst (λ b. IsAmong l (cond b (m ∷ filter (is_from l.queue) ms)
    (filter (is_from l.queue) ms)))
    (sym (eq-eqb m.queue l.queue (ap (λ (x : Letter). x.queue) (sym same)))) (inl same)
among_filter l (m ∷ ms) (inr among) = elim (cases_Bool (is_from l.queue m)) [
  | inl own ↦ rw own (inr (among_filter l ms among))
  | inr other ↦ rw other (among_filter l ms among)
]

-- what holds of each that is among them holds of all
all_among : (P : Letter → Type 0) (ms : List Letter) → ((l : Letter) → IsAmong l ms → P l) →
    AllByRecursion P ms
all_among P [] each = tt
all_among P (m ∷ ms) each =
    (each m (inl refl), all_among P ms (λ l among. each l (inr among)))

module _ (script : ScriptValue) (frames : ℕ) (h : Histories) (notes : ℕ → List Note)
    (made : IsMadeBy 1 1 script frames h notes none_left) where
  taken : (port : ℕ) → is_port script port ≡ true →
      AllByRecursion (IsTaken h.entries) (heard (notes port))
  taken port is =
      all_among (IsTaken h.entries) (heard (notes port)) (λ l among. (
        port,
        subst (IsAmong l) (ap (filter (is_from l.queue)) (sym (append-nil (heard (notes port))))
            ∙ made.notices port is l.queue) (among_filter l (heard (notes port)) among),
      ))

  -- a port of the script is among those of the logs
  log_there : (ls : List PortLog) (port : ℕ) →
      list_any (nat_eq port) (map (λ (l : PortLog). l.port) ls) ≡ true → IsSome (log_of port ls)
  log_there [] port among = absurd (let wrong : false ≡ true = among in cc)
  log_there (l ∷ ls) port among = by (port == l.port) refl (log_there ls port)
    where
      by : (b : Bool) → (port == l.port) ≡ b →
          (list_any (nat_eq port) (map (λ (k : PortLog). k.port) ls) ≡ true →
          IsSome (log_of port ls)) → IsSome (cond b (Some l.dids) (log_of port ls))
      by true own rest = refl
      by false other rest = rest
          (sym (ap (λ c. c || list_any (nat_eq port) (map (λ (k : PortLog). k.port) ls)) other)
          ∙ among)

  pub each_part : (part : Part) → Holds script frames h notes part
  each_part Logs = record {
    there = λ port is. log_there h.logs port
        (ap (list_any (nat_eq port)) made.ports ∙ is);
    logs = made.log;
    taken = taken;
  }
  each_part Requests = made.requests
  each_part Notices = made.notices
  each_part Closings = made.closing
  each_part Feeder = made.feeder
  each_part Ports = made.ports
  each_part Order = made.order
  each_part Room = made.room

pub all_parts : (script : ScriptValue) (frames : ℕ) (h : Histories) (notes : ℕ → List Note) →
    ((part : Part) → Holds script frames h notes part) →
    IsMadeBy 1 1 script frames h notes none_left
all_parts script frames h notes each = record {
  log = (each Logs).logs;
  requests = each Requests;
  notices = each Notices;
  closing = each Closings;
  feeder = each Feeder;
  ports = each Ports;
  order = each Order;
  room = each Room;
}

-- what holds of each part holds of the one at a place, if there is one
each_place : (P : Part → Type 0) → ((part : Part) → P part) → (o : Option Part) → IfSome o P
each_place P each None = tt
each_place P each (Some part) = each part

pub never_both : (script : ScriptValue) (frames : ℕ) (h : Histories) (part : Part) →
    IsMakersAnswer script frames h None → IsMakersAnswer script frames h (Some part) → ⊥
never_both script frames h part (notes, made) wrong =
    let each = each_part script frames h notes made in
    wrong.fails notes
    record {
      place = wrong.before.place;
      is = wrong.before.is;
      hold = λ k less. each_place (Holds script frames h notes) each (slice_get every_part k);
    }
    (each part)
