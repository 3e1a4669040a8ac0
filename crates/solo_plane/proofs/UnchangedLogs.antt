-- Logs that stay as they are.
use Rattle.std.proofs.Common.{◌≡◌, ◌≤◌, ℕ, List, [], ◌∷◌, Option, Some, None, Bool, true, false}
use Rattle.std.proofs.Common.{refl, sym, ap, subst, ◌∙◌}
use Rattle.std.specs.Prelude.{◌==◌, if◌then◌else◌}
use Rattle.std.specs.Prelude.{option_map, IsSomeAnd}
use Rattle.solo_plane.specs.declared.port.PortState.{PortState}
use Rattle.solo_plane.specs.declared.held.Ports.{Ports}
use Rattle.packet_entry.specs.declared.letter.Letter.{Letter}
use Rattle.packet_moves.specs.World.{Port, changed_at, received, received_from}
use Rattle.solo_plane.specs.PortView.{state_in, Log, log_in, port_of, ports_of, logs_of, OnPort}
use Rattle.packet_moves.specs.Messages.{call_at}
use Rattle.packet_moves.specs.Calls.{next_call}

-- the room for what a port did
pub room_stays : (old new : Ports) (port : ℕ) → logs_of new ≡ logs_of old →
    OnPort old port (λ p. 2 ≤ p.dids.room) → OnPort new port (λ p. 2 ≤ p.dids.room)
room_stays old new port same has =
    of_one (state_in old port) (state_in new port)
    (ap (λ (f : ℕ → Option Log). f port) same) has
  where
    of_one : (o n : Option PortState) → option_map log_in n ≡ option_map log_in o →
        IsSomeAnd o (λ p. 2 ≤ p.dids.room) → IsSomeAnd n (λ p. 2 ≤ p.dids.room)
    of_one None n is has = absurd has
    of_one (Some p) None is has = absurd (cc)
    of_one (Some p) (Some q) is has =
        let log : log_in q ≡ log_in p = cc in
        subst (λ (l : Log). 2 ≤ l.dids.room) (sym log) has

-- the number of a port's next message
pub call_stays : (old new : Ports) (port : ℕ) → logs_of new ≡ logs_of old →
    call_at (ports_of new port) ≡ call_at (ports_of old port)
call_stays old new port same =
    of_one (state_in old port) (state_in new port)
    (ap (λ (f : ℕ → Option Log). f port) same)
  where
    of_one : (o n : Option PortState) → option_map log_in n ≡ option_map log_in o →
        call_at (option_map port_of n) ≡ call_at (option_map port_of o)
    of_one None None is = refl
    of_one None (Some q) is = absurd (cc)
    of_one (Some p) None is = absurd (cc)
    of_one (Some p) (Some q) is =
        let log : log_in q ≡ log_in p = cc in
        ap (λ (l : Log). next_call l.dids.items) log

abbrev pub some : Bool → Option Bool
some b = Some b

-- which ports are open
abbrev pub is_shut : Port → Bool
is_shut p = p.is_closed

pub open_stays : (old new : Ports) → logs_of new ≡ logs_of old →
    (p : ℕ) → option_map is_shut (ports_of new p) ≡ option_map is_shut (ports_of old p)
open_stays old new same p =
    of_one (state_in old p) (state_in new p) (ap (λ (f : ℕ → Option Log). f p) same)
  where
    of_one : (o n : Option PortState) → option_map log_in n ≡ option_map log_in o →
        option_map is_shut (option_map port_of n) ≡ option_map is_shut (option_map port_of o)
    of_one None None is = refl
    of_one None (Some q) is = absurd (cc)
    of_one (Some p) None is = absurd (cc)
    of_one (Some p) (Some q) is =
        let log : log_in q ≡ log_in p = cc in
        ap (λ (l : Log). some (l.is_closed)) log

-- the same ports are open where the ports are the same
pub open_same : (old new : ℕ → Option Port) → new ≡ old → (p : ℕ) →
    option_map is_shut (new p) ≡ option_map is_shut (old p)
open_same old new same p = ap (λ (f : ℕ → Option Port). option_map is_shut (f p)) same

-- and where one does or receives something
pub open_changed : (f : Port → Port) → ((x : Port) → is_shut (f x) ≡ is_shut x) →
    (port : ℕ) (old new : ℕ → Option Port) → new ≡ changed_at port f old → (p : ℕ) →
    option_map is_shut (new p) ≡ option_map is_shut (old p)
open_changed f keeps port old new is p =
    open_same (changed_at port f old) new is p ∙ by_port (p == port) (old p)
  where
    by_port : (own : Bool) (o : Option Port) →
        option_map is_shut (if own then option_map f o else o) ≡ option_map is_shut o
    by_port true None = refl
    by_port true (Some x) = ap some (keeps x)
    by_port false o = refl

pub received_keeps : (x : Port) → is_shut (received x) ≡ is_shut x
received_keeps x = of_letters x.letters
  where
    of_letters : (l : List Letter) → is_shut (received_from l x) ≡ is_shut x
    of_letters [] = refl
    of_letters (a ∷ l) = refl
