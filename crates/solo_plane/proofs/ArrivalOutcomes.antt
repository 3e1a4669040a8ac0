-- Arrivals: what leaves the queue at once, and the world then.
use Rattle.std.proofs.Common.{◌≡◌, ℕ, List, [], ◌∷◌, ◌++◌, Option, Some, None, Bool}
use Rattle.std.proofs.Common.{true, false, refl, sym, ap, ◌∙◌, rules}
use Rattle.std.specs.Prelude.{option_map, IsSome}
use Rattle.std.specs.Prelude.{Result, Ok, Err, OnOk, is_err}
use Rattle.packet_entry.specs.declared.packet.Card.{Card}
use Rattle.packet_entry.specs.declared.letter.Letter.{Letter}
use Rattle.hook_chain.specs.declared.chain.Next.{Next}
use Rattle.queue_core.specs.declared.event.Reply.TheVariants.{Arrived}
use Rattle.queue_core.specs.declared.offers.Outcome.{Outcome}
use Rattle.queue_core.specs.State.{Bound}
use Rattle.queue_core.specs.Step.{Stepped, Way, Gone, Open, Decided, arrive}
use Rattle.queue_core.specs.Step.{is_decided_early}
use Rattle.histories.specs.Journeys.{Arrival}
use Rattle.histories.specs.States.{state_of, entry_of}
use Rattle.histories.specs.Happenings as happening
use Rattle.place_history.specs.Calls.{IsTurnedAway, IsTaken, IsOffered}
use Rattle.packet_moves.specs.declared.fed.Fed.TheVariants.{Waiting}
use Rattle.packet_moves.specs.declared.came.Came.TheVariants.{Ended}
use Rattle.solo_plane.specs.declared.port.PortState.{PortState}
use Rattle.solo_plane.specs.declared.held.Ports.{Ports}
use Rattle.packet_moves.specs.declared.setting.Setting.{Setting}
use Rattle.packet_moves.specs.declared.came.Came.{Came}
use Rattle.packet_moves.specs.World.{World, Port, changed_at, delivered}
use Rattle.packet_moves.specs.Moving.{Carried, arrived, turned_away, room_for, has_room}
use Rattle.packet_moves.specs.Moving.{with_notice}
use Rattle.packet_moves.specs.Moving.{left_at_once, happened}
use Rattle.packet_moves.specs.Moving.{settled, goes_on, route_after, takes_one}
use Rattle.packet_moves.specs.OnTheWay.{IsTurned}
use Rattle.solo_plane.specs.PortView.{state_in, port_of, ports_of}
use Rattle.queue_core.specs.Laws.{way_by}
use Rattle.queue_core.specs.Walk.{HasRoom, walk_arrivals}
use Rattle.solo_plane.specs.OnTheWay.{CameAs, came_to}

-- what comes back of an arrival leaves by the way that its outcome says
pub record TellsWay (card : Card) (s : Stepped) : Type 0 where
  pub tells : (o : Outcome) (way : Way) → s.reply ≡ Arrived o → s.left ≡ (card, way) ∷ [] →
      way ≡ way_by o

abbrev way_in : Way → List (Card × Way) → Way
way_in way [] = way
way_in way (l ∷ ls) = l.1

leaves_by : (card : Card) (q : Option Bound) (p : Outcome) (v : Way) → v ≡ way_by p →
    TellsWay card (record { state = q; reply = Arrived p; left = (card, v) ∷ [] })
leaves_by card q p v is = record {
  tells = λ o way reply left.
      let same : p ≡ o = cc in
      let told : v ≡ way = ap (way_in v) left in
      sym told ∙ is ∙ ap way_by same;
}

pub tells_way : (q : Option Bound) (card : Card) (bypass room : Bool) →
    TellsWay card (arrive q card bypass room)
tells_way = walk_arrivals (λ card room s. TellsWay card s) (record {
  leaves = λ q card room o stays timely. leaves_by card q o (way_by o) refl;
  joins = λ b card room early had. record { tells = λ o way reply left. absurd (cc) };
})

-- ---- the world then

no_notice : (q : Option Bound) (a : Arrival) (l : Card × Way) (ls : List (Card × Way))
    (ports : ℕ → Option Port) → with_notice q a (l ∷ ls) ports ≡ ports
no_notice None a l ls ports = refl
no_notice (Some q) a l ls ports = refl

-- an arrival that is turned away
pub world_back : (s : Setting) (w : World) (a : Arrival) (room : Bool) (outcome : Outcome)
    (back : Card) → IsTurnedAway a room outcome back w.entries → room_for s w a ≡ room →
    record w {
      entries = w.entries ++ entry_of w.entries a.queue (happening.arrive a room) ∷ [];
    } ≡ arrived s w a
world_back s w a room outcome back t is =
    let q = state_of w.entries a.queue in
    let same : with_notice q a (left_at_once w a room) w.ports ≡ w.ports =
    ap (λ left. with_notice q a left w.ports) t.leaves
    ∙ no_notice q a (a.card, t.way) [] w.ports in
    ap (λ (ports : ℕ → Option Port). record w {
      entries = w.entries ++ entry_of w.entries a.queue (happening.arrive a room) ∷ [];
      ports = ports;
    }) (sym same)
    ∙ ap (happened w a) (sym is)

-- where it stands tells how it goes on
goes_on_so : (s : Setting) (card : Card) (way : Way) (came : Came) → IsTurned s card way came →
    (on : World → Card → Next → Carried) (w : World) →
    goes_on (on w card) w (route_after s (card, way)) ≡ came_to on w came
goes_on_so s card Gone came is on w = ap (came_to on w) (sym is)
goes_on_so s card Open came is on w = ap (came_to on w) (sym is)
goes_on_so s card (Decided decision) came is on w = absurd is

pub came_back : (s : Setting) (w v : World) (a : Arrival) (room : Bool) (outcome : Outcome)
    (back : Card) (came : Came) → IsTurnedAway a room outcome back w.entries →
    room_for s w a ≡ room → IsTurned s back (way_by outcome) came →
    CameAs s v (turned_away s w a) came
came_back s w v a room outcome back came t is turned on =
    let by : t.way ≡ way_by outcome =
    (tells_way (state_of w.entries a.queue) a.card a.bypass room).tells outcome t.way t.reply
    t.leaves in
    ap (settled on s v) (left_is is)
    ∙ ap (λ (l : Card × Way). goes_on (on v l.0) v (route_after s l)) (pair (sym t.same) by)
    ∙ goes_on_so s back (way_by outcome) came turned on v
  where
    left_is : room_for s w a ≡ room → turned_away s w a ≡ (a.card, t.way) ∷ []
    left_is is = ap (left_at_once w a) is ∙ t.leaves

    leaving : Card → Way → Card × Way
    leaving card way = (card, way)

    pair : {c d : Card} {x y : Way} → c ≡ d → x ≡ y → leaving c x ≡ leaving d y
    pair {c} {d} {x} {y} same way = ap (λ e. leaving e x) same ∙ ap (leaving d) way

-- an arrival that is taken
pub world_taken : (s : Setting) (w : World) (a : Arrival) (room : Bool) (id : ℕ) →
    IsTaken a room id w.entries → room_for s w a ≡ room →
    record w {
      entries = w.entries ++ entry_of w.entries a.queue (happening.arrive a room) ∷ [];
      ports = with_notice (state_of w.entries a.queue) a [] w.ports;
    } ≡ arrived s w a
world_taken s w a room id t is =
    let q = state_of w.entries a.queue in
    ap (λ (left : List (Card × Way)). record w {
      entries = w.entries ++ entry_of w.entries a.queue (happening.arrive a room) ∷ [];
      ports = with_notice q a left w.ports;
    }) (sym t.stays)
    ∙ ap (happened w a) (sym is)

pub came_as_waiting : (s : Setting) (w v : World) (a : Arrival) (room : Bool) (id : ℕ) →
    IsTaken a room id w.entries → room_for s w a ≡ room →
    CameAs s v (turned_away s w a) (Ended Waiting)
came_as_waiting s w v a room id t is on =
    let none : turned_away s w a ≡ [] = ap (left_at_once w a) is ∙ t.stays in
    ap (settled on s v) none

-- ---- room

pub room_early : (s : Setting) (w : World) (q : Option Bound) (card : Card) →
    is_decided_early q card ≡ true → has_room s w q card ≡ true
room_early s w None card early = refl
room_early s w (Some q) card early = rw early refl

pub room_offered : (s : Setting) (w : World) (q : Option Bound) (bound : Bound) (card : Card) →
    q ≡ Some bound → is_decided_early (Some bound) card ≡ false →
    has_room s w q card ≡ takes_one s.mail (w.ports bound.port)
room_offered s w q bound card is undecided = rw (is, undecided) refl

-- a notice that was offered is put into its mailbox
pub world_posted : (s : Setting) (w : World) (a : Arrival)
    (port : ℕ) (letter : Letter) (room : Bool)
    (id : ℕ) → (o : IsOffered a port letter w.entries) → IsTaken a room id w.entries →
    room_for s w a ≡ room →
    record w {
      entries = w.entries ++ entry_of w.entries a.queue (happening.arrive a room) ∷ [];
      ports = changed_at port (delivered letter) w.ports;
    } ≡ arrived s w a
world_posted s w a port letter room id o t is =
    ap (λ (ports : ℕ → Option Port). record w {
      entries = w.entries ++ entry_of w.entries a.queue (happening.arrive a room) ∷ [];
      ports = ports;
    }) noticed
    ∙ world_taken s w a room id t is
  where
    noticed : changed_at port (delivered letter) w.ports
        ≡ with_notice (state_of w.entries a.queue) a [] w.ports
    noticed = rw (o.state, o.to_port, o.notice) refl

-- the room that the code found is the arrival's
pub room_is : (s : Setting) (w : World) (a : Arrival) (port : ℕ) (letter : Letter) (room : Bool)
    (ports : ℕ → Option Port) → (o : IsOffered a port letter w.entries) → ports ≡ w.ports →
    room ≡ takes_one s.mail (ports port) → room_for s w a ≡ room
room_is s w a port letter room ports o same is =
    room_offered s w (state_of w.entries a.queue) o.bound a.card o.state o.undecided
    ∙ ap (λ p. takes_one s.mail (w.ports p)) (sym o.to_port)
    ∙ ap (λ (q : ℕ → Option Port). takes_one s.mail (q port)) (sym same)
    ∙ sym is

-- a result that is no error
pub on_ok : {T E : Type 0} (r : Result T E) (P : Type 0) → OnOk r P → is_err r ≡ false → P
on_ok (Ok x) P h is = h
on_ok (Err e) P h is = absurd (cc)

-- what a queue takes had room
had_room : (room : Bool) → HasRoom room → room ≡ true
had_room true had = refl
had_room false had = absurd (cc)

pub taken_had_room : (q : Option Bound) (card : Card) (bypass room : Bool) →
    (arrive q card bypass room).left ≡ [] → room ≡ true
taken_had_room = walk_arrivals (λ card room s. s.left ≡ [] → room ≡ true) (record {
  leaves = λ q card room o stays timely none. absurd (cc);
  joins = λ b card room early had none. had_room room had;
})

-- a port whose mailbox takes one more is there
pub port_is_there : (mail port : ℕ) (room : Bool) (ports : ℕ → Option Port)
    (held : Ports) → ports ≡ ports_of held → room ≡ takes_one mail (ports port) →
    room ≡ true → IsSome (state_in held port)
port_is_there mail port room ports held same is had =
    there (state_in held port)
    (sym (ap (λ (p : ℕ → Option Port). takes_one mail (p port)) same) ∙ sym is ∙ had)
  where
    there : (o : Option PortState) → takes_one mail (option_map port_of o) ≡ true → IsSome o
    there None is = absurd (cc)
    there (Some p) is = search rules
