-- What each step of a plane leaves as it is: the packets that were fed, and, but for the port that
-- does something, how far each port is.
use Rattle.std.proofs.Common.{◌≡◌, ◌∙◌, ℕ, zero, suc, List, [], ◌∷◌, ◌++◌, Option, Some}
use Rattle.std.proofs.Common.{None, Bool, true, false, refl, arith, cond, min}
use Rattle.std.specs.Prelude.{count_by, ◌==◌, if◌then◌else◌, option_map}
use Rattle.std.proofs.lemmas.List.Sums.{sum_by-append}
use Rattle.packet_entry.specs.declared.packet.Card.{Card}
use Rattle.packet_entry.specs.declared.letter.Letter.{Letter}
use Rattle.netlink_codec.specs.Messages.{NetlinkMessage}
use Rattle.hook_chain.specs.declared.chain.Decision.{Decision}
use Rattle.hook_chain.specs.declared.chain.Next.{Next}
use Rattle.hook_chain.specs.declared.chain.Next.TheVariants.{Released, To}
use Rattle.hook_chain.specs.Route.{onward_of}
use Rattle.nfqa_msgs.specs.declared.request.Decoded.{Decoded}
use Rattle.nfqa_msgs.specs.declared.request.Decoded.TheVariants.{Nothing, Refused, Asked}
use Rattle.nfqa_msgs.specs.RequestReading.{decoded}
use Rattle.queue_core.specs.State.{Bound}
use Rattle.queue_core.specs.Step.{Way, next_id}
use Rattle.queue_core.specs.WithOffer.{letter_of}
use Rattle.queue_core.specs.Numbers.{largest_count}
use Rattle.histories.specs.declared.log.Did.{Did}
use Rattle.histories.specs.declared.log.Did.TheVariants.{Sent}
use Rattle.histories.specs.declared.log.AskWords.{AskWords}
use Rattle.histories.specs.Journeys.{Arrival}
use Rattle.histories.specs.States.{state_of}
use Rattle.histories.specs.Happenings.{all_handed}
use Rattle.histories.specs.Logs.{is_received}
use Rattle.packet_moves.specs.declared.setting.Setting.{Setting}
use Rattle.packet_moves.specs.World.{World, Port, delivered, having_done}
use Rattle.packet_moves.specs.Moving.{Carried, carry, carry_on, settled, goes_on, route_after}
use Rattle.packet_moves.specs.Moving.{arrival_to, arrived, turned_away, left_at_once, room_for}
use Rattle.packet_moves.specs.Moving.{with_notice}
use Rattle.packet_moves.specs.Messages.{asking, with_ask, call_at}
use Rattle.solo_schedule.specs.Numbers.{enough_arrivals}
use Rattle.solo_schedule.specs.Sending.{all_moved, carried_out, sent}
use Rattle.solo_run.specs.RunState.{mind_of}
use Rattle.solo_run.specs.declared.inspector.Inspector.{Inspector}

-- each port is as far as it was
abbrev pub SameMinds : (old new : ℕ → Option Port) → Type 0
SameMinds old new = (place p : ℕ) → mind_of place (new p) ≡ mind_of place (old p)

pub record Leaves (old new : World) : Type 0 where
  pub fed : new.fed ≡ old.fed
  pub minds : SameMinds old.ports new.ports

pub leaves_it : (w : World) → Leaves w w
leaves_it w = record { fed = refl; minds = λ place p. refl }

pub leaves_both : (u v w : World) → Leaves u v → Leaves v w → Leaves u w
leaves_both u v w first later = record {
  fed = later.fed ∙ first.fed;
  minds = λ place p. later.minds place p ∙ first.minds place p;
}

-- ---- one port

pub at_either : (place : ℕ) (m : Inspector) (b : Bool) (x y : Option Port) → mind_of place x ≡ m →
    mind_of place y ≡ m → mind_of place (if b then x else y) ≡ m
at_either place m true x y one other = one
at_either place m false x y one other = other

delivered_mind : (place : ℕ) (letter : Letter) (o : Option Port) →
    mind_of place (option_map (delivered letter) o) ≡ mind_of place o
delivered_mind place letter None = refl
delivered_mind place letter (Some p) = refl

notice_minds : (q : Option Bound) (a : Arrival) (left : List (Card × Way))
    (ports : ℕ → Option Port) → SameMinds ports (with_notice q a left ports)
notice_minds None a left ports place p = refl
notice_minds (Some q) a (l ∷ ls) ports place p = refl
notice_minds (Some q) a [] ports place p =
    at_either place (mind_of place (ports p)) (p == q.port) _ (ports p)
    (delivered_mind place (letter_of a.queue q (next_id q) a.card) (ports p)) refl

arrived_leaves : (s : Setting) (w : World) (a : Arrival) → Leaves w (arrived s w a)
arrived_leaves s w a = record {
  fed = refl;
  minds = notice_minds (state_of w.entries a.queue) a (left_at_once w a (room_for s w a)) w.ports;
}

-- ---- packets that move on

abbrev LeavesAll : (World → Card → Next → Carried) → Type 0
LeavesAll on = (w : World) (card : Card) (route : Next) → Leaves w (on w card route).world

on_leaves : (on : World → Card → Next → Carried) → LeavesAll on → (w : World) (card : Card)
    (route : Option Next) → Leaves w (goes_on (on w card) w route).world
on_leaves on leaves w card None = leaves_it w
on_leaves on leaves w card (Some route) = leaves w card route

settled_leaves : (on : World → Card → Next → Carried) → LeavesAll on → (s : Setting) (w : World)
    (left : List (Card × Way)) → Leaves w (settled on s w left).world
settled_leaves on leaves s w [] = leaves_it w
settled_leaves on leaves s w (l ∷ ls) = on_leaves on leaves w l.0 (route_after s l)

pub carry_leaves : (memory : ℕ) (s : Setting) → LeavesAll (carry memory s)
carry_leaves zero s w card Released = leaves_it w
carry_leaves zero s w card (To queue bypass table) =
    record { fed = refl; minds = λ place p. refl }
carry_leaves (suc memory) s w card Released = leaves_it w
carry_leaves (suc memory) s w card (To queue bypass table) =
    let a = arrival_to queue bypass table card in
    leaves_both w (arrived s w a) _ (arrived_leaves s w a)
    (settled_leaves (carry memory s) (carry_leaves memory s) s (arrived s w a) (turned_away s w a))

all_leave : (s : Setting) (hs : List (Card × Decision)) (w : World) → Leaves w (all_moved s hs w)
all_leave s [] w = leaves_it w
all_leave s (h ∷ hs) w =
    let route = onward_of s.tables s.key h.0 h.1 in
    leaves_both w (carry_on enough_arrivals s w h.0 route).world _
    (on_leaves (carry enough_arrivals s) (carry_leaves enough_arrivals s) w h.0 route)
    (all_leave s hs (carry_on enough_arrivals s w h.0 route).world)

-- ---- messages

out_leaves : (s : Setting) (port call : ℕ) (d : Decoded) (w : World) →
    Leaves w (carried_out s port call d w)
out_leaves s port call Nothing w = leaves_it w
out_leaves s port call (Refused errno) w = leaves_it w
out_leaves s port call (Asked request) w =
    leaves_both w (with_ask w port call request) _
    (record { fed = refl; minds = λ place p. refl })
    (all_leave s (all_handed (asking w port call request).left) (with_ask w port call request))

-- a message that a port sends leaves what its inspector knows
received_so : (c : ℕ) (dids : List Did) (words : AskWords) (answer : Option ℕ) →
    min (count_by is_received (dids ++ Sent c words answer ∷ [])) largest_count
    ≡ min (count_by is_received dids) largest_count
received_so c dids words answer =
    let more = sum_by-append (λ (d : Did). cond (is_received d) 1 0)
    dids (Sent c words answer ∷ []) in
    omega (arith, more)

sent_mind : (place c : ℕ) (words : AskWords) (answer : Option ℕ) (o : Option Port) →
    mind_of place (option_map (having_done (Sent c words answer)) o) ≡ mind_of place o
sent_mind place c words answer None = refl
sent_mind place c words answer (Some p) = rw (received_so c p.dids words answer) refl

pub sent_leaves : (s : Setting) (port : ℕ) (m : NetlinkMessage) (w : World) →
    Leaves w (sent s port m w)
sent_leaves s port m w =
    let out = out_leaves s port (call_at (w.ports port)) (decoded m) w in
    record {
      fed = out.fed;
      minds = λ place p.
          at_either place (mind_of place (w.ports p)) (p == port) _ _
          (sent_mind place _ _ _ _ ∙ out.minds place p) (out.minds place p);
    }
