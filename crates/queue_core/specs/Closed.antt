-- No request lets a packet through: what leaves by one is destroyed, or a verdict decided.
use Rattle.std.specs.Prelude.{ℕ, List, [], ◌∷◌, map, Option}
use Rattle.std.specs.List.{AllByRecursion}
use Rattle.packet_entry.specs.declared.packet.Card.{Card}
use Rattle.hook_chain.specs.declared.chain.Decision.{Decision}
use Rattle.hook_chain.specs.declared.chain.Decision.TheVariants as decision
use Rattle.nfqa_headers.specs.declared.verdict_header.Head.{Head}
use Rattle.nfqa_msgs.specs.declared.request.Request.{Request}
use Rattle.queue_core.specs.declared.event.Event.{Event}
use Rattle.queue_core.specs.declared.event.Event.TheVariants.{Arrive, Ask, PortClosed, DeviceDown}
use Rattle.queue_core.specs.Decision.{Edit, decision_of}
use Rattle.queue_core.specs.State.{Bound}
use Rattle.queue_core.specs.Step.{Stepped, Way, Gone, Open, Decided, way_of, leaving, batch_edit}
use Rattle.queue_core.specs.Step.{step}
use Rattle.queue_core.specs.Walk.{Shapes, walk_by_shape}

-- a packet that leaves this way wasn't let through by its queue
abbrev pub IsShut : Way → Type 0
IsShut Gone = Unit {0}
IsShut Open = ⊥
IsShut (Decided decision) = Unit {0}

abbrev pub AllShut : List (Card × Way) → Type 0
AllShut ls = AllByRecursion (λ (l : Card × Way). IsShut l.1) ls

gone_shut : (ws : List (ℕ × Card)) → AllShut (map (λ (w : ℕ × Card). (w.1, Gone)) ws)
gone_shut [] = tt
gone_shut (w ∷ ws) = (tt, gone_shut ws)

way_shut : (d : Decision) → IsShut (way_of d)
way_shut decision.Drop = tt
way_shut decision.Accept = tt
way_shut decision.Repeat = tt
way_shut decision.Stop = tt
way_shut (decision.Queue number bypass) = tt

leaving_shut : (head : Head) (edit : Edit) (ws : List (ℕ × Card)) →
    AllShut (map (λ (v : ℕ × Card). leaving head edit v.1) ws)
leaving_shut head edit [] = tt
leaving_shut head edit (w ∷ ws) =
    (way_shut (decision_of head.verdict), leaving_shut head edit ws)

abbrev AsksShut : Option Bound → Event → Stepped → Type 0
AsksShut q (Arrive card bypass room) s = Unit {0}
AsksShut q (Ask port call asked) s = AllShut s.left
AsksShut q (PortClosed port) s = Unit {0}
AsksShut q (DeviceDown device) s = Unit {0}

shapes : Shapes AsksShut
shapes = record {
  leaves = λ q card bypass room o stays timely. tt;
  counts = λ b last dropped user_dropped card bypass room o stays timely. tt;
  joins = λ b card bypass room early had. tt;
  answered = λ q port call asked errno. tt;
  ends = λ b port call queue a own. gone_shut b.waiting;
  binds = λ port call queue a settings. tt;
  sets_up = λ b port call queue a settings own. tt;
  decides = λ b port call queue head edit card own found.
      (way_shut (decision_of head.verdict), tt);
  shares = λ b port call queue head mark priority w ws own is.
      leaving_shut head (batch_edit mark priority) (w ∷ ws);
  none_closed = λ port. tt;
  closes = λ b port. tt;
  none_down = λ q device. tt;
  flushes = λ b device. tt;
}

pub asks_shut : (q : Option Bound) (port call : ℕ) (asked : Request) →
    AllShut (step q (Ask port call asked)).left
asks_shut q port call asked = walk_by_shape AsksShut shapes q (Ask port call asked)
