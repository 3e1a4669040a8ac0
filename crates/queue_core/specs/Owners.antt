-- Whom a step leaves a queue bound to: the port that it was bound to, or the one that asks.
use Rattle.std.specs.Prelude.{ℕ, Option, Some, None}
use Rattle.queue_core.specs.declared.event.Event.{Event}
use Rattle.queue_core.specs.declared.event.Event.TheVariants.{Arrive, Ask, PortClosed, DeviceDown}
use Rattle.queue_core.specs.State.{Bound}
use Rattle.queue_core.specs.Step.{Stepped, step}
use Rattle.queue_core.specs.Walk.{Shapes, walk_by_shape}

-- something that is known of ports holds of the one that the queue is bound to, if it is
abbrev pub IsOwned : (ℕ → Type 0) → Option Bound → Type 0
IsOwned O None = Unit {0}
IsOwned O (Some b) = O b.port

-- and of the port that asks, if one does
abbrev pub IsAsked : (ℕ → Type 0) → Event → Type 0
IsAsked O (Arrive card bypass room) = Unit {0}
IsAsked O (Ask port call asked) = O port
IsAsked O (PortClosed port) = Unit {0}
IsAsked O (DeviceDown device) = Unit {0}

module _ (O : ℕ → Type 0) where
  abbrev P : Option Bound → Event → Stepped → Type 0
  P q e s = IsAsked O e → IsOwned O q → IsOwned O s.state

  shapes : Shapes P
  shapes = record {
    leaves = λ q card bypass room o stays timely by owned. owned;
    counts = λ b last dropped user_dropped card bypass room o stays timely by owned. owned;
    joins = λ b card bypass room early had by owned. owned;
    answered = λ q port call asked errno by owned. owned;
    ends = λ b port call queue a own by owned. tt;
    binds = λ port call queue a settings by owned. by;
    sets_up = λ b port call queue a settings own by owned. owned;
    decides = λ b port call queue head edit card own found by owned. owned;
    shares = λ b port call queue head mark priority w ws own is by owned. owned;
    none_closed = λ port by owned. tt;
    closes = λ b port by owned. tt;
    none_down = λ q device by owned. owned;
    flushes = λ b device by owned. owned;
  }

  pub owned_after : (q : Option Bound) (e : Event) → IsAsked O e → IsOwned O q →
      IsOwned O (step q e).state
  owned_after = walk_by_shape P shapes
