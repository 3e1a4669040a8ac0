-- Closings: no step but a port's own request binds a queue to it.
use Rattle.std.proofs.Common.{◌≡◌, ℕ, Option, Some, None, false, refl}
use Rattle.std.specs.Prelude.{◌==◌}
use Rattle.queue_core.specs.State.{Bound}
use Rattle.queue_core.specs.Step.{step}
use Rattle.queue_core.specs.Owners.{IsOwned, IsAsked, owned_after}
use Rattle.queue_core.specs.declared.event.Event.{Event}
use Rattle.queue_core.specs.declared.event.Event.TheVariants.{Arrive, Ask, PortClosed, DeviceDown}
use Rattle.run_parts.specs.Closing.{is_bound_to, is_by}

-- another port than this one
abbrev IsOther : ℕ → ℕ → Type 0
IsOther p port = (p == port) ≡ false

of_others : (p : ℕ) (q : Option Bound) → is_bound_to p q ≡ false → IsOwned (IsOther p) q
of_others p None free = tt
of_others p (Some b) free = free

free_of : (p : ℕ) (q : Option Bound) → IsOwned (IsOther p) q → is_bound_to p q ≡ false
free_of p None owned = refl
free_of p (Some b) owned = owned

by_others : (p : ℕ) (e : Event) → is_by p e ≡ false → IsAsked (IsOther p) e
by_others p (Arrive card bypass room) other = tt
by_others p (Ask port call request) other = other
by_others p (PortClosed port) other = tt
by_others p (DeviceDown device) other = tt

-- no step but a request of the port itself
pub step_frees : (p : ℕ) (q : Option Bound) (e : Event) → is_by p e ≡ false →
    is_bound_to p q ≡ false → is_bound_to p (step q e).state ≡ false
step_frees p q e other free =
    free_of p (step q e).state
    (owned_after (IsOther p) q e (by_others p e other) (of_others p q free))
