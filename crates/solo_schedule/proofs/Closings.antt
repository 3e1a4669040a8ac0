-- Closings: what is known of them, and which entries are no matter of a port.
use Rattle.std.proofs.Common.{◌≡◌, ◌<◌, ℕ, List, [], ◌∷◌, ◌++◌, Option, Some, None}
use Rattle.std.proofs.Common.{Bool, true, false, refl}
use Rattle.std.specs.Prelude.{flat_map, ◌==◌, if◌then◌else◌}
use Rattle.queue_core.specs.State.{Bound}
use Rattle.queue_core.specs.declared.event.Event.TheVariants.{PortClosed}
use Rattle.histories.specs.declared.entry.Entry.{Entry}
use Rattle.histories.specs.Numbers.{queue_count}
use Rattle.histories.specs.History.{history}
use Rattle.histories.specs.States.{entry_in}
use Rattle.histories.specs.Happenings as happening
use Rattle.histories.specs.QueueHistories.{replay_on}
use Rattle.run_parts.specs.Closing.{is_closing_of, IsClosing}
use Rattle.run_parts.specs.Underway.{AreOthers}

-- what stays of closings in histories
pub record Laws : Type 0 where
  pub others : (port queue : ℕ) (closed : Bool) (es fs : List Entry) → AreOthers port fs →
      IsClosing port closed (history queue es) → IsClosing port closed (history queue (es ++ fs))
  pub own : (port queue : ℕ) (es : List Entry) (e : Entry) → is_closing_of port e ≡ false →
      IsClosing port false (history queue es) → IsClosing port false (history queue (es ++ e ∷ []))
  pub closed : (port queue : ℕ) (es : List Entry) → queue < queue_count →
      IsClosing port false (history queue es) →
      IsClosing port true (history queue (es ++ happening.closings port es))

-- ---- entries that aren't a port's

others_append : (p : ℕ) (es fs : List Entry) → AreOthers p es → AreOthers p fs →
    AreOthers p (es ++ fs)
others_append p [] fs one two = two
others_append p (e ∷ es) fs one two = (one.0, one.1, others_append p es fs one.2 two)

pub others_all : (p : ℕ) (g : ℕ → List Entry) → ((k : ℕ) → AreOthers p (g k)) → (ks : List ℕ) →
    AreOthers p (flat_map g ks)
others_all p g each [] = tt
others_all p g each (k ∷ ks) =
    others_append p (g k) (flat_map g ks) (each k) (others_all p g each ks)

-- a closing and a device that goes down are none of another port's
pub closing_others : (p port k : ℕ) (o : Option Bound) → (p == port) ≡ false →
    AreOthers p (happening.closing_of port k o)
closing_others p port k None other = tt
closing_others p port k (Some b) other = by (b.port == port)
  where
    by : (c : Bool) → AreOthers p (if c then entry_in k (Some b) (PortClosed port) ∷ [] else [])
    by true = (other, other, tt)
    by false = tt

pub down_others : (p device k : ℕ) (o : Option Bound) → AreOthers p (happening.down_of device k o)
down_others p device k None = tt
down_others p device k (Some b) = (refl, refl, tt)
