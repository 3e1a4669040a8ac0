-- What holds of each entry that a closing or a device that goes down makes.
use Rattle.std.proofs.Common.{ℕ, List, [], ◌∷◌, Option, Some, None, Bool, true, false}
use Rattle.std.specs.Prelude.{flat_map, ◌==◌, if◌then◌else◌}
use Rattle.std.specs.List.{AllByRecursion}
use Rattle.queue_core.specs.State.{Bound}
use Rattle.queue_core.specs.declared.event.Event.TheVariants.{PortClosed, DeviceDown}
use Rattle.histories.specs.declared.entry.Entry.{Entry}
use Rattle.histories.specs.States.{entry_in, state_of, every_number}
use Rattle.histories.specs.Happenings.{closing_of, closings, down_of, downs}
use Rattle.histories.specs.Holding.{appended}

module _ (G : Entry → Type 0) where
  -- of lists that are put together
  all_hold : (g : ℕ → List Entry) → ((k : ℕ) → AllByRecursion G (g k)) → (ks : List ℕ) →
      AllByRecursion G (flat_map g ks)
  all_hold g each [] = tt
  all_hold g each (k ∷ ks) = appended G (g k) (flat_map g ks) (each k) (all_hold g each ks)

  pub closings_hold : (port : ℕ) →
      ((k : ℕ) (b : Bound) → G (entry_in k (Some b) (PortClosed port))) → (es : List Entry) →
      AllByRecursion G (closings port es)
  closings_hold port each es =
      all_hold (λ k. closing_of port k (state_of es k)) (λ k. one k (state_of es k)) every_number
    where
      one : (k : ℕ) (o : Option Bound) → AllByRecursion G (closing_of port k o)
      one k None = tt
      one k (Some b) = by (b.port == port)
        where
          by : (c : Bool) → AllByRecursion G
              (if c then entry_in k (Some b) (PortClosed port) ∷ [] else [])
          by true = (each k b, tt)
          by false = tt

  pub downs_hold : (device : ℕ) →
      ((k : ℕ) (b : Bound) → G (entry_in k (Some b) (DeviceDown device))) → (es : List Entry) →
      AllByRecursion G (downs device es)
  downs_hold device each es =
      all_hold (λ k. down_of device k (state_of es k)) (λ k. one k (state_of es k)) every_number
    where
      one : (k : ℕ) (o : Option Bound) → AllByRecursion G (down_of device k o)
      one k None = tt
      one k (Some b) = (each k b, tt)
