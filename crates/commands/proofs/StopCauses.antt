-- What stopped a command whose inputs are taken: memory that ran out, or a fault.
use Rattle.std.proofs.Common.{◌≡◌, ◌⊎◌, ℕ, refl, inl, inr}
use Rattle.run_files.specs.declared.stop.Stop.{Stop}
use Rattle.run_files.specs.declared.stop.Stop.TheVariants as stop
use Rattle.run_files.specs.Statuses.{IfStopRefuses, status_of}

pub no_memory_or_a_fault : (s : Stop) (status : ℕ) (Read Write : Type 0) → status ≡ status_of s →
    IfStopRefuses s (λ w. ⊥) → (s ≡ stop.ReadFault → Read) → (s ≡ stop.WriteFault → Write) →
    (status ≡ 0) ⊎ (status ≡ 8) ⊎ Read ⊎ Write
no_memory_or_a_fault stop.ReadFault status Read Write is refused read write =
    inr (inr (inl (read refl)))
no_memory_or_a_fault stop.WriteFault status Read Write is refused read write =
    inr (inr (inr (write refl)))
no_memory_or_a_fault (stop.Refused w) status Read Write is refused read write = absurd refused
no_memory_or_a_fault stop.NoMemory status Read Write is refused read write = inr (inl is)
