-- Config requests that aren't refused.
use Rattle.std.proofs.Common.{◌≡◌, refl, ℕ, Option, None, Some, false}
use Rattle.std.proofs.lemmas.Bool.{eq-eqb, or_parts}
use Rattle.std.specs.Prelude.{◌||◌, ◌&&◌, is_some, is_none}
use Rattle.nfqa_headers.specs.declared.params.Params.{Params}
use Rattle.queue_core.specs.State.{Bound}
use Rattle.queue_core.specs.Step.{ConfigAsk, are_flags_refused, config, has_refused_flags}
use Rattle.queue_core.specs.Step.{has_unknown_flags, set_up}

-- a request without a command whose flags aren't refused sets up the queue of its port
pub allowed_sets_up : (b : Bound) (params : Option Params) (maximum flags mask : Option ℕ) →
    are_flags_refused flags mask ≡ false →
    let ask : ConfigAsk = record {
      command = None;
      params = params;
      maximum = maximum;
      flags = flags;
      mask = mask;
    } in config (Some b) b.port ask ≡ set_up b ask
allowed_sets_up b params maximum flags mask allowed =
    let known = or_parts (is_some flags && is_none mask || has_unknown_flags flags)
    (has_refused_flags flags mask) allowed in
    let told = or_parts (is_some flags && is_none mask) (has_unknown_flags flags) known.0 in
    rw told.0 (rw told.1 (rw known.1 (rw (eq-eqb b.port b.port refl) refl)))
