-- The lines of the tables of requests, as the code tells them apart.
use Rattle.std.specs.Prelude.{◌≡◌, ℕ, Option, Some, None, false}
use Rattle.nfqa_headers.specs.declared.verdict_header.Head.{Head}
use Rattle.queue_core.specs.Decision.{IsVerdict}
use Rattle.queue_core.specs.State.{Bound, bound_to}
use Rattle.queue_core.specs.Step.{ConfigAsk, config, unchanged, ended, set_up, are_flags_refused}
use Rattle.queue_core.specs.Step.{refusal, Refused}
use Rattle.queue_core.specs.declared.lines.ConfigLine.{ConfigLine}
use Rattle.queue_core.specs.declared.lines.ConfigLine.TheVariants as line

-- what a config request does, by its line
abbrev pub IsConfigLine : ConfigLine → Option Bound → ℕ → ConfigAsk → Type 0
IsConfigLine (line.Answered errno) q port ask = config q port ask ≡ unchanged q errno
IsConfigLine line.Ends q port ask =
    (bound : Bound) × (q ≡ Some bound) × (config q port ask ≡ ended bound)
IsConfigLine line.Binds q port ask =
    (q ≡ None) × (config q port ask ≡ set_up (bound_to port) ask)
    × (are_flags_refused ask.flags ask.mask ≡ false)
IsConfigLine line.SetsUp q port ask =
    (bound : Bound) × (q ≡ Some bound) × (config q port ask ≡ set_up bound ask)
    × (are_flags_refused ask.flags ask.mask ≡ false)

-- a verdict or a batch is allowed at this queue, with this header
abbrev pub IsAllowed : Option Bound → ℕ → Option Head → Head → Type 0
IsAllowed q port head allowed =
    (bound : Bound) × (q ≡ Some bound) × (bound.port ≡ port) × (head ≡ Some allowed)
    × IsVerdict allowed.verdict

-- or is refused
abbrev pub IsRefused : Option Bound → ℕ → Option Head → ℕ → Type 0
IsRefused q port head errno = refusal q port head ≡ Refused errno
