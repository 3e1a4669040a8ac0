-- When a condition of an `on` line holds of a notice.
use Rattle.std.specs.Prelude.{ℕ, ◌%◌, ◌==◌, nat_lt, bit_and, Bool, true}
use Rattle.nfqa_msgs.specs.declared.notice.Notice.{Notice}
use Rattle.ip_fields.specs.Packet.{fields_of}
use Rattle.hook_chain.specs.Route.{has_protocol}
use Rattle.script_lines.specs.declared.condition.Condition.{Condition}
use Rattle.script_lines.specs.declared.condition.Condition.TheVariants.{Any, Id, Queue, Mark}
use Rattle.script_lines.specs.declared.condition.Condition.TheVariants.{Protocol, Every}
use Rattle.script_lines.specs.declared.condition.Condition.TheVariants.{Longer, Priority}

-- The notice is the port's `received`-th: all that it received are counted, this one too. The mask
-- is laid on the notice's mark alone. The protocol is what the payload's IP header says; a payload
-- that begins with no IP header has none.
abbrev pub holds : ℕ → Notice → Condition → Bool
holds received n Any = true
holds received n (Id id) = n.id == id
holds received n (Queue queue) = n.queue == queue
holds received n (Mark value mask) = bit_and n.mark mask == value
holds received n (Protocol protocol) = has_protocol (fields_of n.payload) protocol
holds received n (Every period) = received % period == 0
holds received n (Longer than) = nat_lt than n.length
holds received n (Priority priority) = n.priority == priority
