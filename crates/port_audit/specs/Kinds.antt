-- Kinds of messages, in rows by port and queue.
use Rattle.std.specs.Prelude.{◌≡◌, ℕ, List, [], ◌∷◌, map, flat_map, ◌==◌, if◌then◌else◌}
use Rattle.inspector_script.specs.Scripts.{ScriptValue}
use Rattle.run_parts.specs.Log.{Note}
use Rattle.run_parts.specs.Order.{Kind, Opens, Answers, Ends, kinds_told}
use Rattle.port_audit.specs.declared.dealing.MessageKind.{MessageKind}
use Rattle.port_audit.specs.declared.dealing.MessageKind.TheVariants as message
use Rattle.port_audit.specs.declared.kinds.KindAt.{KindAt}
use Rattle.port_audit.specs.Dealing.{RowMap, AreKept, row_at, side}

-- a kind of message
abbrev pub kind_of : MessageKind → Kind
kind_of message.Opens = Opens
kind_of message.Answers = Answers
kind_of message.Ends = Ends

abbrev pub kinds_of_row : List MessageKind → List Kind
kinds_of_row row = map kind_of row

abbrev pub kinds_at : RowMap MessageKind → ℕ → ℕ → List Kind
kinds_at rows port queue = kinds_of_row (row_at rows (side port queue))

-- The rows have the kinds of each port's messages that ask something of a queue, in their order,
-- and no row is empty.
pub record AreKinds (script : ScriptValue) (notes : ℕ → List Note) (rows : RowMap MessageKind)
    : Type 0 where
  pub are : (port queue : ℕ) →
      kinds_at rows port queue ≡ kinds_told 1 script queue port (notes port)
  pub kept : AreKept rows

-- ---- kinds that are dealt

-- the kind of a request, where it asks something of this queue
abbrev pub kinds_by : ℕ → KindAt → List MessageKind
kinds_by queue r = if r.queue == queue then r.kind ∷ [] else []

abbrev pub kinds_in : ℕ → List KindAt → List MessageKind
kinds_in queue rs = flat_map (kinds_by queue) rs
