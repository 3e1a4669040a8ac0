-- Scripts of one port, written out, for what its log may be and may not; and where a port behind a
-- pool stands after two notices.
use Rattle.std.specs.Prelude.{ℕ, false, List, [], ◌∷◌}
use Rattle.netlink_codec.specs.Messages.{NetlinkMessage}
use Rattle.histories.specs.declared.log.AskWords.TheVariants.{Raw}
use Rattle.histories.specs.declared.histories.Histories.{Histories}
use Rattle.script_lines.specs.declared.condition.Condition.TheVariants.{Any, Every}
use Rattle.script_lines.specs.declared.template.Template.TheVariants as template
use Rattle.inspector_script.specs.Scripts.{ScriptValue, held}
use Rattle.packet_entry.specs.declared.letter.Letter.{Letter}
use Rattle.run_parts.specs.Log.{Standing, Got, Turned, after}

-- a netlink message without a body, of this kind, which asks nothing of a queue: its length, its
-- kind, and no flags, number or port
abbrev pub header : ℕ → List ℕ
header kind =
    16 ∷ 0 ∷ 0 ∷ 0 ∷ kind ∷ 0 ∷ 0 ∷ 0 ∷ 0 ∷ 0 ∷ 0 ∷ 0 ∷ 0 ∷ 0 ∷ 0 ∷ 0 ∷ []

abbrev pub message : ℕ → NetlinkMessage
message kind = record {
  kind = kind;
  flags = 0;
  sequence = 0;
  port = 0;
  body = [];
  whole = header kind;
}

-- port 7 opens with message 1, answers no notice, and stays open
abbrev pub opening_script : ScriptValue
opening_script =
    held 1 0 0 [] (7 ∷ [])
    (record { opening = Raw (header 1) ∷ []; lines = []; closing = []; closes = false } ∷ [])

-- port 7 opens without a message, answers no notice, sends messages 1 and 2 at its end, and stays
-- open
abbrev pub ending_script : ScriptValue
ending_script =
    held 1 0 0 [] (7 ∷ [])
    (record {
      opening = [];
      lines = [];
      closing = Raw (header 1) ∷ Raw (header 2) ∷ [];
      closes = false;
    } ∷ [])

-- port 7 sends message 1 in answer to every second notice
abbrev pub every_second : ScriptValue
every_second =
    held 1 0 0 [] (7 ∷ [])
    (record {
      opening = [];
      lines = record { conditions = Every 2 ∷ []; asks = template.Raw (header 1) ∷ [] } ∷ [];
      closing = [];
      closes = false;
    } ∷ [])

-- port 7 sends message 2 in answer to every second notice, and message 1 to any other
abbrev pub one_and_two : ScriptValue
one_and_two =
    held 1 0 0 [] (7 ∷ [])
    (record {
      opening = [];
      lines = record { conditions = Every 2 ∷ []; asks = template.Raw (header 2) ∷ [] }
          ∷ record { conditions = Any ∷ []; asks = template.Raw (header 1) ∷ [] } ∷ [];
      closing = [];
      closes = false;
    } ∷ [])

-- histories without a log
abbrev pub no_logs : Histories
no_logs = record { entries = []; logs = []; lost = [] }

-- where a port with so many workers stands after two notices, if no answers waited before them
abbrev pub heard : ℕ → ScriptValue → ℕ → ℕ → Standing → Letter → Letter → Standing
heard workers script place port t one two =
    after workers script place port
    (after workers script place port (record t { pending = [] }) (Got one)) (Got two)

-- where it stands after it turned to the next answers
abbrev pub turned : ℕ → ScriptValue → ℕ → ℕ → Standing → Standing
turned workers script place port t = after workers script place port t Turned
