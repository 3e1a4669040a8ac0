-- What a run with threads gives.
use Rattle.std.specs.Prelude.{ℕ, List, [], length}
use Rattle.hook_chain.specs.Rules.{RuleTables}
use Rattle.pcap_io.specs.declared.capture.Capture.{Capture}
use Rattle.histories.specs.declared.histories.Histories.{Histories}
use Rattle.inspector_script.specs.Scripts.{ScriptValue}
use Rattle.run_parts.specs.Log.{Note}
use Rattle.run_parts.specs.Run.{IsMadeBy}
use Rattle.packet_moves.specs.declared.setting.Setting.{Setting}
use Rattle.plane.specs.declared.opened.Opened.{Opened}
use Rattle.plane.specs.Opening.{IsOpened}
use Rattle.plane.specs.Planes.{places_of, setting_of}
use Rattle.live_work.specs.Numbers.{one_feeder, one_worker}

-- what a plane for this script is opened with, beside these tables
abbrev pub setting_for : ScriptValue → RuleTables → Setting
setting_for script tables =
    record { tables = tables; key = script.key; mail = script.mail }

abbrev pub tables_of : Opened → RuleTables
tables_of o = (setting_of o.plane).tables

-- A plane was just opened for a script: with its ports, in their order, the size of its mailboxes
-- and its key; and nothing has happened.
abbrev pub IsOpenedFor : ScriptValue → Opened → Type 0
IsOpenedFor script o =
    IsOpened (places_of o.plane) script.ports (setting_for script (tables_of o)) o.plane o.feeder
    o.ports o.gauge

-- The ports made these histories by the script, with so many workers behind each and so many
-- feeders, and received every notice that was sent: what each did is told in full.
pub record IsLiveRunBy (workers feeders : ℕ) (script : ScriptValue) (capture : Capture)
    (h : Histories) : Type 0 where
  pub notes : ℕ → List Note
  pub made : IsMadeBy workers feeders script (length capture.frames) h notes (λ port. [])

-- so they did with one inspector each and one feeder
abbrev pub IsLiveRun : ScriptValue → Capture → Histories → Type 0
IsLiveRun script capture h = IsLiveRunBy one_worker one_feeder script capture h
