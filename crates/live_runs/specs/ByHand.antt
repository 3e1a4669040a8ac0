-- A run of one port and a feeder, written out: its script, what each pass did and has seen, and its
-- histories, with these entries fed.
use Rattle.std.specs.Prelude.{◌≡◌, ℕ, true, false, List, [], ◌∷◌, ◌++◌, ◌==◌, Some, None}
use Rattle.std.specs.Prelude.{if◌then◌else◌}
use Rattle.netlink_codec.specs.Messages.{NetlinkMessage}
use Rattle.nfqa_msgs.specs.declared.request.Request.{Request}
use Rattle.nfqa_msgs.specs.declared.request.Request.TheVariants.{Config}
use Rattle.histories.specs.declared.entry.Entry.{Entry}
use Rattle.histories.specs.declared.histories.Histories.{Histories}
use Rattle.histories.specs.declared.log.AskWords.TheVariants.{Raw}
use Rattle.inspector_script.specs.Scripts.{ScriptValue, held}
use Rattle.run_parts.specs.Closing.{IsShutIn}
use Rattle.run_parts.specs.FedExamples.{arrives, binds, down_5, falls, shuts}
use Rattle.run_parts.specs.Log.{Begun, Note, Shut, Spoke, logged}
use Rattle.run_parts.specs.Notices.{letters_from}
use Rattle.run_parts.specs.Room.{some_lacks}
use Rattle.live_runs.specs.ClosedPlanes.{sent_by_all}
use Rattle.live_runs.specs.Owners.{IsFeeders}
use Rattle.live_runs.specs.Passes.{Pass}
use Rattle.live_runs.specs.Seen.{EachIs, Ours, Seen, Shares, Theirs, all_ours, all_theirs}
use Rattle.live_runs.specs.Stands.{Stand, shut_stand}

-- Message 1 of port 7, which binds queue 3: its length, kind, flags, number and port; the family, a
-- version and the queue; and the attribute of its command.
abbrev pub body : List ℕ
body = 0 ∷ 0 ∷ 0 ∷ 3 ∷ 8 ∷ 0 ∷ 1 ∷ 0 ∷ 1 ∷ 0 ∷ 0 ∷ 0 ∷ []

abbrev pub bytes : List ℕ
bytes = 28 ∷ 0 ∷ 0 ∷ 0 ∷ 2 ∷ 3 ∷ 5 ∷ 0 ∷ 1 ∷ 0 ∷ 0 ∷ 0 ∷ 7 ∷ 0 ∷ 0 ∷ 0 ∷ body

abbrev pub binding : Request
binding = Config 3 (Some 1) None None None None

abbrev pub message : NetlinkMessage
message =
    record { kind = 770; flags = 5; sequence = 1; port = 7; body = body; whole = bytes }

-- port 7 opens with this message, answers no notice and closes; device 5 goes down after frame 1
abbrev pub script : ScriptValue
script =
    held 1 0 0 down_5 (7 ∷ [])
    (record { opening = Raw bytes ∷ []; lines = []; closing = []; closes = true } ∷ [])

-- what queue 3 saw, at the one place: port 7 binds it, these are fed, and the port closes
abbrev pub around : List Entry → List Entry
around fed = binds ∷ fed ++ shuts 7 ∷ []

abbrev pub at_place_0 : List Seen → Shares
at_place_0 xs k = if k == 0 then xs else []

abbrev pub notes_of_7 : List Note
notes_of_7 = Begun ∷ Spoke 1 message 0 ∷ Shut ∷ []

abbrev pub pass_of_7 : List Entry → Pass
pass_of_7 fed = record {
  dids = logged 7 notes_of_7;
  letters = [];
  shares = at_place_0 (Ours binds ∷ all_theirs fed ++ Ours (shuts 7) ∷ []);
}

abbrev pub pass_of_feeder : List Entry → Pass
pass_of_feeder fed = record {
  dids = [];
  letters = [];
  shares = at_place_0 (Theirs binds ∷ all_ours fed ++ Theirs (shuts 7) ∷ []);
}

abbrev pub passes_with : List Entry → ℕ → Pass
passes_with fed p = if p == 7 then pass_of_7 fed else pass_of_feeder fed

abbrev pub notes : ℕ → List Note
notes p = if p == 7 then notes_of_7 else []

abbrev pub stands : ℕ → Stand
stands p = shut_stand

abbrev pub histories_with : List Entry → Histories
histories_with fed = record {
  entries = around fed;
  logs = record { port = 7; dids = logged 7 notes_of_7 } ∷ [];
  lost = [];
}

-- What may be fed in between: entries of queue 3 that are a feeder's. Port 7 is sent no notice of
-- them, none finds its mailbox full, and its closing stands behind them as it has to.
pub record AreFedTo3 (fed : List Entry) : Type 0 where
  pub here : EachIs (λ e. e.queue ≡ 3) fed
  pub feeders : EachIs IsFeeders fed
  pub letters : letters_from 7 None (around fed) ≡ []
  pub sent : sent_by_all (7 ∷ []) 1 (passes_with fed) 7 ≡ 0
  pub room : some_lacks 7 None (around fed) ≡ false
  pub closing : IsShutIn 7 (around fed)

-- ---- frame 1 arrives, and device 5 goes down

abbrev pub fed_by_one : List Entry
fed_by_one = arrives 1 ∷ falls 5 ∷ []

abbrev pub passes : ℕ → Pass
passes = passes_with fed_by_one

abbrev pub histories : Histories
histories = histories_with fed_by_one
