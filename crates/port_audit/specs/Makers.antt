-- The logs of the ports that made histories, with the notices in them. In the end no notice is left
-- in a mailbox.
use Rattle.std.specs.Prelude.{◌≡◌, ◌⊎◌, ℕ, List, [], ◌∷◌, None, IsSome, true}
use Rattle.std.specs.List.{AllByRecursion}
use Rattle.packet_entry.specs.declared.letter.Letter.{Letter}
use Rattle.histories.specs.declared.entry.Entry.{Entry}
use Rattle.histories.specs.declared.histories.Histories.{Histories}
use Rattle.histories.specs.History.{history}
use Rattle.inspector_script.specs.Scripts.{ScriptValue}
use Rattle.run_parts.specs.Log.{Note}
use Rattle.run_parts.specs.Notices.{heard, letters_from}
use Rattle.run_parts.specs.Ports.{is_port, log_of}
use Rattle.run_parts.specs.Run.{LogHolds}

abbrev pub IsAmong : Letter → List Letter → Type 0
IsAmong l [] = ⊥
IsAmong l (m ∷ ms) = (l ≡ m) ⊎ IsAmong l ms

-- a notice of an arrival that its queue took, for whatever port
abbrev pub IsTaken : List Entry → Letter → Type 0
IsTaken es l = (port : ℕ) × IsAmong l (letters_from port None (history l.queue es))

-- Each of the script's ports has a log, which is what the script says, and each notice in it is of
-- an arrival that a queue took.
pub record HaveLogs (script : ScriptValue) (h : Histories) (notes : ℕ → List Note) : Type 0 where
  pub there : (port : ℕ) → is_port script port ≡ true → IsSome (log_of port h.logs)
  pub logs : LogHolds 1 script h notes
  pub taken : (port : ℕ) → is_port script port ≡ true →
      AllByRecursion (IsTaken h.entries) (heard (notes port))

abbrev pub none_left : ℕ → List Letter
none_left port = []
