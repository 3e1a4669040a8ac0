-- What can become of frames, and the ledger's text: a heading, and a line for each frame. Words are
-- separated by one blank, and numbers are decimal.
use Rattle.std.specs.Prelude.{ℕ, List, [], ◌∷◌, ◌++◌, length, Bool, true, false, codes, decimal}
use Rattle.std.specs.Prelude.{◌==◌, if◌then◌else◌}
use Rattle.fate_ledger.specs.declared.fate.Fate.{Fate}
use Rattle.fate_ledger.specs.declared.fate.Fate.TheVariants as fate
use Rattle.fate_ledger.specs.declared.fate.FateLine.{FateLine}

abbrev pub name : Fate → List ℕ
name fate.Unhooked = codes "unhooked"
name fate.Accept = codes "accept"
name fate.Stop = codes "stop"
name fate.Repeat = codes "repeat"
name fate.FailOpen = codes "failopen"
name fate.Bypass = codes "bypass"
name fate.Dropped = codes "drop"
name fate.Overflow = codes "overflow"
name fate.UserFull = codes "userfull"
name fate.NoQueue = codes "noqueue"
name fate.CopyNone = codes "copynone"
name fate.Loop = codes "loop"
name fate.Unbind = codes "unbind"
name fate.PortClosed = codes "portclosed"
name fate.DeviceDown = codes "devicedown"
name fate.Waiting = codes "waiting"
name fate.NoMemory = codes "nomemory"

-- whether a frame with this fate was released
abbrev pub is_release : Fate → Bool
is_release fate.Unhooked = true
is_release fate.Accept = true
is_release fate.Stop = true
is_release fate.Repeat = true
is_release fate.FailOpen = true
is_release fate.Bypass = true
is_release other = false

-- the queue and the place in its history of a packet's last event, `- -` where it has none
abbrev pub place : ℕ → ℕ → List ℕ
place queue at = if at == 0 then codes "- -" else decimal queue ++ codes " " ++ decimal at

-- the packet's mark, its priority and the number of its bytes
abbrev pub packet : FateLine → List ℕ
packet l =
    codes " " ++ decimal l.mark ++ codes " " ++ decimal l.priority ++ codes " "
    ++ decimal (length l.payload) ++ codes "\n"

-- NUMBER FATE QUEUE AT MARK PRIORITY LENGTH
abbrev pub line : FateLine → List ℕ
line l =
    (decimal l.number ++ codes " " ++ name l.fate ++ codes " ") ++ place l.queue l.at ++ packet l

abbrev pub lines : List FateLine → List ℕ
lines [] = []
lines (l ∷ ls) = line l ++ lines ls

-- the first line
abbrev pub heading : List ℕ
heading = codes "record fate queue at mark priority bytes\n"

abbrev pub ledger : List FateLine → List ℕ
ledger ls = heading ++ lines ls
