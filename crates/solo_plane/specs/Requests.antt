-- Requests that a port sends without their bytes.
use Rattle.std.specs.Prelude.{ℕ, List}
use Rattle.nfqa_msgs.specs.declared.request.Request.{Request}
use Rattle.nfqa_msgs.specs.RequestWriting.{spelled}
use Rattle.packet_moves.specs.declared.setting.Setting.{Setting}
use Rattle.packet_moves.specs.Messages.{IsSent, call_at}
use Rattle.packet_moves.specs.World.{World}

-- A port sends the message that a request's spelling is, under its next number; nobody reads what is
-- replied.
abbrev pub SendsRequest : Setting → ℕ → Request → World → World → Type 0
SendsRequest s port request old new =
    (before : List ℕ) → (after : List ℕ)
    × IsSent s port (spelled port (call_at (old.ports port)) request) old new before after
