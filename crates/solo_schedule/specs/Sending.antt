-- What ports send, with memory for all of it: message by message.
use Rattle.std.specs.Prelude.{ℕ, List, [], ◌∷◌}
use Rattle.packet_entry.specs.declared.packet.Card.{Card}
use Rattle.hook_chain.specs.declared.chain.Decision.{Decision}
use Rattle.hook_chain.specs.Route.{onward_of}
use Rattle.netlink_codec.specs.Messages.{NetlinkMessage}
use Rattle.nfqa_msgs.specs.declared.request.Decoded.{Decoded}
use Rattle.nfqa_msgs.specs.declared.request.Decoded.TheVariants.{Nothing, Refused, Asked}
use Rattle.nfqa_msgs.specs.RequestReading.{decoded}
use Rattle.histories.specs.declared.log.Did.TheVariants.{Sent}
use Rattle.histories.specs.Happenings.{all_handed}
use Rattle.script_lines.specs.declared.ask.Ask.{Ask}
use Rattle.script_lines.specs.declared.ask.Ask.TheVariants.{Words, Close}
use Rattle.packet_moves.specs.declared.setting.Setting.{Setting}
use Rattle.packet_moves.specs.World.{World, at_port, having_done}
use Rattle.packet_moves.specs.Moving.{carry_on}
use Rattle.packet_moves.specs.Messages.{words_of, answered, call_at, asking, with_ask}
use Rattle.packet_moves.specs.Planes.{with_closed}
use Rattle.run_parts.specs.Datagrams.{messages_in, bytes_of}
use Rattle.run_parts.specs.Requests.{errno_in}
use Rattle.solo_schedule.specs.Numbers.{enough_arrivals}

-- ---- one message

-- packets that a request let go on, one after the other, each to its rest or its end
abbrev pub all_moved : Setting → List (Card × Decision) → World → World
all_moved s [] w = w
all_moved s (h ∷ hs) w =
    all_moved s hs (carry_on enough_arrivals s w h.0 (onward_of s.tables s.key h.0 h.1)).world

-- what a message makes of the queues, by what it is decoded to
abbrev pub carried_out : Setting → ℕ → ℕ → Decoded → World → World
carried_out s port call Nothing w = w
carried_out s port call (Refused errno) w = w
carried_out s port call (Asked request) w =
    all_moved s (all_handed (asking w port call request).left) (with_ask w port call request)

-- the errno of a message
abbrev pub errno_of : ℕ → ℕ → Decoded → World → ℕ
errno_of port call Nothing w = 0
errno_of port call (Refused errno) w = errno
errno_of port call (Asked request) w = errno_in (asking w port call request).reply

-- the port sends a message, with this number: it is carried out, and logged
abbrev pub sent_as : Setting → ℕ → ℕ → NetlinkMessage → World → World
sent_as s port call m w =
    at_port port
    (having_done (Sent call (words_of port call m.whole (decoded m))
    (answered m (errno_of port call (decoded m) w))))
    (carried_out s port call (decoded m) w)

abbrev pub sent : Setting → ℕ → NetlinkMessage → World → World
sent s port m w = sent_as s port (call_at (w.ports port)) m w

-- ---- all messages of an ask

-- Messages are sent, each in its turn; what happens after each of them is given.
abbrev pub all_sent : (World → World) → Setting → ℕ → List NetlinkMessage → World → World
all_sent then s port [] w = w
all_sent then s port (m ∷ ms) w = all_sent then s port ms (then (sent s port m w))

-- what an ask asks for is done
abbrev pub done : (World → World) → Setting → ℕ → Ask → World → World
done then s port (Words words) w =
    all_sent then s port (messages_in (bytes_of port (call_at (w.ports port)) words)) w
done then s port Close w = with_closed w port

abbrev pub all_done : (World → World) → Setting → ℕ → List Ask → World → World
all_done then s port [] w = w
all_done then s port (a ∷ more) w = all_done then s port more (done then s port a w)
