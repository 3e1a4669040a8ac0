use Rattle.std.proofs.Common.{◌≡◌, ℕ, List, min, length, take, refl, ap, ◌∙◌, arith}
use Rattle.std.proofs.lemmas.List.{take_rest}
use Rattle.netlink_codec.specs.Numbers.{message_header_length}
use Rattle.netlink_codec.specs.Messages.{told_length, pad}
use Rattle.netlink_codec.proofs.Framing.{first_message-some}
use Rattle.netlink_codec.proofs.messages.read_message.Goals as goal

pub returns : goal.returns
returns c =
    let bytes : List ℕ = c.args.bytes.now in
    let header = c.read_message_header-header.result in
    let fields = c.read_message_header-header.ensures in
    let used : c.min.result ≡ min (pad (told_length bytes)) (length bytes) =
    c.min.ensures
    ∙ ap (λ (n : ℕ). min n (length bytes)) (c.padded.ensures ∙ ap pad fields.length) in
    rw (
      first_message-some bytes (omega arith) (omega arith) (omega arith),
      take_rest (take header.length bytes) message_header_length,
      used,
      fields.length,
      fields.kind,
      fields.flags,
      fields.sequence,
      fields.port,
    ) refl
