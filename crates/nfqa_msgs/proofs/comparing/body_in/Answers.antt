use Rattle.std.proofs.Common.{ap, sym, ◌∙◌, length, Some}
use Rattle.netlink_codec.specs.Messages.{NetlinkMessage, message_of}
use Rattle.nfqa_msgs.proofs.MessageText.{is_read, stands_alone}
use Rattle.nfqa_msgs.proofs.comparing.body_in.Goals as goal

pub returns-in_err-message-clause-only : goal.returns-in_err-message-clause-only
returns-in_err-message-clause-only c = λ body fits is.
    let none = c.in_err-message.ensures in
    absurd (let same = none.only _ _ (stands_alone c.args.bytes.now _ _ _ _ body fits is) in cc)

pub returns-then-not-has_header-clause-only :
    goal.returns-then-not-has_header-clause-only
returns-then-not-has_header-clause-only c = λ body fits is.
    let it = c.in_ok-message.ensures in
    let m : NetlinkMessage = message_of c.in_ok-message.message in
    let same = is_read c.args.bytes.now _ _ _ _ body m c.in_ok-message.field-0-1 it.only fits is in
    let told = (c.if-not-has_header.ensures).1 (
      ap (λ (x : NetlinkMessage). x.kind) same,
      ap (λ (x : NetlinkMessage). x.flags) same,
      ap (λ (x : NetlinkMessage). x.sequence) same,
      ap (λ (x : NetlinkMessage). x.port) same,
    ) in
    absurd cc

pub returns-then-message-bytes-clause-only : goal.returns-then-message-bytes-clause-only
returns-then-message-bytes-clause-only c = λ body fits is.
    let it = c.in_ok-message.ensures in
    let m : NetlinkMessage = message_of c.in_ok-message.message in
    let same = is_read c.args.bytes.now _ _ _ _ body m c.in_ok-message.field-0-1 it.only fits is in
    absurd (c.if-message-bytes.true (ap length
    (ap (λ (x : NetlinkMessage). x.whole) same ∙ sym is)))

pub returns-clause-only : goal.returns-clause-only
returns-clause-only c = λ body fits is.
    let it = c.in_ok-message.ensures in
    let m : NetlinkMessage = message_of c.in_ok-message.message in
    let same = is_read c.args.bytes.now _ _ _ _ body m c.in_ok-message.field-0-1 it.only fits is in
    ap (λ (x : NetlinkMessage). Some x.body) same
