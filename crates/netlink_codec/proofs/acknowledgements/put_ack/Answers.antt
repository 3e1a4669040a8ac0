use Rattle.std.proofs.Common.{◌≡◌, ℕ, List, ◌+◌, ◌++◌, length, ap, ap₂, subst, ◌∙◌, append_assoc}
use Rattle.std.proofs.Common.{arith}
use Rattle.std.specs.Prelude.{OnOk}
use Rattle.netlink_codec.specs.Numbers.{errno_length, error_kind, message_header_length}
use Rattle.netlink_codec.specs.Messages.{header_text, message_of, message_text}
use Rattle.netlink_codec.specs.Acknowledgements.{acknowledgement, negated_errno, quoted}
use Rattle.netlink_codec.proofs.acknowledgements.put_ack.Goals as goal

pub returns-clause-ok : goal.returns-clause-ok
unfolding acknowledgement message_text
returns-clause-ok c =
    let old : List ℕ = c.args.out.now.items in
    let header : List ℕ = c.put_message_header-header.result in
    let code : List ℕ = c.negated.result in
    let back : List ℕ = c.quoted_part-quoted.result.now in
    let request = c.args.request.now in
    let behind : List ℕ =
    negated_errno c.args.errno ++ quoted (message_of request) c.args.errno in
    let body : code ++ back ≡ behind =
    ap₂ (λ (x y : List ℕ). x ++ y) c.negated.ensures c.quoted_part-quoted.ensures.part in
    let size :
    message_header_length + (errno_length + length back)
    ≡ message_header_length + length behind =
    omega (arith, ap length c.quoted_part-quoted.ensures.part) in
    let front = c.put_message_header-header.ensures
    ∙ ap (λ (n : ℕ). header_text error_kind 0 request.sequence request.port n) size in
    let P : List ℕ → Type 0 =
    λ xs. OnOk c.append_parts.result (c.append_parts.new.out.items ≡ xs) in
    subst P
    (append_assoc (old ++ header) code back ∙ append_assoc old header (code ++ back)
    ∙ ap₂ (λ (h b : List ℕ). old ++ (h ++ b)) front body)
    c.append_parts.ensures.ok

pub returns-clause-exact_room : goal.returns-clause-exact_room
unfolding acknowledgement message_text
returns-clause-exact_room c = λ room.
    c.append_parts.ensures.room (omega (arith, ap length c.quoted_part-quoted.ensures.part))
