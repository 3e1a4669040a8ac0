use Rattle.std.proofs.Common.{◌≡◌, ℕ, List, ◌+◌, ◌++◌, length, ap, subst, sym, ◌∙◌, append_assoc}
use Rattle.std.proofs.Common.{length-append, arith}
use Rattle.std.specs.Prelude.{OnOk}
use Rattle.netlink_codec.specs.Numbers.{message_header_length}
use Rattle.netlink_codec.specs.Messages.{header_text, message_text}
use Rattle.netlink_codec.proofs.messages.put_split_message.Goals as goal

pub returns-clause-ok : goal.returns-clause-ok
unfolding message_text
returns-clause-ok c =
    let old : List ℕ = c.args.out.now.items in
    let header : List ℕ = c.put_message_header-header.result in
    let a : List ℕ = c.args.head.now in
    let b : List ℕ = c.args.middle.now in
    let d : List ℕ = c.args.tail.now in
    let body : List ℕ = a ++ b ++ d in
    let parts : (old ++ header) ++ a ++ b ++ d ≡ old ++ (header ++ body) =
    append_assoc ((old ++ header) ++ a) b d ∙ append_assoc (old ++ header) a (b ++ d)
    ∙ ap (λ (xs : List ℕ). (old ++ header) ++ xs) (sym (append_assoc a b d))
    ∙ append_assoc old header body in
    let size : message_header_length + (length a + length b + length d)
    ≡ message_header_length + length body =
    omega (arith, length-append (a ++ b) d, length-append a b) in
    let front : header ≡ header_text c.args.kind c.args.flags c.args.sequence c.args.port
    (message_header_length + length body) =
    c.put_message_header-header.ensures
    ∙ ap (λ (n : ℕ). header_text c.args.kind c.args.flags c.args.sequence c.args.port n) size in
    let before : c.extend_from_slice.new.self.items ++ a ++ b ++ d
    ≡ (old ++ header) ++ a ++ b ++ d =
    ap (λ (xs : List ℕ). xs ++ a ++ b ++ d)
    (c.in_ok-extend_from_slice.ensures.items
    ∙ ap (λ (xs : List ℕ). xs ++ header) c.in_ok-reserve.ensures.items) in
    let P : List ℕ → Type 0 =
    λ xs. OnOk c.append_parts.result (c.append_parts.new.out.items ≡ xs) in
    subst P (before ∙ parts ∙ ap (λ (h : List ℕ). old ++ (h ++ body)) front)
    c.append_parts.ensures.ok
