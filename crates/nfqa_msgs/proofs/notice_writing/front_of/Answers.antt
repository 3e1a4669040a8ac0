use Rattle.std.proofs.Common.{◌≡◌, List, ℕ, ◌++◌, ap, sym, ◌∙◌}
use Rattle.nfqa_msgs.specs.NoticeWriting.{Told, notice_front, padded_payload}
use Rattle.nfqa_msgs.specs.Telling.{telling}
use Rattle.nfqa_msgs.proofs.NoticeSpelling.{body_with_payload, payload_header}
use Rattle.nfqa_msgs.proofs.notice_writing.front_of.Goals as goal

pub returns : goal.returns
returns c =
    let told : Told = telling c.args.told.now in
    let written : c.put_bytes.new.parts.items ≡ notice_front told ++ payload_header told.payload =
    c.put_bytes.ensures.text
    ∙ ap (λ (xs : List ℕ). xs ++ c.attr_header.result) c.parts_before-front.ensures.text
    ∙ ap (λ (xs : List ℕ). notice_front told ++ xs) c.attr_header.ensures in
    body_with_payload told (sym c.is_empty.ensures ∙ c.if-is_empty.false)
    ∙ ap (λ (xs : List ℕ). xs ++ padded_payload told.payload) (sym written)
