use Rattle.std.proofs.Common.{◌≡◌, ◌-◌, ◌∙◌, List, ℕ, length, ap, subst, arith}
use Rattle.std.specs.Prelude.{slice_range, IfOk}
use Rattle.nfqa_msgs.specs.NoticeWriting.{Told}
use Rattle.nfqa_msgs.specs.Telling.{telling}
use Rattle.nfqa_msgs.proofs.NoticeSpelling.{payload_stands, payload_within}
use Rattle.nfqa_msgs.proofs.notice_reading.payload_in.Goals as goal

pub overflow_sub-end : goal.overflow_sub-end
overflow_sub-end c =
    let within =
    payload_within (telling c.args.told.now) c.attr_padding.result c.attr_padding.ensures.value in
    omega (arith, within, c.len.ensures, ap length c.requires.text)

pub overflow_sub-end-2 : goal.overflow_sub-end-2
overflow_sub-end-2 c =
    let within =
    payload_within (telling c.args.told.now) c.attr_padding.result c.attr_padding.ensures.value in
    omega (arith, within, c.len.ensures, ap length c.requires.text)

pub returns : goal.returns
returns c =
    let told : Told = telling c.args.told.now in
    let padding : ℕ = c.attr_padding.result in
    let part : List ℕ → ℕ → List ℕ =
    λ xs n. slice_range xs (n - padding - length told.payload) (n - padding) in
    let is : part c.args.bytes.now c.len.result ≡ told.payload =
    ap (part c.args.bytes.now) c.len.ensures
    ∙ ap (λ (xs : List ℕ). part xs (length xs)) c.requires.text
    ∙ payload_stands told padding c.attr_padding.ensures.value in
    subst (λ xs. IfOk c.cut.result (λ payload. payload ≡ xs)) is c.cut.ensures
