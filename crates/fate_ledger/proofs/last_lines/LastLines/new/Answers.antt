use Rattle.std.proofs.Common.{◌++◌, ◌∷◌, [], ℕ, length, List, arith, ap, ◌∙◌}
use Rattle.std.specs.Prelude.{replicate}
use Rattle.fate_ledger.specs.declared.fate.FateLine.{FateLine}
use Rattle.pcap_io.specs.declared.capture.Frame.{Frame}
use Rattle.fate_ledger.proofs.LastEventTable.{all_begun, as_many_begun, one_begun}
use Rattle.fate_ledger.proofs.last_lines.LastLines.new.Goals as goal

pub loop-frame-preserved : goal.loop-frame-preserved
loop-frame-preserved c =
    let before = c.loop-frame.invariant in
    let steps = c.in-Some.ensures.steps in
    one_begun _ _ _ _ _ _ _ c.in-Some.frame.now _ steps
    (omega (arith, before.left, ap (λ (fs : List Frame). length fs) steps, c.requires))
    (c.in_ok-push-2.ensures.items
    ∙ ap (λ (p : List ℕ). c.loop-frame.payloads.items ++ p ∷ []) c.new.ensures)
    (c.in_ok-push.ensures.items
    ∙ ap (λ (l : FateLine). c.loop-frame.lines.items ++ l ∷ []) c.line_without.ensures)
    before

pub invariant_of-result : goal.invariant_of-result
invariant_of-result c =
    as_many_begun _ _ _ c.args.frames.now (all_begun _ _ _ _ c.args.frames.now
    c.in-None.ensures.steps.0 (c.in_ok-visits.ensures.items_if_clones_equal (λ y same. same)
    ∙ ap (λ n. replicate n 0) c.len-3.ensures) c.loop-frame.invariant)

pub returns : goal.returns
returns c =
    all_begun _ _ _ _ c.args.frames.now c.in-None.ensures.steps.0
    (c.in_ok-visits.ensures.items_if_clones_equal (λ y same. same)
    ∙ ap (λ n. replicate n 0) c.len-3.ensures) c.loop-frame.invariant
