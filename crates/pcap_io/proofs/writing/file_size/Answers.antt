use Rattle.std.proofs.Common.{◌+◌, ◌^◌, ◌≤◌, length, arith, sym, ap, ◌∙◌, List}
use Rattle.pcap_io.specs.declared.capture.Frame.{Frame}
use Rattle.pcap_io.proofs.WholeFile.{records}
use Rattle.pcap_io.proofs.Room.{length-capture, length-records, not_below}
use Rattle.pcap_io.proofs.writing.file_size.Goals as goal
use Rattle.pcap_io.proofs.writing.file_size.Goals.{In-Some}

pub loop-frame-init : goal.loop-frame-init
loop-frame-init c =
    let capture = c.args.capture.now in
    ap (λ (fs : List Frame). 24 + length (records capture.big fs))
    c.into_iter-frame-iterator.ensures.into_iter_gives
    ∙ sym (length-capture capture)

pub loop-frame-preserved : goal.loop-frame-preserved
loop-frame-preserved c =
    let big = c.args.capture.now.big in
    let step = ap (λ (fs : List Frame). length (records big fs)) c.in-Some.ensures.steps in
    omega (
      arith,
      step,
      length-records big c.in-Some.frame.now c.next.new.self,
      c.loop-frame.invariant,
      c.in_ok-checked_add.ensures.1,
      c.in_ok-size.ensures.1,
      c.len.ensures,
    )

pub returns-in_err-checked_add-clause-too_many : goal.returns-in_err-checked_add-clause-too_many
returns-in_err-checked_add-clause-too_many c =
    let big = c.args.capture.now.big in
    let step = ap (λ (fs : List Frame). length (records big fs)) c.in-Some.ensures.steps in
    let past : 2 ^ 64 ≤ c.loop-frame.size + 16 =
    not_below (c.loop-frame.size + 16) c.in_err-checked_add.ensures in
    rw c.from_residual.ensures (omega (
      arith,
      step,
      length-records big c.in-Some.frame.now c.next.new.self,
      c.loop-frame.invariant,
      past,
    ))

pub returns-in_err-size-clause-too_many : goal.returns-in_err-size-clause-too_many
returns-in_err-size-clause-too_many c =
    let big = c.args.capture.now.big in
    let step = ap (λ (fs : List Frame). length (records big fs)) c.in-Some.ensures.steps in
    let past : 2 ^ 64 ≤ c.in_ok-checked_add.field-0 + c.len.result =
    not_below (c.in_ok-checked_add.field-0 + c.len.result) c.in_err-size.ensures in
    rw c.from_residual-in_err-size.ensures (omega (
      arith,
      step,
      length-records big c.in-Some.frame.now c.next.new.self,
      c.loop-frame.invariant,
      c.in_ok-checked_add.ensures.1,
      c.len.ensures,
      past,
    ))
