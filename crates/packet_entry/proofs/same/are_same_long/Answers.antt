use Rattle.std.proofs.Common.{◌≡◌, ◌++◌, ◌∙◌, take, drop, sym, ap, arith}
use Rattle.std.proofs.lemmas.List.{take_rest}
use Rattle.packet_entry.proofs.Lanes.{last, taken_on, same_in_all}
use Rattle.packet_entry.proofs.same.are_same_long.Goals as goal

pub loop-at-preserved : goal.loop-at-preserved
loop-at-preserved c =
    let a = c.args.a.now in
    let b = c.args.b.now in
    let at = c.loop-at.at in
    let here : take 64 (drop at a) ≡ take 64 (drop at b)
    = sym (ap (take 64) (take_rest a at))
    ∙ c.begin_with_same_64.ensures.0 c.if-not-begin_with_same_64.false
    ∙ ap (take 64) (take_rest b at) in (
      omega (arith, c.loop-at-test.true, c.loop-at.invariant.0),
      sym (taken_on at 64 a) ∙ (λ i. c.loop-at.invariant.1 i ++ here i) ∙ taken_on at 64 b,
    )

pub returns : goal.returns
returns c = (
  λ is. same_in_all c.loop-at.at 64 c.args.a.now c.args.b.now c.requires.as_long c.requires.long
      (omega (arith, c.loop-at-test.false, c.loop-at.invariant.0)) c.loop-at.invariant.1
      (c.begin_with_same_64-2.ensures.0 is),
  λ same. c.begin_with_same_64-2.ensures.1 (ap (last 64) same),
)
