use Rattle.std.proofs.Common.{◌∙◌, sym, refl, arith}
use Rattle.solo_plane.proofs.QuietPorts.{all_quiet, not_quiet}
use Rattle.solo_plane.proofs.ports.are_quiet.Goals as goal

pub returns-then-has_notice_at : goal.returns-then-has_notice_at
returns-then-has_notice_at c =
    let ports = c.args.ports.now in (
      λ wrong port. absurd (cc),
      λ quiet. absurd (not_quiet ports.numbers.all.items ports.states.items c.loop-place.place
          ports.numbers.apart (omega (arith, ports.numbers.all.ok.0))
          (sym c.has_notice_at.ensures ∙ c.if-has_notice_at.true) quiet),
    )

pub returns : goal.returns
returns c =
    let ports = c.args.ports.now in (
      λ is. all_quiet ports.numbers.all.items ports.states.items
          (λ k within. c.loop-place.invariant k (omega (arith, ports.numbers.all.ok.0, within))),
      λ quiet. refl,
    )
