use Rattle.std.proofs.Common.{◌∙◌, List, ℕ, Some, ap, arith, length}
use Rattle.host_io.specs.Host.{written}
use Rattle.run_files.proofs.TextParts.{part_written}
use Rattle.run_files.proofs.part_writing.Part.write.Goals as goal

pub returns-clause-grows : goal.returns-clause-grows
returns-clause-grows g c =
    let before = g.H.Host.content c.args.host.now c.args.name.now in
    part_written _ before _ _ _ _ _ c.requires.behind
    (omega (arith, c.len.ensures, c.deref.ensures.len, ap length c.deref.ensures.value))
    c.clear.ensures.items
    (λ told. c.in_ok-write_on.ensures.bytes told
    ∙ ap (λ (part : List ℕ). Some (written before c.args.self.now.at part)) c.deref.ensures.value)
