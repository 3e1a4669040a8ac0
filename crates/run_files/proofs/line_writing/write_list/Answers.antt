use Rattle.std.proofs.Common.{ap, ◌∙◌, subst, arith}
use Rattle.std.specs.List.{flat_map}
use Rattle.host_io.specs.Host.{later_still}
use Rattle.run_files.specs.Parts.{AreLinesWithin}
use Rattle.run_files.proofs.TextParts.{all_put, turn_fits, turned}
use Rattle.run_files.proofs.line_writing.write_list.Goals as goal

pub write_line-requires-clause-behind : goal.write_line-requires-clause-behind
write_line-requires-clause-behind g c =
    λ told. c.loop-line.invariant.underway.behind (rw (← c.loop-line.invariant.later.tells_same) told)

pub write_line-requires-clause-places : goal.write_line-requires-clause-places
write_line-requires-clause-places g c =
    omega (
      arith,
      turn_fits _ _ _ _ _ _ _ _ _ (g.L.Line.text c.in-Some.line.now)
          (flat_map g.L.Line.text c.next.new.self) c.loop-line.invariant.underway
          (ap (flat_map g.L.Line.text) c.in-Some.ensures.steps),
      c.requires.places,
    )

pub write_line-requires-clause-line : goal.write_line-requires-clause-line
write_line-requires-clause-line g c =
    (subst (λ left. AreLinesWithin g.L.Line.text c.args.longest left) c.in-Some.ensures.steps
    c.loop-line.invariant.lines).0

pub loop-line-preserved : goal.loop-line-preserved
loop-line-preserved g c =
    let before = c.loop-line.invariant in
    record {
      underway =
          turned _ _ _ _ _ _ _ _ _ _ _ _ _ _ _ (λ told. rw before.later.tells_same told)
          before.underway (ap (flat_map g.L.Line.text) c.in-Some.ensures.steps)
          c.in_ok-write_line.ensures.grows;
      lines = (subst (λ left. AreLinesWithin g.L.Line.text c.args.longest left)
          c.in-Some.ensures.steps before.lines).1;
      capacity = omega (arith, before.capacity, c.in_ok-write_line.ensures.capacity);
      files = λ other apart. c.write_line.ensures.files other apart ∙ before.files other apart;
      later = later_still before.later c.write_line.ensures.later;
    }

pub returns-clause-grows : goal.returns-clause-grows
returns-clause-grows g c =
    all_put _ _ _ _ _ _ _ _ _ c.loop-line.invariant.underway
    (ap (flat_map g.L.Line.text) c.in-None.ensures.steps.0)
