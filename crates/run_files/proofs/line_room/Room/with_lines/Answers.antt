use Rattle.std.proofs.Common.{ap, sym, subst, arith, length, length-append}
use Rattle.std.specs.List.{flat_map}
use Rattle.run_files.specs.Parts.{AreLinesWithin}
use Rattle.run_files.proofs.line_room.Room.with_lines.Goals as goal

pub loop-line-preserved : goal.loop-line-preserved
loop-line-preserved g c =
    let before = c.loop-line.invariant in
    let steps = c.in-Some.ensures.steps in
    record {
      longest_stays = omega (arith, before.longest_stays, c.in_ok-more.ensures.longest);
      lines =
          λ most within rest.
          before.lines most (omega (arith, within, c.in_ok-more.ensures.longest))
          (subst (λ ls. AreLinesWithin g.L.Line.text most ls) (sym steps)
          (omega (arith, within, c.in_ok-more.ensures.line, c.in_ok-room.ensures), rest));
      bytes_fit =
          omega (
            arith,
            before.bytes_fit,
            ap (λ ls. length (flat_map g.L.Line.text ls)) steps,
            length-append (g.L.Line.text c.in-Some.line.now)
                (flat_map g.L.Line.text c.next.new.self),
            c.in_ok-room.ensures,
            c.in_ok-more.ensures.all,
          );
    }
