use Rattle.std.proofs.Common.{◌≤◌, ◌++◌, ℕ, List, [], ◌∷◌, ap, sym, subst, arith, length, length-append}
use Rattle.histories.specs.declared.log.Did.{Did}
use Rattle.histories.specs.declared.log.PortLog.{PortLog}
use Rattle.journals.specs.Journal as text
use Rattle.run_files.specs.Parts.{AreLinesWithin, AreLogsWithin}
use Rattle.run_files.proofs.LineTexts.{dids_by_line}
use Rattle.run_files.proofs.journal_room.with_logs.Goals as goal

within_more : (few many : ℕ) (ds : List Did) → few ≤ many → AreLinesWithin text.did few ds →
    AreLinesWithin text.did many ds
within_more few many [] le all = tt
within_more few many (d ∷ ds) le all =
    (omega (arith, all.0, le), within_more few many ds le all.1)

pub loop-log-preserved : goal.loop-log-preserved
loop-log-preserved c =
    let before = c.loop-log.invariant in
    let steps = c.in-Some.ensures.steps in
    let log = c.in-Some.log.now in
    record {
      longest_stays =
          omega (
            arith,
            before.longest_stays,
            c.in_ok-port.ensures.longest,
            c.in_ok-more.ensures.longest_stays,
          );
      lines =
          λ most within rest.
          before.lines most (omega (
            arith,
            within,
            c.in_ok-port.ensures.longest,
            c.in_ok-more.ensures.longest_stays,
          ))
          (subst (λ (ls : List PortLog). AreLogsWithin most ls) (sym steps) (
            record {
              port = omega (
                arith,
                within,
                c.port_room.ensures,
                c.in_ok-port.ensures.line,
                c.in_ok-more.ensures.longest_stays,
              );
              dids = within_more _ most log.dids within c.in_ok-more.ensures.lines;
            },
            rest,
          ));
      bytes_fit =
          omega (
            arith,
            before.bytes_fit,
            ap (λ (ls : List PortLog). length (text.logs ls)) steps,
            length-append (text.port log.port ++ text.dids log.dids)
                (text.logs c.next.new.self),
            length-append (text.port log.port) (text.dids log.dids),
            ap length (dids_by_line log.dids),
            c.port_room.ensures,
            c.in_ok-port.ensures.all,
            c.in_ok-more.ensures.bytes_fit,
          );
    }
