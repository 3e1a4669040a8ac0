use Rattle.std.proofs.Common.{List, ◌++◌, ap, length, ◌∙◌, subst, arith, length-append}
use Rattle.host_io.specs.Host.{later_still}
use Rattle.histories.specs.declared.log.PortLog.{PortLog}
use Rattle.journals.specs.Journal as text
use Rattle.run_files.specs.Parts.{AreLogsWithin}
use Rattle.run_files.proofs.LineTexts.{dids_by_line}
use Rattle.run_files.proofs.TextParts.{all_put, grown_as, grown_twice, turn_fits, turned}
use Rattle.run_files.proofs.journal_lines.write_logs.Goals as goal

pub write_line-requires-clause-behind : goal.write_line-requires-clause-behind
write_line-requires-clause-behind g c =
    λ told. c.loop-log.invariant.underway.behind (rw (← c.loop-log.invariant.later.tells_same) told)

pub write_line-requires-clause-places : goal.write_line-requires-clause-places
write_line-requires-clause-places g c =
    omega (
      arith,
      turn_fits _ _ _ _ _ _ _ _ _
          (text.port c.in-Some.log.now.port ++ text.dids c.in-Some.log.now.dids)
          (text.logs c.next.new.self) c.loop-log.invariant.underway
          (ap text.logs c.in-Some.ensures.steps),
      length-append (text.port c.in-Some.log.now.port) (text.dids c.in-Some.log.now.dids),
      c.requires.places,
    )

pub write_line-requires-clause-line : goal.write_line-requires-clause-line
write_line-requires-clause-line g c =
    (subst (λ (left : List PortLog). AreLogsWithin c.args.longest left) c.in-Some.ensures.steps
    c.loop-log.invariant.lines).0.port

pub write_list-requires-clause-behind : goal.write_list-requires-clause-behind
write_list-requires-clause-behind g c =
    λ told. c.in_ok-write_line.ensures.grows.behind (rw (← c.write_line.ensures.later.tells_same) told)

pub write_list-requires-clause-places : goal.write_list-requires-clause-places
write_list-requires-clause-places g c =
    omega (
      arith,
      turn_fits _ _ _ _ _ _ _ _ _
          (text.port c.in-Some.log.now.port ++ text.dids c.in-Some.log.now.dids)
          (text.logs c.next.new.self) c.loop-log.invariant.underway
          (ap text.logs c.in-Some.ensures.steps),
      length-append (text.port c.in-Some.log.now.port) (text.dids c.in-Some.log.now.dids),
      ap length (dids_by_line c.in-Some.log.now.dids),
      c.in_ok-write_line.ensures.grows.place,
      c.requires.places,
    )

pub write_list-requires-clause-lines : goal.write_list-requires-clause-lines
write_list-requires-clause-lines g c =
    (subst (λ (left : List PortLog). AreLogsWithin c.args.longest left) c.in-Some.ensures.steps
    c.loop-log.invariant.lines).0.dids

pub loop-log-preserved : goal.loop-log-preserved
loop-log-preserved g c =
    let before = c.loop-log.invariant in
    let log = c.in-Some.log.now in
    record {
      underway =
          turned _ _ _ _ _ _ _ _ _ _ _ _ _ _ _ (λ told. rw before.later.tells_same told)
          before.underway (ap text.logs c.in-Some.ensures.steps)
          (grown_twice _ _ _ _ _ _ _ _ _ _ _ (text.port log.port) (text.dids log.dids)
          (λ told. rw c.write_line.ensures.later.tells_same told)
          c.in_ok-write_line.ensures.grows
          (grown_as _ _ _ _ _ _ _ _ _ (dids_by_line log.dids)
          c.in_ok-write_list.ensures.grows));
      lines = (subst (λ (left : List PortLog). AreLogsWithin c.args.longest left)
          c.in-Some.ensures.steps before.lines).1;
      capacity = omega (
        arith,
        before.capacity,
        c.in_ok-write_line.ensures.capacity,
        c.in_ok-write_list.ensures.capacity,
      );
      files =
          λ other apart.
          c.write_list.ensures.files other apart ∙ c.write_line.ensures.files other apart
          ∙ before.files other apart;
      later = later_still before.later
          (later_still c.write_line.ensures.later c.write_list.ensures.later);
    }

pub returns-clause-grows : goal.returns-clause-grows
returns-clause-grows g c =
    all_put _ _ _ _ _ _ _ _ _ c.loop-log.invariant.underway
    (ap text.logs c.in-None.ensures.steps.0)
