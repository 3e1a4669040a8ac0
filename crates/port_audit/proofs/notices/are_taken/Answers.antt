use Rattle.std.proofs.Common.{◌≡◌, [], sym, subst, rules, true≢false}
use Rattle.queue_replay.specs.Replays.{AreFound}
use Rattle.queue_replay.specs.Underway.{WithFound, begun, there, found_is_some, found_there}
use Rattle.queue_replay.specs.Underway.{found_on, all_gone_over}
use Rattle.port_audit.specs.Dealing.{AreMet}
use Rattle.port_audit.specs.Noticing.{visits_under, MeetsNext}
use Rattle.port_audit.proofs.RowMatches.{told_begun, told_ends}
use Rattle.port_audit.proofs.Visits.{Taking, next_on, next_breaks}
use Rattle.port_audit.proofs.notices.are_taken.Goals as goal

pub loop-entry-init : goal.loop-entry-init
loop-entry-init c =
    begun (WithFound c.iter-found.result (Taking c.args.ports.now c.args.rows c.args.rows))
    c.args.entries.now _ c.into_iter-entry-iterator.ensures.into_iter_gives (
      subst (AreFound [] c.args.entries.now) (sym c.iter-found.ensures) c.requires,
      λ told dealt. told_begun c.args.ports.now told (visits_under c.args.ports.now) c.args.rows
          dealt,
    )

pub next_found-here-requires : goal.next_found-here-requires
next_found-here-requires c =
    found_is_some c.loop-entry.found (Taking c.args.ports.now c.args.rows c.loop-entry.rows)
    c.args.entries.now c.loop-entry.entry-iterator c.next.new.self c.in-Some.entry.now
    c.in-Some.ensures.steps c.loop-entry.invariant

pub returns-then-not-meets_next : goal.returns-then-not-meets_next
returns-then-not-meets_next c told dealt =
    let ports = c.args.ports.now in
    let e = c.in-Some.entry.now in
    let u = c.loop-entry.invariant in
    let P = Taking ports c.args.rows c.loop-entry.rows in
    let here = found_there c.loop-entry.found P c.args.entries.now c.loop-entry.entry-iterator
    c.next.new.self e c.in-Some.ensures.steps u c.next_found-here.new.found
    c.next_found-here.result c.next_found-here.ensures in (
      λ h. absurd (true≢false (sym h)),
      λ met. absurd (next_breaks ports told u.before e c.next_found-here.result.port here.port
          c.loop-entry.rows c.meets_next.new.rows (u.kept.1 told dealt) c.next.new.self
          (subst (MeetsNext ports c.next_found-here.result.port e c.loop-entry.rows
          c.meets_next.new.rows) c.if-not-meets_next.true c.meets_next.ensures)
          (subst (AreMet ports told (visits_under ports))
          (there (WithFound c.loop-entry.found P) c.args.entries.now c.loop-entry.entry-iterator
          c.next.new.self e c.in-Some.ensures.steps u) met)),
    )

pub loop-entry-preserved : goal.loop-entry-preserved
loop-entry-preserved c =
    let ports = c.args.ports.now in
    let e = c.in-Some.entry.now in
    let port = c.next_found-here.result.port in
    found_on c.loop-entry.found (Taking ports c.args.rows c.loop-entry.rows) c.args.entries.now
    c.loop-entry.entry-iterator c.next.new.self e c.in-Some.ensures.steps c.loop-entry.invariant
    c.next_found-here.new.found c.next_found-here.result c.next_found-here.ensures
    (Taking ports c.args.rows c.meets_next.new.rows)
    (λ here taking told dealt. next_on ports told c.loop-entry.invariant.before e port here.port
    c.loop-entry.rows c.meets_next.new.rows (taking told dealt)
    (subst (MeetsNext ports port e c.loop-entry.rows c.meets_next.new.rows)
    c.if-not-meets_next.false c.meets_next.ensures))

pub returns : goal.returns
returns c told dealt =
    let ports = c.args.ports.now in
    let none : c.loop-entry.entry-iterator ≡ [] = search rules in
    let is = (all_gone_over (WithFound c.loop-entry.found
    (Taking ports c.args.rows c.loop-entry.rows)) c.args.entries.now c.loop-entry.entry-iterator
    none c.loop-entry.invariant).1 told dealt in
    let ends = told_ends ports told (visits_under ports) c.loop-entry.rows c.args.entries.now is
    in (
      λ yes. ends.0 ((c.are_empty.ensures is.kept).0 yes),
      λ met. (c.are_empty.ensures is.kept).1 (ends.1 met),
    )
