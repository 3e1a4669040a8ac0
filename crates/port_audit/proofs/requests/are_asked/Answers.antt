use Rattle.std.proofs.Common.{◌≡◌, [], sym, subst, rules, true≢false}
use Rattle.queue_replay.specs.Underway.{begun, there, underway_on, all_gone_over}
use Rattle.port_audit.specs.Dealing.{AreMet}
use Rattle.port_audit.specs.Pleading.{pleas_brought, MeetsEvent}
use Rattle.port_audit.proofs.RowMatches.{told_begun, told_ends}
use Rattle.port_audit.proofs.ToldRequests.{Pleading, plea_on, plea_breaks}
use Rattle.port_audit.proofs.requests.are_asked.Goals as goal

pub loop-entry-init : goal.loop-entry-init
loop-entry-init c =
    begun (Pleading c.args.rows c.args.rows) c.args.entries.now _
    c.into_iter-entry-iterator.ensures.into_iter_gives
    (λ ports told dealt. told_begun ports told pleas_brought c.args.rows dealt)

pub returns-then-not-meets_next : goal.returns-then-not-meets_next
returns-then-not-meets_next c ports told dealt =
    let e = c.in-Some.entry.now in
    let u = c.loop-entry.invariant in (
      λ h. absurd (true≢false (sym h)),
      λ met. absurd (plea_breaks ports told u.before e c.loop-entry.rows c.meets_next.new.rows
          (u.kept ports told dealt) c.next.new.self
          (subst (MeetsEvent e.queue e.event e.reply c.loop-entry.rows c.meets_next.new.rows)
          c.if-not-meets_next.true c.meets_next.ensures)
          (subst (AreMet ports told pleas_brought)
          (there (Pleading c.args.rows c.loop-entry.rows) c.args.entries.now
          c.loop-entry.entry-iterator c.next.new.self e c.in-Some.ensures.steps u) met)),
    )

pub loop-entry-preserved : goal.loop-entry-preserved
loop-entry-preserved c =
    let e = c.in-Some.entry.now in
    let u = c.loop-entry.invariant in
    underway_on (Pleading c.args.rows c.loop-entry.rows) c.args.entries.now
    c.loop-entry.entry-iterator c.next.new.self e c.in-Some.ensures.steps u
    (Pleading c.args.rows c.meets_next.new.rows)
    (λ ports told dealt. plea_on ports told u.before e c.loop-entry.rows c.meets_next.new.rows
    (u.kept ports told dealt)
    (subst (MeetsEvent e.queue e.event e.reply c.loop-entry.rows c.meets_next.new.rows)
    c.if-not-meets_next.false c.meets_next.ensures))

pub returns : goal.returns
returns c ports told dealt =
    let none : c.loop-entry.entry-iterator ≡ [] = search rules in
    let is = all_gone_over (Pleading c.args.rows c.loop-entry.rows) c.args.entries.now
    c.loop-entry.entry-iterator none c.loop-entry.invariant ports told dealt in
    let ends = told_ends ports told pleas_brought c.loop-entry.rows c.args.entries.now is in (
      λ yes. ends.0 ((c.are_empty.ensures is.kept).0 yes),
      λ met. (c.are_empty.ensures is.kept).1 (ends.1 met),
    )
