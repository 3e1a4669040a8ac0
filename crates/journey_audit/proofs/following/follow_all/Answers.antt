use Rattle.std.proofs.Common.{◌≡◌, [], true, rules}
use Rattle.queue_replay.specs.Underway.{begun, kept_there, underway_on, all_gone_over}
use Rattle.journey_audit.proofs.Entries.{AreFollowed, none_followed, followed_on}
use Rattle.journey_audit.proofs.Entries.{all_followed}
use Rattle.journey_audit.proofs.following.follow_all.Goals as goal

pub loop-entry-init : goal.loop-entry-init
loop-entry-init c =
    let tallies = c.args.tallies.now in
    begun (AreFollowed c.args.tables.now c.args.key c.new-replayed.result true tallies tallies)
    c.args.entries.now _ c.into_iter-entry-iterator.ensures.into_iter_gives
    (none_followed c.args.tables.now c.args.key c.new-replayed.result tallies c.args.entries.now
    c.new-replayed.ensures)

pub loop-entry-preserved : goal.loop-entry-preserved
loop-entry-preserved c =
    let tables = c.args.tables.now in
    let key = c.args.key in
    let old = c.args.tallies.now in
    let e = c.in-Some.entry.now in
    let u = c.loop-entry.invariant in
    let P = AreFollowed tables key c.loop-entry.replayed c.loop-entry.is_legal old
    c.loop-entry.tallies in
    let are = kept_there P c.args.entries.now c.loop-entry.entry-iterator c.next.new.self e
    c.in-Some.ensures.steps u in
    underway_on P c.args.entries.now c.loop-entry.entry-iterator c.next.new.self e
    c.in-Some.ensures.steps u
    (AreFollowed tables key c.replay.new.self c.stays_legal-is_legal.result old
    c.note.new.tallies)
    (followed_on tables key u.before c.next.new.self e c.loop-entry.replayed c.replay.new.self
    c.loop-entry.is_legal c.in_ok-is_step.is_step old c.loop-entry.tallies are
    (c.in_ok-is_step.ensures.replayed u.before are.replayed) c.in_ok-is_step.ensures.is
    c.stays_legal-is_legal.result c.note.new.tallies c.in_ok-leavers.leavers.items
    c.stays_legal-is_legal.ensures (c.an_entry_is_a_move.ensures u.before e)
    c.in_ok-leavers.ensures c.in_ok-note.ensures)

pub returns-clause-replayed : goal.returns-clause-replayed
returns-clause-replayed c =
    let none : c.loop-entry.entry-iterator ≡ [] = search rules in
    (all_gone_over (AreFollowed c.args.tables.now c.args.key c.loop-entry.replayed
    c.loop-entry.is_legal c.args.tallies.now c.loop-entry.tallies) c.args.entries.now
    c.loop-entry.entry-iterator none c.loop-entry.invariant).replayed

pub returns-clause-grows : goal.returns-clause-grows
returns-clause-grows c =
    let none : c.loop-entry.entry-iterator ≡ [] = search rules in
    all_followed c.args.tables.now c.args.key c.loop-entry.replayed c.loop-entry.is_legal
    c.args.tallies.now c.loop-entry.tallies c.args.entries.now
    (all_gone_over (AreFollowed c.args.tables.now c.args.key c.loop-entry.replayed
    c.loop-entry.is_legal c.args.tallies.now c.loop-entry.tallies) c.args.entries.now
    c.loop-entry.entry-iterator none c.loop-entry.invariant)
