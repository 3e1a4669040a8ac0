use Rattle.std.proofs.Common.{◌≡◌, ℕ, List, [], ap, subst, sym, rules}
use Rattle.std.specs.BTreeMap.{is_at}
use Rattle.std.specs.Map.{lookup}
use Rattle.std.specs.Ordering.{nat_cmp}
use Rattle.histories.specs.History.{AreLegal, history, replay}
use Rattle.queue_replay.specs.Replays.{AreFound}
use Rattle.histories.specs.QueueHistories.{step_at}
use Rattle.queue_replay.specs.Underway.{WithFound, begun, there, found_is_some, found_on}
use Rattle.queue_replay.specs.Underway.{all_gone_over}
use Rattle.feeder_audit.specs.declared.fed.Fed.{Fed}
use Rattle.feeder_audit.proofs.Queues.{AreGoing, none_gone, going_on, all_gone}
use Rattle.feeder_audit.proofs.feeding.follow_all.Goals as goal

pub loop-entry-init : goal.loop-entry-init
loop-entry-init c =
    let downs = c.args.downs.now in
    let entries = c.args.entries.now in
    let feds = c.new-feds.result in
    begun (WithFound c.iter-found.result (AreGoing downs entries feds)) entries _
    c.into_iter-entry-iterator.ensures.into_iter_gives (
      subst (AreFound [] entries) (sym c.iter-found.ensures) c.requires.found,
      none_gone downs entries feds
          (λ queue. ap (λ (es : List (ℕ × Fed)). lookup (is_at (nat_cmp queue)) es)
          c.new-feds.ensures.empty),
    )

pub next_found-here-requires : goal.next_found-here-requires
next_found-here-requires c =
    found_is_some c.loop-entry.found
    (AreGoing c.args.downs.now c.args.entries.now c.loop-entry.feds) c.args.entries.now
    c.loop-entry.entry-iterator c.next.new.self c.in-Some.entry.now c.in-Some.ensures.steps
    c.loop-entry.invariant

pub follow-requires-clause-kept : goal.follow-requires-clause-kept
follow-requires-clause-kept c = c.loop-entry.invariant.kept.1.kept c.in-Some.entry.now.queue

pub loop-entry-preserved : goal.loop-entry-preserved
loop-entry-preserved c =
    let downs = c.args.downs.now in
    let entries = c.args.entries.now in
    let e = c.in-Some.entry.now in
    let others = c.next.new.self in
    let before = c.loop-entry.invariant.before in
    let P = AreGoing downs entries c.loop-entry.feds in
    let is = step_at before others e (subst AreLegal
    (there (WithFound c.loop-entry.found P) entries c.loop-entry.entry-iterator others e
    c.in-Some.ensures.steps c.loop-entry.invariant) c.requires.legal) in
    found_on c.loop-entry.found P entries c.loop-entry.entry-iterator others e
    c.in-Some.ensures.steps c.loop-entry.invariant c.next_found-here.new.found
    c.next_found-here.result c.next_found-here.ensures (AreGoing downs entries c.follow.new.feds)
    (λ here going. going_on downs entries before others e c.loop-entry.feds c.follow.new.feds going
    (c.in_ok-follow.ensures (replay (history e.queue before)) here.port is)
    c.number_is_short.ensures)

pub returns : goal.returns
returns c =
    let none : c.loop-entry.entry-iterator ≡ [] = search rules in
    let P = AreGoing c.args.downs.now c.args.entries.now c.loop-entry.feds in
    all_gone c.args.downs.now c.args.entries.now c.loop-entry.feds
    (all_gone_over (WithFound c.loop-entry.found P) c.args.entries.now c.loop-entry.entry-iterator
    none c.loop-entry.invariant).1
