use Rattle.std.proofs.Common.{◌≡◌, ℕ, List, [], ◌∷◌, None, ap, subst, sym, rules}
use Rattle.std.specs.BTreeMap.{is_at}
use Rattle.std.specs.Ordering.{nat_cmp}
use Rattle.std.specs.Map.{lookup}
use Rattle.queue_replay.specs.Replays.{AreFound}
use Rattle.queue_replay.specs.Underway.{WithFound, begun, found_is_some, found_on, all_gone_over}
use Rattle.journal_audit.specs.declared.watched.Watched.{Watched}
use Rattle.journal_audit.proofs.EntryWalk.{AreWatching, none_watched, watching_on}
use Rattle.journal_audit.proofs.first_illegal.first_in.Goals as goal

pub loop-entry-init : goal.loop-entry-init
loop-entry-init c =
    let entries = c.args.entries.now in
    begun (WithFound c.iter-found.result (AreWatching c.new-queues.result None)) entries _
    c.into_iter-entry-iterator.ensures.into_iter_gives (
      subst (AreFound [] entries) (sym c.iter-found.ensures) c.requires,
      none_watched entries c.new-queues.result
          (λ queue. ap (λ (es : List (ℕ × Watched)). lookup (is_at (nat_cmp queue)) es)
          c.new-queues.ensures.empty),
    )

pub next_found-here-requires : goal.next_found-here-requires
next_found-here-requires c =
    found_is_some c.loop-entry.found (AreWatching c.loop-entry.queues c.loop-entry.first)
    c.args.entries.now c.loop-entry.entry-iterator c.next.new.self c.in-Some.entry.now
    c.in-Some.ensures.steps c.loop-entry.invariant

pub loop-entry-preserved : goal.loop-entry-preserved
loop-entry-preserved c =
    let e = c.in-Some.entry.now in
    found_on c.loop-entry.found (AreWatching c.loop-entry.queues c.loop-entry.first)
    c.args.entries.now c.loop-entry.entry-iterator c.next.new.self e c.in-Some.ensures.steps
    c.loop-entry.invariant c.next_found-here.new.found c.next_found-here.result
    c.next_found-here.ensures (AreWatching c.watch.new.queues c.sooner-first.result)
    (λ here watching. watching_on c.loop-entry.invariant.before (e ∷ c.next.new.self) e
    c.next_found-here.result.is_step here.step c.next.new.self c.loop-entry.queues
    c.watch.new.queues c.loop-entry.first c.sooner-first.result c.in_ok-at.at watching
    c.in_ok-at.ensures.queues c.in_ok-at.ensures.found c.sooner-first.ensures)

pub returns : goal.returns
returns c =
    let none : c.loop-entry.entry-iterator ≡ [] = search rules in
    (all_gone_over (WithFound c.loop-entry.found (AreWatching c.loop-entry.queues
    c.loop-entry.first)) c.args.entries.now c.loop-entry.entry-iterator none
    c.loop-entry.invariant).1.first_is
