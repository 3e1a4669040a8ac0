use Rattle.std.proofs.Common.{◌≡◌, [], List, ap, subst, sym, rules}
use Rattle.std.specs.BTreeMap.{is_at}
use Rattle.std.specs.Map.{lookup}
use Rattle.nfqa_msgs.specs.declared.notice.Notice.{Notice}
use Rattle.histories.specs.History.{history, replay}
use Rattle.queue_replay.specs.Replays.{AreFound}
use Rattle.queue_replay.specs.Underway.{WithFound, begun, found_is_some, holds_there, found_there}
use Rattle.queue_replay.specs.Underway.{found_on, all_gone_over}
use Rattle.log_audit.specs.Stays.{stay_cmp}
use Rattle.log_audit.specs.declared.notices.Stay.{Stay}
use Rattle.log_audit.proofs.NoticeStore.{AreKeptSoFar, kept_all, kept_begun, kept_on}
use Rattle.log_audit.proofs.notices.notices_in.Goals as goal

pub loop-entry-init : goal.loop-entry-init
loop-entry-init c =
    let entries = c.args.entries.now in
    begun (WithFound c.iter-found.result (AreKeptSoFar entries c.new-notices.result)) entries _
    c.into_iter-entry-iterator.ensures.into_iter_gives (
      subst (AreFound [] entries) (sym c.iter-found.ensures) c.requires.found,
      (
        kept_begun entries c.new-notices.result
            (λ s. ap (λ (es : List (Stay × Notice)). lookup (is_at (stay_cmp s)) es)
            c.new-notices.ensures.empty),
        c.requires.packets,
      ),
    )

pub next_found-here-requires : goal.next_found-here-requires
next_found-here-requires c =
    found_is_some c.loop-entry.found (AreKeptSoFar c.args.entries.now c.loop-entry.notices)
    c.args.entries.now c.loop-entry.entry-iterator c.next.new.self c.in-Some.entry.now
    c.in-Some.ensures.steps c.loop-entry.invariant

pub keep-requires-clause-packets : goal.keep-requires-clause-packets
keep-requires-clause-packets c =
    (holds_there c.loop-entry.found (AreKeptSoFar c.args.entries.now c.loop-entry.notices)
    c.args.entries.now c.loop-entry.entry-iterator c.next.new.self c.in-Some.entry.now
    c.in-Some.ensures.steps c.loop-entry.invariant).1.0

pub keep-requires-clause-fits : goal.keep-requires-clause-fits
keep-requires-clause-fits c =
    (found_there c.loop-entry.found (AreKeptSoFar c.args.entries.now c.loop-entry.notices)
    c.args.entries.now c.loop-entry.entry-iterator c.next.new.self c.in-Some.entry.now
    c.in-Some.ensures.steps c.loop-entry.invariant c.next_found-here.new.found
    c.next_found-here.result c.next_found-here.ensures).fits

pub loop-entry-preserved : goal.loop-entry-preserved
loop-entry-preserved c =
    let entries = c.args.entries.now in
    let e = c.in-Some.entry.now in
    let before = c.loop-entry.invariant.before in
    found_on c.loop-entry.found (AreKeptSoFar entries c.loop-entry.notices) entries
    c.loop-entry.entry-iterator c.next.new.self e c.in-Some.ensures.steps c.loop-entry.invariant
    c.next_found-here.new.found c.next_found-here.result c.next_found-here.ensures
    (AreKeptSoFar entries c.keep.new.notices)
    (λ here kept. (
      kept_on entries before c.next.new.self e c.loop-entry.notices c.keep.new.notices
          (c.in_ok-keep.ensures (replay (history e.queue before)) here.port here.told) kept.0,
      kept.1.1,
    ))

pub returns : goal.returns
returns c =
    let none : c.loop-entry.entry-iterator ≡ [] = search rules in
    let entries = c.args.entries.now in
    kept_all entries c.loop-entry.notices
    (all_gone_over (WithFound c.loop-entry.found (AreKeptSoFar entries c.loop-entry.notices))
    entries c.loop-entry.entry-iterator none c.loop-entry.invariant).1.0
