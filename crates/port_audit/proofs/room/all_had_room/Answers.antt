use Rattle.std.proofs.Common.{◌≡◌, [], refl, sym, ◌∙◌, subst, rules, true≢false}
use Rattle.queue_replay.specs.Replays.{AreFound}
use Rattle.queue_replay.specs.Underway.{WithFound, begun, found_is_some, all_gone_over}
use Rattle.port_audit.proofs.HeardNotices.{NoneSoFar, room_here, no_room_here}
use Rattle.port_audit.proofs.room.all_had_room.Goals as goal

pub loop-entry-init : goal.loop-entry-init
loop-entry-init c =
    begun (WithFound c.iter-found.result (NoneSoFar c.args.few.now)) c.args.entries.now _
    c.into_iter-entry-iterator.ensures.into_iter_gives (
      subst (AreFound [] c.args.entries.now) (sym c.iter-found.ensures) c.requires,
      λ p among queue. refl,
    )

pub next_found-here-requires : goal.next_found-here-requires
next_found-here-requires c =
    found_is_some c.loop-entry.found (NoneSoFar c.args.few.now) c.args.entries.now
    c.loop-entry.entry-iterator c.next.new.self c.in-Some.entry.now c.in-Some.ensures.steps
    c.loop-entry.invariant

pub returns-then-lacks_at : goal.returns-then-lacks_at
returns-then-lacks_at c = (
  λ h. absurd (true≢false (sym h)),
  λ none. absurd (no_room_here c.args.few.now c.loop-entry.found c.next_found-here.new.found
      c.args.entries.now c.loop-entry.entry-iterator c.next.new.self c.in-Some.entry.now
      c.next_found-here.result c.in-Some.ensures.steps c.next_found-here.ensures
      c.loop-entry.invariant (sym c.lacks_at.ensures ∙ c.if-lacks_at.true) none),
)

pub loop-entry-preserved : goal.loop-entry-preserved
loop-entry-preserved c =
    room_here c.args.few.now c.loop-entry.found c.next_found-here.new.found c.args.entries.now
    c.loop-entry.entry-iterator c.next.new.self c.in-Some.entry.now c.next_found-here.result
    c.in-Some.ensures.steps c.next_found-here.ensures c.loop-entry.invariant
    (sym c.lacks_at.ensures ∙ c.if-lacks_at.false)

pub returns : goal.returns
returns c =
    let none : c.loop-entry.entry-iterator ≡ [] = search rules in
    let none_lacks = (all_gone_over (WithFound c.loop-entry.found (NoneSoFar c.args.few.now))
    c.args.entries.now c.loop-entry.entry-iterator none c.loop-entry.invariant).1 in
    (λ yes. none_lacks, λ none_lacks. refl)
