use Rattle.std.proofs.Common.{◌≡◌, ℕ, List, [], sym, ap, ◌∙◌, subst, rules, true≢false}
use Rattle.std.specs.BTreeMap.{is_at}
use Rattle.std.specs.Map.{lookup}
use Rattle.std.specs.Ordering.{nat_cmp}
use Rattle.std.specs.Prelude.{Vec}
use Rattle.std.specs.declared.alloc.Global.{Global}
use Rattle.histories.specs.declared.entry.Entry.{Entry}
use Rattle.queue_replay.specs.Underway.{begun, there, underway_on, all_gone_over}
use Rattle.port_audit.specs.Closing.{AllShut}
use Rattle.port_audit.proofs.ClosedPorts.{AreShutting, none_shut, shutting_on, shutting_breaks}
use Rattle.port_audit.proofs.ClosedPorts.{all_shut_if, ends_well_if}
use Rattle.port_audit.proofs.closing.are_shut.Goals as goal

pub loop-entry-init : goal.loop-entry-init
loop-entry-init c =
    begun (λ before rest. AreShutting c.args.ports.now c.args.closed.now c.new-shut.result before)
    c.args.entries.now _ c.into_iter-entry-iterator.ensures.into_iter_gives
    (none_shut c.args.ports.now c.args.closed.now c.new-shut.result
    (λ queue. ap (λ (es : List (ℕ × Vec ℕ Global)). lookup (is_at (nat_cmp queue)) es)
    c.new-shut.ensures.empty))

pub returns-then-breaks : goal.returns-then-breaks
returns-then-breaks c =
    let ports = c.args.ports.now in
    let closed = c.args.closed.now in
    let e = c.in-Some.entry.now in
    let u = c.loop-entry.invariant in
    let P : List Entry → List Entry → Type 0 =
    λ before rest. AreShutting ports closed c.loop-entry.shut before in (
      λ h. absurd (true≢false (sym h)),
      λ all. absurd (shutting_breaks ports closed c.loop-entry.shut c.loop-entry.shut u.before e
          u.kept c.next.new.self c.is_queue_number.ensures
          (sym c.breaks.ensures ∙ c.if-breaks.true)
          (subst (AllShut ports closed) (there P c.args.entries.now c.loop-entry.entry-iterator
          c.next.new.self e c.in-Some.ensures.steps u) all)),
    )

pub loop-entry-preserved : goal.loop-entry-preserved
loop-entry-preserved c =
    let ports = c.args.ports.now in
    let closed = c.args.closed.now in
    let e = c.in-Some.entry.now in
    let u = c.loop-entry.invariant in
    underway_on (λ before rest. AreShutting ports closed c.loop-entry.shut before)
    c.args.entries.now c.loop-entry.entry-iterator c.next.new.self e c.in-Some.ensures.steps u
    (λ before rest. AreShutting ports closed c.note.new.shut before)
    (shutting_on ports closed c.loop-entry.shut c.note.new.shut u.before e u.kept
    (sym c.breaks.ensures ∙ c.if-breaks.false) c.in_ok-note.ensures)

pub returns : goal.returns
returns c =
    let ports = c.args.ports.now in
    let closed = c.args.closed.now in
    let none : c.loop-entry.entry-iterator ≡ [] = search rules in
    let are = all_gone_over (λ before rest. AreShutting ports closed c.loop-entry.shut before)
    c.args.entries.now c.loop-entry.entry-iterator none c.loop-entry.invariant in (
      λ yes. all_shut_if ports closed c.loop-entry.shut c.args.entries.now c.args.queues.now are
          c.requires (c.all_end_well.ensures.0 yes),
      λ all. c.all_end_well.ensures.1 (ends_well_if ports closed c.loop-entry.shut
          c.args.entries.now c.args.queues.now are c.requires all),
    )
