use Rattle.std.proofs.Common.{◌≡◌, [], Some, None, sym, ap, ◌∙◌, rules, true≢false}
use Rattle.port_audit.specs.Kinds.{kind_of}
use Rattle.port_audit.specs.Ranking.{early_at, late_at, ranks_then}
use Rattle.port_audit.proofs.OrderWalk.{judged, none_cannot, sequenced_breaks, sequenced_on}
use Rattle.port_audit.proofs.OrderWalk.{sequenced_done}
use Rattle.port_audit.proofs.order.are_in_order.Goals as goal

pub returns-in_default : goal.returns-in_default
returns-in_default c kept =
    let ports = c.args.ports.now in
    let e = c.in-Some.entry.now in
    let early = early_at c.loop-entry.ranks e.queue in
    let late = late_at c.loop-entry.ranks e.queue in (
      λ h. absurd (true≢false (sym h)),
      λ all. absurd (sequenced_breaks ports c.args.rows c.args.entries.now
          c.loop-entry.entry-iterator c.next.new.self e c.loop-entry.ranks c.loop-entry.rows
          c.in-Some.ensures.steps (c.loop-entry.invariant kept) c.is_queue_number.ensures
          (none_cannot ports early late e c.loop-entry.rows c.kind_of_next.new.rows
          c.in_default.ensures) all),
    )

pub returns-in_default-ranks_then : goal.returns-in_default-ranks_then
returns-in_default-ranks_then c kept =
    let ports = c.args.ports.now in
    let e = c.in-Some.entry.now in
    let kind = kind_of c.in-Some-kind_of_next.kind in
    let early = early_at c.loop-entry.ranks e.queue in
    let late = late_at c.loop-entry.ranks e.queue in
    let none : ranks_then ports early late kind e.event ≡ None =
    ap (λ n. ranks_then ports n late kind e.event) (sym c.ranks_at-low.ensures.early)
    ∙ ap (λ n. ranks_then ports c.ranks_at-low.result.early n kind e.event)
    (sym c.ranks_at-low.ensures.late)
    ∙ sym c.in_default-ranks_then.ensures in
    let is = judged ports early late e c.loop-entry.rows c.kind_of_next.new.rows
    c.in-Some-kind_of_next.kind c.in-Some-kind_of_next.ensures in (
      λ h. absurd (true≢false (sym h)),
      λ all. absurd (sequenced_breaks ports c.args.rows c.args.entries.now
          c.loop-entry.entry-iterator c.next.new.self e c.loop-entry.ranks c.loop-entry.rows
          c.in-Some.ensures.steps (c.loop-entry.invariant kept) c.is_queue_number.ensures
          (is.cannot none) all),
    )

pub loop-entry-preserved : goal.loop-entry-preserved
loop-entry-preserved c kept =
    let ports = c.args.ports.now in
    let e = c.in-Some.entry.now in
    let kind = kind_of c.in-Some-kind_of_next.kind in
    let early = early_at c.loop-entry.ranks e.queue in
    let late = late_at c.loop-entry.ranks e.queue in
    let next : ranks_then ports early late kind e.event ≡ Some c.in-Some-ranks_then.next =
    ap (λ n. ranks_then ports n late kind e.event) (sym c.ranks_at-low.ensures.early)
    ∙ ap (λ n. ranks_then ports c.ranks_at-low.result.early n kind e.event)
    (sym c.ranks_at-low.ensures.late)
    ∙ sym c.in-Some-ranks_then.ensures in
    let is = judged ports early late e c.loop-entry.rows c.kind_of_next.new.rows
    c.in-Some-kind_of_next.kind c.in-Some-kind_of_next.ensures in
    sequenced_on ports c.args.rows c.args.entries.now c.loop-entry.entry-iterator c.next.new.self e
    c.loop-entry.ranks c.loop-entry.rows c.in-Some.ensures.steps (c.loop-entry.invariant kept)
    c.in-Some-ranks_then.next c.kind_of_next.new.rows c.put_ranks.new.ranks
    (is.goes c.in-Some-ranks_then.next next) c.in_ok-put_ranks.ensures.own
    c.in_ok-put_ranks.ensures.others is.others is.kept

pub returns : goal.returns
returns c kept =
    let none : c.loop-entry.entry-iterator ≡ [] = search rules in
    let u = c.loop-entry.invariant kept in
    let ends = sequenced_done c.args.ports.now c.args.rows c.args.entries.now
    c.loop-entry.entry-iterator c.loop-entry.ranks c.loop-entry.rows none u in
    let left = c.is_none_left.ensures u.kept in
    (λ yes. ends.0 (left.0 yes), λ all. left.1 (ends.1 all))
