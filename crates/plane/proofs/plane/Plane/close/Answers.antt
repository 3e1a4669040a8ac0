use Rattle.std.proofs.Common.{◌≤◌, ◌∙◌, ◌++◌, List, sym, ap, subst, map}
use Rattle.mailbox.specs.Roles.{AreDistinct}
use Rattle.place_rows.specs.Hearing as row
use Rattle.place_rows.specs.Lists.{Every}
use Rattle.place_rows.specs.Rows.{label_at}
use Rattle.place_rows.specs.declared.ending.PortReceiver.{PortReceiver}
use Rattle.plane.specs.Closings.{feeder_holds, port_holds}
use Rattle.plane.specs.Passes.{IsPortOf, PortView}
use Rattle.plane.specs.Planes.{order_of, setting_of}
use Rattle.plane.specs.Remaining.{log_in}
use Rattle.plane.proofs.ClosedOrder.{closed_order}
use Rattle.plane.proofs.PlaneEnd.{balanced_all, closed_logs, closed_so, every_both, mailboxes_all}
use Rattle.plane.proofs.PlaneEnd.{rows_joined}
use Rattle.plane.proofs.plane.Plane.close.Goals as goal

pub close_all-requires-clause-row : goal.close_all-requires-clause-row
close_all-requires-clause-row c =
    (label_at c.args.self.shared.outlets, c.join_all-row.ensures.joined.passes)

pub close_all-requires-clause-whole : goal.close_all-requires-clause-whole
close_all-requires-clause-whole c = c.join_all-row.ensures.joined.whole

pub end_rows-requires-clause-row : goal.end_rows-requires-clause-row
end_rows-requires-clause-row c = c.join_all-row.ensures.joined.passes

pub end_rows-requires-clause-whole : goal.end_rows-requires-clause-whole
end_rows-requires-clause-whole c = c.join_all-row.ensures.joined.whole

pub end_rows-requires-clause-mailboxes : goal.end_rows-requires-clause-mailboxes
end_rows-requires-clause-mailboxes c =
    let left = rw c.in-Some.is at c.join_all-row.ensures.left in
    subst (Every (row.HasMailbox c.args.self.shared.outlets.mailboxes)) (sym left.receivers)
    (mailboxes_all c.args.self (c.args.ports ++ c.args.closed)
    (every_both (IsPortOf c.args.self) c.args.ports c.args.closed c.requires.ports
    c.requires.closed))

pub end_rows-requires-clause-apart : goal.end_rows-requires-clause-apart
end_rows-requires-clause-apart c =
    let left = rw c.in-Some.is at c.join_all-row.ensures.left in
    λ port. subst (λ (rs : List PortReceiver). row.times_in port rs ≤ 1) (sym left.receivers)
    (c.requires.apart port)

pub in_order-requires : goal.in_order-requires
in_order-requires c = record {
  distinct = subst AreDistinct (sym c.deref.ensures.value) c.args.self.apart;
}

pub returns-clause-closed : goal.returns-clause-closed
returns-clause-closed c =
    let ps : List PortView = c.args.ports ++ c.args.closed in
    let each =
    every_both (IsPortOf c.args.self) c.args.ports c.args.closed c.requires.ports
    c.requires.closed in
    let r = c.in-Some.field-0 in
    let left = rw c.in-Some.is at c.join_all-row.ensures.left in
    closed_so c.args.self c.args.feeder ps r _ _ _ left
    (c.in_ok-entries.ensures.entries (setting_of c.args.self) (feeder_holds c.args.feeder)
    (map port_holds ps) (balanced_all c.args.self c.args.feeder ps c.requires.feeder each)
    (rows_joined ps c.args.feeder.trail.known _ c.join_all-row.ensures.joined.joined))
    (c.in_ok-in_order.ensures ∙ ap (map (log_in r.logs.items)) c.deref.ensures.value)
    c.into_sequence.ensures

pub returns-clause-order : goal.returns-clause-order
returns-clause-order c =
    let ps : List PortView = c.args.ports ++ c.args.closed in
    let t = c.join_all-row.ensures.timely in
    let r = c.in-Some.field-0 in
    let left = rw c.in-Some.is at c.join_all-row.ensures.left in
    closed_order c.args.self c.args.feeder c.requires.feeder
    c.timed_lists_have_one_order.ensures ps _ r.receivers.items _ t
    (every_both (IsPortOf c.args.self) c.args.ports c.args.closed c.requires.ports
    c.requires.closed) c.requires.apart left.receivers
    (c.in_ok-entries.ensures.timed t.first _ t.joined)
    (closed_logs ps (order_of c.args.self) r.logs.items _ left.logs
    (c.in_ok-in_order.ensures ∙ ap (map (log_in r.logs.items)) c.deref.ensures.value))
