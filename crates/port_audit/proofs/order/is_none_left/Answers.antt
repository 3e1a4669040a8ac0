use Rattle.std.proofs.Common.{sym, true≢false}
use Rattle.port_audit.proofs.OrderWalk.{row_left}
use Rattle.port_audit.proofs.order.is_none_left.Goals as goal

pub returns-in-Some : goal.returns-in-Some
returns-in-Some c kept =
    let s = c.in-Some.side.now in (
      λ h. absurd (true≢false (sym h)),
      λ left. absurd (row_left c.args.rows.now s c.in-Some.field-0-1.now kept
          c.in-Some.ensures.value (left s.port s.queue c.is_queue_number.ensures)),
    )
