use Rattle.std.proofs.Common.{◌≡◌, ap, arith, subst, ◌∙◌}
use Rattle.fate_ledger.specs.Following.{Kept, noted}
use Rattle.fate_ledger.proofs.LastEventTable.{noted_earlier, noted_later}
use Rattle.fate_ledger.proofs.last_lines.LastLines.note.Goals as goal

pub returns-then-index-visit : goal.returns-then-index-visit
returns-then-index-visit c =
    noted_later c.args.happening c.number-number.result c.index.result.now c.visit-visit.result
    c.self.inside.visits.items c.bytes.result c.self.inside.payloads.items
    c.self.inside.lines.items c.index_mut-then-index-visit-2.result.now c.tell.new.line
    c.number-number.ensures (omega (arith, c.if-number-eq0.false))
    (omega (arith, c.if-number-len.false, c.len.ensures)) c.self.invariant c.index.ensures
    c.if-index-visit.true c.visit-visit.ensures c.bytes.ensures
    c.index_mut-then-index-visit-2.ensures.value c.tell.ensures
    ∙ ap (noted c.args.happening) c.self.view_is

pub returns-else-index-visit : goal.returns-else-index-visit
returns-else-index-visit c =
    subst (λ (k : Kept). k ≡ noted c.args.happening k) c.self.view_is
    (noted_earlier c.args.happening c.number-number.result c.index.result.now
    c.self.inside.visits.items c.self.inside.payloads.items c.self.inside.lines.items
    c.number-number.ensures (omega (arith, c.if-number-eq0.false))
    (omega (arith, c.if-number-len.false, c.len.ensures)) c.index.ensures
    (omega (arith, c.if-index-visit.false, c.visit-visit.ensures)))
