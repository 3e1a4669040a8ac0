use Rattle.std.proofs.Common.{◌+◌, ◌<◌, ℕ, List, drop, get_or, refl, length, add-one}
use Rattle.std.proofs.Common.{drop-cons}
use Rattle.std.proofs.lemmas.List.{drop_all}
use Rattle.port_audit.specs.Dealing.{RowMap, AreKept, GrowsBy}
use Rattle.port_audit.specs.Kinds.{kinds_by}
use Rattle.port_audit.specs.declared.dealing.MessageKind.{MessageKind}
use Rattle.port_audit.specs.declared.kinds.KindAt.{KindAt}
use Rattle.port_audit.proofs.RowsOfOnePort.{IsGrowing, growing_begun, growing_on, growing_done}
use Rattle.port_audit.proofs.kinds.deal_kinds.Goals as goal

-- one more request
on : (port : ℕ) (rs : List KindAt) (i : ℕ) (d : KindAt) (old now new : RowMap MessageKind) →
    i < length rs → GrowsBy port (λ queue. kinds_by queue (get_or rs i d)) now new →
    (AreKept now → AreKept new) → IsGrowing port kinds_by rs (drop i rs) old now →
    IsGrowing port kinds_by rs (drop (i + 1) rs) old new
on port rs i d old now new within grows kept so_far =
    growing_on port kinds_by rs (drop i rs) (drop (i + 1) rs) (get_or rs i d) old now new
    (rw (add-one, drop-cons rs i d) refl) grows kept so_far

pub loop-request-init : goal.loop-request-init
loop-request-init c =
    growing_begun c.args.port kinds_by c.args.requests.now (drop 0 c.args.requests.now)
    c.args.rows.now refl

pub loop-request-preserved : goal.loop-request-preserved
loop-request-preserved c =
    on c.args.port c.args.requests.now c.loop-request.request-index _ c.args.rows.now
    c.loop-request.rows c.deal_kind.new.rows c.loop-request-test.true
    c.in_ok-deal_kind.ensures.grows c.in_ok-deal_kind.ensures.kept c.loop-request.invariant

pub returns-clause-grows : goal.returns-clause-grows
returns-clause-grows c =
    growing_done c.args.port kinds_by c.args.requests.now
    (drop c.loop-request.request-index c.args.requests.now) c.args.rows.now c.loop-request.rows
    (drop_all c.loop-request.request-index c.args.requests.now c.loop-request-test.false)
    c.loop-request.invariant

pub returns-clause-kept : goal.returns-clause-kept
returns-clause-kept c = c.loop-request.invariant.kept
