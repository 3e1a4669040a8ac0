use Rattle.std.proofs.Common.{subst}
use Rattle.log_audit.specs.Judged.{IsJudgement}
use Rattle.log_audit.specs.declared.judging.Judged.{Judged}
use Rattle.journal_audit.proofs.PartAnswers.{given_amiss, given_said}
use Rattle.journal_audit.proofs.makers.walk_logs.Goals as goal

pub returns-in_ok-order-in-Said : goal.returns-in_ok-order-in-Said
returns-in_ok-order-in-Said c =
    let script = c.args.script.now in
    let h = c.args.histories.now in
    let Judgement : Judged → Type 0 = λ j. IsJudgement script h j in
    given_said script h c.in-Said.kinds c.requires.once
    (subst Judgement c.in-Said.is (c.in_ok-kinds.ensures
    (c.one_arrival_makes_one_notice.ensures h.entries c.requires.once)))
    c.in_ok-order-in-Said.order c.in_ok-order-in-Said.ensures

pub returns-in-Amiss : goal.returns-in-Amiss
returns-in-Amiss c =
    let script = c.args.script.now in
    let h = c.args.histories.now in
    let Judgement : Judged → Type 0 = λ j. IsJudgement script h j in
    given_amiss script h c.requires.once
    (subst Judgement c.in-Amiss.is (c.in_ok-kinds.ensures
    (c.one_arrival_makes_one_notice.ensures h.entries c.requires.once)))

pub unreachable-requires : goal.unreachable-requires
unreachable-requires c =
    let script = c.args.script.now in
    let h = c.args.histories.now in
    let Judgement : Judged → Type 0 = λ j. IsJudgement script h j in
    subst Judgement c.in-Foreign.is (c.in_ok-kinds.ensures
    (c.one_arrival_makes_one_notice.ensures h.entries c.requires.once)) c.requires.packets
