use Rattle.std.proofs.Common.{length}
use Rattle.journal_audit.specs.declared.part.Part.TheVariants.{Requests, Notices, Closings, Room}
use Rattle.journal_audit.proofs.PartAnswers.{exact, judged}
use Rattle.journal_audit.proofs.parts.holds.Goals as goal

pub returns-in-Requests : goal.returns-in-Requests
returns-in-Requests c =
    let laws = c.logs_tell_what_ports_did.ensures in
    judged c.args.script.now (length c.args.capture.now.frames) c.args.histories.now
    c.args.walked c.args.part Requests c.in-Requests.is (λ same. cc) c.are_requests.result
    c.are_requests.ensures
    (λ answer is once ns logs. is ns (laws.told _ _ ns logs)
    (laws.words _ _ ns c.ports-ports.ensures.facts logs))

pub returns-in-Notices : goal.returns-in-Notices
returns-in-Notices c =
    let laws = c.logs_tell_what_ports_did.ensures in
    judged c.args.script.now (length c.args.capture.now.frames) c.args.histories.now
    c.args.walked c.args.part Notices c.in-Notices.is (λ same. cc) c.are_notices.result
    c.are_notices.ensures
    (λ answer is once ns logs.
    exact (is ns (laws.told _ _ ns logs) (laws.notices _ _ ns once logs)))

pub returns-in-Closings : goal.returns-in-Closings
returns-in-Closings c =
    judged c.args.script.now (length c.args.capture.now.frames) c.args.histories.now
    c.args.walked c.args.part Closings c.in-Closings.is (λ same. cc) c.are_closings.result
    c.are_closings.ensures
    (λ answer is once ns logs.
    exact (is ns (c.logs_tell_what_ports_did.ensures.told _ _ ns logs)))

pub returns-in-Room : goal.returns-in-Room
returns-in-Room c =
    judged c.args.script.now (length c.args.capture.now.frames) c.args.histories.now
    c.args.walked c.args.part Room c.in-Room.is (λ same. cc) c.are_roomy.result
    c.are_roomy.ensures
    (λ answer is once ns logs.
    exact (is ns (c.logs_tell_what_ports_did.ensures.told _ _ ns logs)))
