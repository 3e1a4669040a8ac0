use Rattle.nfq_live.proofs.WorkerSeats.{both_true, is_not_true, went_back}
use Rattle.nfq_live.proofs.crew.Crew.leave_seats.Goals as goal

pub returns-clause-passes : goal.returns-clause-passes
returns-clause-passes c =
    went_back c.unseat_all-well.new.ports.items c.args.ports.items _ c.requires.no_ports
    c.unseat_all-well.ensures.passes

pub returns-clause-minds : goal.returns-clause-minds
returns-clause-minds c =
    went_back c.unseat_all-well.new.minds.items c.args.minds.items _ c.requires.no_minds
    c.unseat_all-well.ensures.minds

pub returns-clause-went_well : goal.returns-clause-went_well
returns-clause-went_well c = λ well.
    c.unseat_all-well.ensures.went_well (both_true c.unseat_all-well.result _ well).0

pub returns-clause-fed_well : goal.returns-clause-fed_well
returns-clause-fed_well c = λ well.
    is_not_true _ (both_true c.unseat_all-well.result _ well).1
