use Rattle.plane.proofs.PassMeetings.{Laws, meet_so}
use Rattle.plane.proofs.plane.Plane.meet.Goals as goal

pub returns-clause-met : goal.returns-clause-met
returns-clause-met c =
    let laws : Laws =
    record {
      begins = c.rows_meet_by_the_first.ensures.begins;
      turns = c.rows_meet_by_the_first.ensures.turns;
      met = c.rows_meet_by_the_first.ensures.met;
    } in
    meet_so laws c.args.self.now c.args.feeder.now c.tell_each.new.feeder
    c.tell_each-2.new.feeder c.tell_each-3.new.feeder c.tell_each-4.new.feeder
    c.args.ports.now c.tell_each.new.ports c.tell_each-3.new.ports c.args.closed.now
    c.tell_each-2.new.ports c.tell_each-4.new.ports c.requires.feeder c.requires.ports
    c.requires.closed c.tell_each.ensures.same c.tell_each-2.ensures.same
    c.tell_each-3.ensures.same c.tell_each-4.ensures.same c.tell_each.ensures.told
    c.tell_each-2.ensures.told c.tell_each-3.ensures.told c.tell_each-4.ensures.told
