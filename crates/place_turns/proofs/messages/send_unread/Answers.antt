use Rattle.std.proofs.Common.{List, sym, subst}
use Rattle.histories.specs.declared.log.Did.{Did}
use Rattle.place_turns.specs.Timely.{AreTimelyOpen, port_with}
use Rattle.place_turns.proofs.LongerViews.{noted_open}
use Rattle.place_turns.proofs.messages.send_unread.Goals as goal

pub returns-in_err-errno-clause-timely : goal.returns-in_err-errno-clause-timely
returns-in_err-errno-clause-timely g c heard is =
    subst (λ (ds : List Did). AreTimelyOpen c.carry_out.new.passes.clock
    c.carry_out.new.passes.timed (port_with c.args.port ds heard)) (sym c.make_room.ensures.same)
    (c.in_err-errno.ensures.still (port_with c.args.port c.args.log.now.dids.items heard) is)

pub returns-in-Some-clause-timely : goal.returns-in-Some-clause-timely
returns-in-Some-clause-timely g c heard is =
    noted_open c.carry_out.new.passes.clock c.args.port c.carry_out.new.passes.timed
    c.args.log.now.dids.items c.make_room.new.self.dids.items c.send.new.self.dids.items
    c.next_call-call.result c.in_ok-words.words c.due.result heard c.make_room.ensures.same
    c.next_call-call.ensures c.send.ensures.noted
    (c.in_ok-errno.ensures.timely c.args.log.now.dids.items heard c.in_ok-words.words c.due.result
    is)

pub returns-in_default-clause-timely : goal.returns-in_default-clause-timely
returns-in_default-clause-timely g c heard is =
    noted_open c.carry_out.new.passes.clock c.args.port c.carry_out.new.passes.timed
    c.args.log.now.dids.items c.make_room.new.self.dids.items c.send.new.self.dids.items
    c.next_call-call.result c.in_ok-words.words c.due.result heard c.make_room.ensures.same
    c.next_call-call.ensures c.send.ensures.noted
    (c.in_ok-errno.ensures.timely c.args.log.now.dids.items heard c.in_ok-words.words c.due.result
    is)
