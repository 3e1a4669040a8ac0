use Rattle.std.proofs.Common.{refl, sym, ap, length}
use Rattle.histories.specs.Happenings.{closings}
use Rattle.locked_place.specs.Views.{senders_of}
use Rattle.locked_place.proofs.PlaceInvariant.{quiet_goes_on, stamps_all}
use Rattle.locked_place.proofs.place.LockedPlace.close_port.Goals as goal

pub invariant_of-self : goal.invariant_of-self
invariant_of-self c =
    let at = c.self.inside in
    let senders = senders_of at.senders in
    let es = at.place.entries in
    let fs = closings c.args.port es in
    let state = c.close_port-destroyed.ensures.state in
    quiet_goes_on at.place senders at.writer at.stamps at.latest c.self.invariant
    c.close_port-destroyed.new.self c.publish.new.writer c.stamp_new.new.stamps fs state
    (c.stamp_new.ensures es fs (sym (ap length c.entries-before.ensures.value))
    (ap (λ p. p.entries) state))
    (c.senders_keep_up.ensures.closed es c.args.port senders c.self.invariant.notified)
    c.publish.ensures.writer.1 c.publish.ensures.shown
    (c.mails_keep_up.ensures.closed es c.args.port at.latest senders)

pub returns-clause-stamped : goal.returns-clause-stamped
returns-clause-stamped c =
    rw (← c.self.view_is)
    (stamps_all _ _ _ _ c.stamp_new.ensures (ap length c.entries-before.ensures.value)
    (ap (λ p. p.entries) c.close_port-destroyed.ensures.state) refl)
