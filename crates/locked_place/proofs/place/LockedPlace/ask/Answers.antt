use Rattle.std.proofs.Common.{refl, sym, ap, length}
use Rattle.locked_place.specs.Views.{locked_of, senders_of}
use Rattle.locked_place.proofs.Labels.{same_label}
use Rattle.locked_place.proofs.PlaceInvariant.{goes_on, stamps_all}
use Rattle.locked_place.proofs.place.LockedPlace.ask.Goals as goal

pub returns-clause-label : goal.returns-clause-label
returns-clause-label c =
    rw (← c.self.view_is)
    (same_label
    (locked_of c.self.inside.place c.self.inside.senders c.self.inside.writer
    c.self.inside.stamps c.self.inside.latest)
    (locked_of c.ask-asked.new.place c.self.inside.senders c.publish.new.writer
    c.stamp_new.new.stamps c.self.inside.latest)
    c.ask-asked.ensures.number.0 c.ask-asked.ensures.number.1
    refl c.publish.ensures.writer.0 c.publish.ensures.writer.1)

pub invariant_of-self : goal.invariant_of-self
invariant_of-self c =
    let at = c.self.inside in
    let did = c.ask-asked.ensures in
    let senders = senders_of at.senders in
    goes_on at.place senders at.writer at.stamps at.latest c.self.invariant
    c.ask-asked.new.place senders c.publish.new.writer
    c.stamp_new.new.stamps did.begins.0 (sym did.begins.1)
    (c.stamp_new.ensures at.place.entries did.begins.0
    (sym (ap length c.entries-before.ensures.value)) (sym did.begins.1))
    did.settled
    (did.notified senders c.self.invariant.notified (rw (← c.self.view_is) at c.requires.port))
    did.number.0 c.publish.ensures.writer.1 c.publish.ensures.shown
    (did.mailed at.latest senders)

pub returns-clause-stamped : goal.returns-clause-stamped
returns-clause-stamped c =
    rw (← c.self.view_is)
    (stamps_all _ _ _ _ c.stamp_new.ensures (ap length c.entries-before.ensures.value)
    (sym c.ask-asked.ensures.begins.1) refl)
