use Rattle.std.proofs.Common.{refl, sym, ap, length}
use Rattle.locked_place.specs.Arrivals.{HasArrived}
use Rattle.locked_place.specs.Views.{locked_of, senders_of}
use Rattle.locked_place.proofs.Labels.{same_label}
use Rattle.locked_place.proofs.PlaceInvariant.{goes_on, stamps_all}
use Rattle.locked_place.proofs.place.LockedPlace.arrive.Goals as goal

arrived : (g : _) (c : goal.After-short_at-2 g) →
    HasArrived (record { queue = c.args.queue; card = c.args.packet; bypass = c.args.bypass })
    c.self.inside.latest c.self.inside.place (senders_of c.self.inside.senders)
    c.finish-placed.new.place (senders_of c.finish-placed.new.senders) c.finish-placed.result
arrived g c =
    c.finish-placed.ensures.arrived _ c.self.inside.place
    (record {
      settled = c.self.invariant.settled;
      notified = c.self.invariant.notified;
      begins = c.in_ok-begun.ensures.begun;
      now_so = c.in_ok-begun.ensures.state;
    })

pub returns-clause-label : goal.returns-clause-label
returns-clause-label g c =
    rw (← c.self.view_is)
    (same_label
    (locked_of c.self.inside.place c.self.inside.senders c.self.inside.writer
    c.self.inside.stamps c.self.inside.latest)
    (locked_of c.finish-placed.new.place c.finish-placed.new.senders c.publish.new.writer
    c.stamp_new.new.stamps c.self.inside.latest)
    (arrived g c).same_number (arrived g c).same_places
    c.finish-placed.ensures.made c.publish.ensures.writer.0 c.publish.ensures.writer.1)

pub invariant_of-self-2 : goal.invariant_of-self-2
invariant_of-self-2 g c =
    let at = c.self.inside in
    let did = arrived g c in
    goes_on at.place (senders_of at.senders) at.writer at.stamps at.latest c.self.invariant
    c.finish-placed.new.place (senders_of c.finish-placed.new.senders) c.publish.new.writer
    c.stamp_new.new.stamps _ did.arrives.entered
    (c.stamp_new.ensures at.place.entries _ (sym (ap length c.entries-before.ensures.value))
    did.arrives.entered)
    did.settled did.notified did.same_number c.publish.ensures.writer.1 c.publish.ensures.shown
    did.mailed

pub returns-clause-stamped : goal.returns-clause-stamped
returns-clause-stamped g c =
    rw (← c.self.view_is)
    (stamps_all _ _ _ _ c.stamp_new.ensures (ap length c.entries-before.ensures.value)
    (arrived g c).arrives.entered refl)

pub returns-clause-begins : goal.returns-clause-begins
returns-clause-begins g c =
    rw (← c.self.view_is) (_, sym (arrived g c).arrives.entered)
