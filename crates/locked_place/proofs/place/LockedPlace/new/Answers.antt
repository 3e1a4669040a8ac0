-- a place to which nothing has happened keeps all that it must
use Rattle.std.proofs.Common.{rules}
use Rattle.locked_place.proofs.place.LockedPlace.new.Goals as goal

pub invariant_of-result : goal.invariant_of-result
invariant_of-result c =
    rw (c.new.ensures, c.requires.stamps)
    record {
      settled = search rules;
      notified = search rules;
      writes_for = search rules;
      shown = search rules;
      in_time = search rules;
      mailed = search rules;
    }
