use Rattle.std.proofs.Common.{◌≡◌, ◌≤◌}
use Rattle.mailbox.specs.Views.{opening_sender}
use Rattle.place_rows.proofs.NewPlaces.{DealtUpTo}
use Rattle.place_rows.proofs.opening.deal.Given as goal

abbrev pub invariant-loop-place : goal.invariant-loop-place
invariant-loop-place l = record {
  first : l.first ≡ record (opening_sender l.mailbox) { made = l.place };
  least : 1 ≤ l.place;
  dealt : DealtUpTo l.places l.place l.port l.mailbox l.initial.senders.items l.senders.items;
}
