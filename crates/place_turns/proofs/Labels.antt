-- The label of a place, by the mailboxes and the board.
use Rattle.std.proofs.Common.{◌≡◌, ℕ, Option, Some, None, refl}
use Rattle.std.specs.Prelude.{option_map, IsSome}
use Rattle.std.specs.BTreeMap.{get}
use Rattle.std.specs.Ordering.{nat_cmp}
use Rattle.mailbox.specs.Views.{MailboxView, SenderView}
use Rattle.locked_place.specs.declared.outlets.Outlets.{Outlets}
use Rattle.locked_place.specs.Views.{AreOutletsOf}
use Rattle.place_rows.specs.Rows.{label_at, sender_made}

made_of : (places number : ℕ) (m : Option MailboxView) →
    m ≡ option_map (λ (s : SenderView). s.mailbox) (option_map (sender_made places number) m)
made_of places number None = refl
made_of places number (Some m) = refl

-- the senders of the label send to these mailboxes
pub outlets_are : (outlets : Outlets) (number : ℕ) → AreOutletsOf outlets (label_at outlets number)
outlets_are outlets number = record {
  mailboxes = λ port.
      made_of outlets.board.places number (get nat_cmp outlets.mailboxes port);
  board = refl;
}

-- there is a sender where there is a mailbox
pub sender_there : (places number : ℕ) (m : Option MailboxView) → IsSome m →
    IsSome (option_map (sender_made places number) m)
sender_there places number None there = absurd (cc)
sender_there places number (Some m) there = refl
