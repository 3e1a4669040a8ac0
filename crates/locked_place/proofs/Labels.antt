-- Labels of places.
use Rattle.std.proofs.Common.{◌≡◌, ℕ, Option, Some, ap, ◌∙◌}
use Rattle.mailbox.specs.Views.{SenderView}
use Rattle.glance.specs.Views.{BoardView}
use Rattle.locked_place.specs.Views.{LockedView, PlaceLabel, label_of, made_senders, sender_in}

-- a label is the same where its five fields are
pub same_label : (old new : LockedView) → new.number ≡ old.number → new.places ≡ old.places →
    made_senders (sender_in new.senders) ≡ made_senders (sender_in old.senders) →
    new.writer.board ≡ old.writer.board → new.writer.place ≡ old.writer.place →
    label_of new ≡ label_of old
same_label old new number places senders board writer =
    ap (λ n. record (label_of new) { number = n }) number
    ∙ ap (λ n. record (label_of new) { number = old.number; places = n }) places
    ∙ ap (λ (s : ℕ → Option SenderView). record (label_of new) {
      number = old.number;
      places = old.places;
      senders = s;
    }) senders
    ∙ ap (λ (b : BoardView). record (label_of old) { board = b; writes_for = new.writer.place })
    board
    ∙ ap (λ n. record (label_of old) { writes_for = n }) writer

-- a turn begins at the place that the pass's label names
pub label_begun : (held old begun : LockedView) (time : ℕ) (named : PlaceLabel)
    (label : Option PlaceLabel) → old ≡ held → begun ≡ record old { latest = time } →
    label ≡ Some (label_of held) → label ≡ Some named → label_of begun ≡ named
label_begun held old begun time named label here now found named_so =
    let same : label_of held ≡ named = cc in
    ap (λ (v : LockedView). label_of v) now ∙ (ap (λ (v : LockedView). label_of v) here ∙ same)
