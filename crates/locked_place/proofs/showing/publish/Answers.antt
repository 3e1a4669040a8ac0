use Rattle.std.proofs.Common.{arith, ap, length}
use Rattle.locked_place.proofs.BoardContent.{no_later, shown_on, shown_still}
use Rattle.locked_place.proofs.showing.publish.Goals as goal
use Rattle.locked_place.proofs.showing.publish.Goals.{
  else-events-lt-EVENTS_SPAN-via-then-events-lt-EVENTS_SPAN+else-waiting-lt-WAITING_SPAN,
  else-events-lt-EVENTS_SPAN-via-else-events-lt-EVENTS_SPAN,
}

pub publish-requires-clause-later : goal.publish-requires-clause-later
publish-requires-clause-later c =
    rw c.entries.ensures.value
    (no_later c.requires.shown.0 c.args.place.now.entries c.args.writer.now.published
    c.requires.shown.1 c.requires.shown.2)

pub returns-then-waiting-lt-WAITING_SPAN-clause-shown : goal.returns-then-waiting-lt-WAITING_SPAN-clause-shown
returns-then-waiting-lt-WAITING_SPAN-clause-shown c =
    shown_on c.requires.shown.0 c.args.place.now.entries c.args.writer.now.published
    c.publish.new.writer.published _ c.requires.shown.1 c.requires.shown.2
    (ap (λ w. w.published) c.publish.ensures.published) c.publish.ensures.latest
    (ap length c.entries.ensures.value) c.waiting-waiting.ensures (omega (arith, c.if-waiting-lt-WAITING_SPAN.true))

pub returns-else-events-lt-EVENTS_SPAN-clause-shown : goal.returns-else-events-lt-EVENTS_SPAN-clause-shown
returns-else-events-lt-EVENTS_SPAN-clause-shown c =
    shown_still c.requires.shown.0 c.args.place.now.entries c.args.writer.now.published
    c.requires.shown.1 c.requires.shown.2 (λ fits.
    elim c.else-events-lt-EVENTS_SPAN.branch [
      | else-events-lt-EVENTS_SPAN-via-then-events-lt-EVENTS_SPAN+else-waiting-lt-WAITING_SPAN w ↦
          omega (arith, fits.waiting, w.if-waiting-lt-WAITING_SPAN.false, c.waiting-waiting.ensures)
      | else-events-lt-EVENTS_SPAN-via-else-events-lt-EVENTS_SPAN w ↦
          omega (arith, fits.events, w.if-events-lt-EVENTS_SPAN.false, ap length c.entries.ensures.value)
    ])
