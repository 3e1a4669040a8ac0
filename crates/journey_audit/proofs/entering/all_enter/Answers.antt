use Rattle.std.proofs.Common.{◌≡◌, ◌+◌, List, [], length, ap, arith, rules}
use Rattle.std.specs.Prelude.{option_to_list}
use Rattle.pcap_io.specs.declared.capture.Frame.{Frame}
use Rattle.run_parts.specs.Entering.{card_of, cards, cards_from}
use Rattle.histories.specs.Journeys.{entering}
use Rattle.journey_audit.proofs.Tallies.{asking_begun, asking_on, asking_done}
use Rattle.journey_audit.proofs.entering.all_enter.Goals as goal

pub loop-frame-init : goal.loop-frame-init
loop-frame-init c =
    let gives = c.into_iter-frame-iterator.ensures.into_iter_gives in (
      asking_begun (entering c.args.tables.now c.args.key) (cards c.args.capture.now) _
          c.args.tallies.now (ap (cards_from c.args.capture.now 1) gives),
      omega (arith, ap (λ (fs : List Frame). length fs) gives),
    )

pub loop-frame-preserved : goal.loop-frame-preserved
loop-frame-preserved c =
    let capture = c.args.capture.now in
    let number = c.loop-frame.number in
    let steps = c.in-Some.ensures.steps in (
      asking_on (entering c.args.tables.now c.args.key) (cards capture)
          (cards_from capture number c.loop-frame.frame-iterator)
          (option_to_list (card_of capture number c.in-Some.frame.now))
          (cards_from capture (number + 1) c.next.new.self) c.args.tallies.now
          c.loop-frame.tallies c.enter.new.tallies (ap (cards_from capture number) steps)
          c.in_ok-enter.ensures c.loop-frame.invariant.0,
      omega (arith, ap (λ (fs : List Frame). length fs) steps, c.loop-frame.invariant.1),
    )

pub returns : goal.returns
returns c =
    let none : c.loop-frame.frame-iterator ≡ [] = search rules in
    asking_done (entering c.args.tables.now c.args.key) (cards c.args.capture.now)
    (cards_from c.args.capture.now c.loop-frame.number c.loop-frame.frame-iterator)
    c.args.tallies.now c.loop-frame.tallies
    (ap (cards_from c.args.capture.now c.loop-frame.number) none) c.loop-frame.invariant.0
