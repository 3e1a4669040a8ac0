use Rattle.std.proofs.Common.{◌≡◌, [], true, false, refl, append-nil, sym, ◌∙◌}
use Rattle.std.specs.Prelude.{flat_map}
use Rattle.histories.specs.Journeys.{arrival_of}
use Rattle.journey_audit.specs.Following.{asked_after}
use Rattle.journey_audit.proofs.Tallies.{grows_as, grows_on}
use Rattle.journey_audit.proofs.following.note.Goals as goal

pub returns-then-not-is_legal : goal.returns-then-not-is_legal
returns-then-not-is_legal c = λ legal.
    absurd (let wrong : true ≡ false = sym legal ∙ c.if-not-is_legal.true in cc)

pub returns : goal.returns
returns c =
    let e = c.args.entry.now in
    let arrived = arrival_of e.queue e.event in
    let asked = flat_map (asked_after c.args.tables.now c.args.key) c.args.leavers.items in
    λ legal. grows_as c.args.tallies.now c.all_ask.new.tallies _ _ arrived asked (append-nil arrived) refl
    (grows_on c.args.tallies.now c.arrive.new.tallies c.all_ask.new.tallies arrived [] [] asked
    c.in_ok-arrive.ensures c.in_ok-all_ask.ensures)
