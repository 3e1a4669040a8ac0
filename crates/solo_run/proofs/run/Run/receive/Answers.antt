use Rattle.std.proofs.Common.{◌≡◌, Option, Some, None, subst, refl}
use Rattle.std.specs.Prelude.{IsSomeAnd}
use Rattle.packet_entry.specs.declared.letter.Letter.{Letter}
use Rattle.solo_plane.specs.PlaneView.{setting_of, world_in}
use Rattle.packet_moves.specs.World.{first_of}
use Rattle.solo_run.specs.RunState.{port_at, world_of}
use Rattle.solo_run.specs.RunState as run
use Rattle.solo_run.proofs.RunProgress.{goes_as}
use Rattle.solo_run.proofs.ReceivedNotice.{nothing_received, goes_unchanged, keeps_unchanged}
use Rattle.solo_run.proofs.ReceivedNotice.{receives_none, received_keeps, received_goes}
use Rattle.solo_run.proofs.ReceivedNotice.{receives_some}
use Rattle.solo_run.proofs.run.Run.receive.Goals as goal
use Rattle.solo_run.proofs.run.Run.receive.Goals.{In-None, After-give_back}

none_there : (c : In-None) → IsSomeAnd ((world_of c.args.self.now).ports
    (port_at c.args.script.now c.args.place)) (λ p. None ≡ first_of p.letters)
none_there c =
    let Gives : Option Letter → Type 0 =
    λ l. IsSomeAnd ((world_of c.args.self.now).ports (port_at c.args.script.now c.args.place))
    (λ p. l ≡ first_of p.letters) in
    subst Gives c.in-None.is (rw c.ports.ensures.value at c.in_ok-letter.ensures.letter)

unchanged : (c : In-None) → world_in c.receive.new.self ≡ world_of c.args.self.now
unchanged c =
    nothing_received (world_of c.args.self.now) (world_in c.receive.new.self)
    (port_at c.args.script.now c.args.place) (none_there c)
    (rw c.ports.ensures.value at c.in_ok-letter.ensures.world)

pub returns-in-None-clause-going : goal.returns-in-None-clause-going
returns-in-None-clause-going c =
    goes_unchanged c.args.script.now (setting_of c.receive.new.self) (world_of c.args.self.now)
    (world_in c.receive.new.self) c.args.self.now.inspectors.items (unchanged c)
    (goes_as c.args.script.now (run.setting_of c.args.self.now) _ (world_of c.args.self.now)
    c.args.self.now.inspectors.items _ c.in_ok-letter.ensures.made_with.setting refl
    c.requires.going)

pub returns-in-None-clause-received : goal.returns-in-None-clause-received
returns-in-None-clause-received c =
    receives_none c.args.script.now c.args.place (port_at c.args.script.now c.args.place)
    (world_of c.args.self.now) (world_in c.receive.new.self) (none_there c) (unchanged c)

pub returns-in-None-clause-keeps : goal.returns-in-None-clause-keeps
returns-in-None-clause-keeps c =
    keeps_unchanged (world_of c.args.self.now) (world_in c.receive.new.self) (unchanged c)

one_there : (c : After-give_back) → IsSomeAnd ((world_of c.args.self.now).ports
    (port_at c.args.script.now c.args.place)) (λ p. Some c.in-Some.letter ≡ first_of p.letters)
one_there c =
    let Gives : Option Letter → Type 0 =
    λ l. IsSomeAnd ((world_of c.args.self.now).ports (port_at c.args.script.now c.args.place))
    (λ p. l ≡ first_of p.letters) in
    subst Gives c.in-Some.is (rw c.ports.ensures.value at c.in_ok-letter.ensures.letter)

pub returns-in_ok-asks-in-Some-clause-going : goal.returns-in_ok-asks-in-Some-clause-going
returns-in_ok-asks-in-Some-clause-going c =
    rw (c.give_back.ensures.world, c.give_back.ensures.made_with.setting)
    (received_goes c.args.script.now (setting_of c.receive.new.self) (world_of c.args.self.now)
    (world_in c.receive.new.self) c.args.self.now.inspectors.items c.asked.new.all.items
    c.args.place c.in-Some.letter c.requires.place
    (goes_as c.args.script.now (run.setting_of c.args.self.now) _ (world_of c.args.self.now)
    c.args.self.now.inspectors.items _ c.in_ok-letter.ensures.made_with.setting refl
    c.requires.going)
    (one_there c) (rw c.ports.ensures.value at c.in_ok-letter.ensures.world)
    c.lost-lost.ensures.facts c.in_ok-asks-in-Some.ensures.as_many
    c.in_ok-asks-in-Some.ensures.others c.in_ok-asks-in-Some.ensures.this)

pub returns-in_ok-asks-in-Some-clause-received : goal.returns-in_ok-asks-in-Some-clause-received
returns-in_ok-asks-in-Some-clause-received c =
    rw c.give_back.ensures.world
    (receives_some c.args.script.now (run.setting_of c.args.self.now) c.args.place
    c.in_ok-asks-in-Some.asks c.in-Some.letter (world_of c.args.self.now)
    (world_in c.receive.new.self) c.args.self.now.inspectors.items c.requires.place
    c.requires.going (one_there c) c.in_ok-asks-in-Some.ensures.asks
    (rw c.ports.ensures.value at c.in_ok-letter.ensures.world))

pub returns-in_ok-asks-in-Some-clause-keeps : goal.returns-in_ok-asks-in-Some-clause-keeps
returns-in_ok-asks-in-Some-clause-keeps c =
    rw c.give_back.ensures.world
    (received_keeps (world_of c.args.self.now) (world_in c.receive.new.self)
    (port_at c.args.script.now c.args.place) c.in-Some.letter (one_there c)
    (rw c.ports.ensures.value at c.in_ok-letter.ensures.world))
