use Rattle.std.proofs.Common.{◌≡◌, sym, refl, rules, length}
use Rattle.plane.specs.Passes.{IsPortOf}
use Rattle.plane.specs.Planes.{places_of}
use Rattle.plane.proofs.PassMeetings.{one_more, none_met, one_met, all_met}
use Rattle.plane.proofs.RowSplits.{every_get}
use Rattle.plane.proofs.meeting.tell_each.Goals as goal

pub loop-i-init : goal.loop-i-init
loop-i-init g c =
    none_met c.args.direction c.args.plane.now c.args.feeder.now c.args.ports.now
    c.requires.ports c.requires.feeder

pub tell-requires-clause-port : goal.tell-requires-clause-port
tell-requires-clause-port g c =
    every_get (IsPortOf c.args.plane.now) c.loop-i.ports c.loop-i.i _
    c.loop-i.invariant.ports_are (sym c.in-Some.ensures.value)

pub tell-requires-clause-feeder : goal.tell-requires-clause-feeder
tell-requires-clause-feeder g c = c.loop-i.invariant.feeder_is

pub loop-i-preserved : goal.loop-i-preserved
loop-i-preserved g c =
    one_met c.args.direction c.args.plane.now
    (one_more c.rows_meet_by_the_first.ensures.gathers c.rows_meet_by_the_first.ensures.spreads
    c.args.direction (places_of c.args.plane.now)) c.loop-i.i
    c.args.feeder.now c.loop-i.feeder c.tell.new.feeder c.args.ports.now c.loop-i.ports _ _
    c.tell.new.port c.loop-i.invariant (sym c.in-Some.ensures.value) refl c.tell.ensures.port
    c.tell.ensures.feeder c.tell.ensures.told

pub returns-clause-told : goal.returns-clause-told
returns-clause-told g c =
    let all : c.loop-i.i ≡ length c.args.ports.now = search rules in
    all_met c.args.direction c.args.plane.now c.loop-i.i c.args.feeder.now c.loop-i.feeder
    c.args.ports.now c.loop-i.ports c.loop-i.invariant all
