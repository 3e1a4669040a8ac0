use Rattle.std.proofs.Common.{◌≡◌, ◌∙◌, [], List, ap, arith, length, subst, sym, true}
use Rattle.packet_entry.specs.declared.packet.Card.{Card}
use Rattle.run_parts.specs.Entering.{cards}
use Rattle.plane.specs.Passes.{IsFeederOf}
use Rattle.plane.specs.Planes.{order_of, places_of}
use Rattle.live_runs.specs.Passes.{AreMet}
use Rattle.live_work.specs.declared.feeding.Feeding.{Feeding}
use Rattle.live_work.specs.Feeding.{IsFeedingOf}
use Rattle.live_work.specs.Minds.{IsMind}
use Rattle.nfq_live.specs.Crews.{HaveMinds, passes_of}
use Rattle.nfq_live.specs.Endings.{IsAtMeeting}
use Rattle.nfq_live.specs.Feeders.{AreTheSame, HaveFedAll}
use Rattle.nfq_live.specs.Sizes.{size_of}
use Rattle.nfq_live.specs.Workers.{HaveWorked}
use Rattle.live_work.proofs.SentAsks.{on_ok}
use Rattle.nfq_live.proofs.PortNumbers.{zip_long}
use Rattle.nfq_live.proofs.SeatedCrew.{HaveSat, crew_after, minds_after, worked_after}
use Rattle.nfq_live.proofs.WholeRun.{at_any}
use Rattle.nfq_live.proofs.WorkStage.{worked}
use Rattle.nfq_live.proofs.WorkerSeats.{as_many_seats, seated_from}
use Rattle.nfq_live.proofs.crew.Crew.work.Given.{Over}
use Rattle.nfq_live.proofs.crew.Crew.work.Goals as goal
use Rattle.nfq_live.proofs.crew.Crew.work.Goals.{After-leave_seats, After-split_and_work}

pub take_seats-requires-clause-both : goal.take_seats-requires-clause-both
take_seats-requires-clause-both g c =
    zip_long (IsMind c.args.run.now.stage.script.now) c.args.self.now.ports.items
    c.args.self.now.minds.items c.requires.minds

pub split_and_work-requires-clause-pass : goal.split_and_work-requires-clause-pass
split_and_work-requires-clause-pass g c κs within =
    subst (λ (f : Feeding). IsFeederOf c.args.run.now.stage.plane.now f.pass)
    (sym c.take_seats.ensures.feeding) c.requires.crew.all.feeds

pub split_and_work-requires-clause-looks : goal.split_and_work-requires-clause-looks
split_and_work-requires-clause-looks g c κs within =
    subst (λ (f : Feeding). IsFeedingOf c.args.run.now.stage.plane.now f)
    (sym c.take_seats.ensures.feeding) c.requires.crew.looks

pub split_and_work-requires-clause-none : goal.split_and_work-requires-clause-none
split_and_work-requires-clause-none g c κs within =
    subst (λ (f : Feeding). f.pass.fed ≡ []) (sym c.take_seats.ensures.feeding)
    (c.requires.ready.fed ∙ c.requires.ready.opened.none_fed)

pub split_and_work-requires-clause-seated : goal.split_and_work-requires-clause-seated
split_and_work-requires-clause-seated g c κs within =
    seated_from c.args.run.now.stage.script.now c.args.run.now.stage.plane.now
    c.take_seats.new.seats.items c.args.self.now.ports.items c.args.self.now.minds.items
    c.take_seats.ensures.passes c.take_seats.ensures.minds c.requires.crew.all.speak
    c.requires.minds

-- as many passes leave their seats as took them
many : (g : Over) (c : After-split_and_work g) →
    length c.split_and_work.new.seats.items ≡ length c.args.self.now.ports.items
many g c =
    as_many_seats c.args.run.now.pool.workers c.args.run.now.stage.script.now
    c.args.run.now.stage.plane.now c.take_seats.new.seats.items
    c.split_and_work.new.seats.items c.args.self.now.ports.items c.split_and_work.ensures.each
    c.take_seats.ensures.passes

pub leave_seats-requires-clause-room : goal.leave_seats-requires-clause-room
leave_seats-requires-clause-room g c =
    omega (
      arith,
      many g (goal.at.leave_seats-requires-clause-room g c).After-split_and_work,
      c.in_ok-room.ensures.ports,
    )

pub leave_seats-requires-clause-more_room : goal.leave_seats-requires-clause-more_room
leave_seats-requires-clause-more_room g c =
    omega (
      arith,
      many g (goal.at.leave_seats-requires-clause-more_room g c).After-split_and_work,
      c.in_ok-room.ensures.minds,
    )

-- all passes sat, worked, and went back
sat : (g : Over) (c : After-leave_seats g) →
    HaveSat c.args.run.now.pool.workers c.args.run.now.feeders c.args.run.now.stage.script.now
    c.args.run.now.capture.now c.args.run.now.stage.plane.now c.args.self.now
    c.leave_seats.new.self c.take_seats.new.seats.items c.split_and_work.new.seats.items
sat g c =
    let Fed : Feeding → Feeding → Type 0 = λ old new.
    HaveFedAll c.args.run.now.feeders c.args.run.now.stage.script.now c.args.run.now.capture.now
    c.args.run.now.stage.plane.now old new in
    record {
      taken = c.take_seats.ensures.passes;
      each = c.split_and_work.ensures.each;
      back = c.leave_seats.ensures.passes;
      minds = c.leave_seats.ensures.minds;
      fed = subst (λ (f : Feeding). Fed f c.leave_seats.new.self.feeding)
          c.take_seats.ensures.feeding
          (subst (λ (f : Feeding). Fed c.take_seats.new.self.feeding f)
          (sym c.leave_seats.ensures.feeding) c.split_and_work.ensures.fed);
      closed = ap (λ v. v.items) (c.leave_seats.ensures.closed ∙ c.take_seats.ensures.closed);
    }

-- none of them failed
well : (g : Over) (c : After-leave_seats g) → c.leave_seats.result ≡ true →
    HaveWorked c.args.run.now.pool.workers c.args.run.now.feeders
    c.args.run.now.stage.script.now c.args.run.now.capture.now
    (places_of c.args.run.now.stage.plane.now) c.args.self.now c.leave_seats.new.self
well g c went =
    worked_after c.args.run.now.pool.workers c.args.run.now.feeders
    c.args.run.now.stage.script.now c.args.run.now.capture.now c.args.run.now.stage.plane.now
    c.args.self.now c.leave_seats.new.self c.take_seats.new.seats.items
    c.split_and_work.new.seats.items (sat g c) (c.leave_seats.ensures.went_well went)
    (c.leave_seats.ensures.fed_well went)

pub returns-then-not-leave_seats-clause-crew : goal.returns-then-not-leave_seats-clause-crew
returns-then-not-leave_seats-clause-crew g c =
    crew_after _ _ _ _ _ _ _ _ _
    (sat g (goal.at.returns-then-not-leave_seats-clause-crew g c).After-leave_seats)
    c.parts_stay_whole.ensures c.requires.crew

pub meet-requires : goal.meet-requires
meet-requires g c =
    crew_after _ _ _ _ _ _ _ _ _ (sat g (goal.at.meet-requires g c).After-leave_seats)
    c.parts_stay_whole.ensures c.requires.crew

pub returns-clause-met : goal.returns-clause-met
returns-clause-met g c =
    let script = c.args.run.now.stage.script.now in
    let plane = c.args.run.now.stage.plane.now in
    let capture = c.args.run.now.capture.now in
    let mid = c.leave_seats.new.self in
    let new = c.meet.new.self in
    on_ok c.meet.result (AreMet (order_of plane) (passes_of mid) (passes_of new))
    (IsAtMeeting script (places_of plane) (size_of c.args.run.now.pool.workers
    c.args.run.now.feeders capture) 0 new)
    (λ met. worked (record {
      all = c.ports_open_one_after_the_other.ensures.all;
      each = c.ports_open_one_after_the_other.ensures.each;
      no_look = c.what_a_port_does_adds_up.ensures.no_look;
      looks = c.what_a_port_does_adds_up.ensures.looks;
      meeting = c.a_stage_ends_where_all_meet.ensures.meeting;
      feeder = c.a_stage_ends_where_all_meet.ensures.feeds;
      meets = c.a_place_stays_fed_by_all.ensures.meets;
    }) c.args.run.now.pool.workers c.args.run.now.feeders script capture plane c.args.self.now mid
    new c.requires.order c.requires.crew c.requires.ready
    (well g (goal.at.returns-clause-met g c).After-leave_seats c.if-not-leave_seats.false) met
    c.meet.ensures.numbers) c.meet.ensures.met

pub returns-clause-minds : goal.returns-clause-minds
returns-clause-minds g c =
    at_any c.meet.result (HaveMinds c.args.run.now.stage.script.now c.meet.new.self)
    (c.meet.ensures.minds c.args.run.now.stage.script.now
    (minds_after _ _ _ _ _ _ _ _ _
    (sat g (goal.at.returns-clause-minds g c).After-leave_seats)
    (c.leave_seats.ensures.went_well c.if-not-leave_seats.false)))

pub returns-clause-fed : goal.returns-clause-fed
returns-clause-fed g c =
    at_any c.meet.result (AreTheSame c.meet.new.self.feeding.pass.fed (cards
    c.args.run.now.capture.now))
    (subst (λ (l : List Card). AreTheSame l (cards c.args.run.now.capture.now)) (sym
    c.meet.ensures.fed)
    (well g (goal.at.returns-clause-fed g c).After-leave_seats
    c.if-not-leave_seats.false).fed.cards)
