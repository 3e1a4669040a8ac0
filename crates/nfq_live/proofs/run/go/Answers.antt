use Rattle.std.proofs.Common.{◌≡◌, List, length, subst, sym}
use Rattle.packet_entry.specs.declared.packet.Card.{Card}
use Rattle.run_parts.specs.Entering.{cards}
use Rattle.plane.specs.Planes.{places_of}
use Rattle.nfq_live.specs.Endings.{IsAtMeeting}
use Rattle.nfq_live.specs.Feeders.{AreTheSame}
use Rattle.nfq_live.specs.Sizes.{Size, size_of}
use Rattle.live_work.proofs.SentAsks.{on_ok}
use Rattle.nfq_live.proofs.WholeRun.{all_open}
use Rattle.nfq_live.proofs.run.go.Goals as goal

pub make_ready-requires-clause-crew : goal.make_ready-requires-clause-crew
make_ready-requires-clause-crew g c κs within =
    record { all = c.requires.crew.all; looks = c.requires.crew.looks }

pub make_ready-requires-clause-minds : goal.make_ready-requires-clause-minds
make_ready-requires-clause-minds g c κs within =
    c.in_ok-crew.ensures.minds c.args.crew.now.ports.items c.requires.none.in_order c.requires.new

pub make_ready-requires-clause-none : goal.make_ready-requires-clause-none
make_ready-requires-clause-none g c κs within = record {
  opened = λ workers. record {
    notes = (c.requires.none.opened workers).notes;
    stands = (c.requires.none.opened workers).stands;
    open_to = (c.requires.none.opened workers).open_to;
  };
  early = c.requires.none.early;
  none_fed = c.requires.none.none_fed;
  in_order = c.requires.none.in_order;
  none_closed = c.requires.none.none_closed;
}

pub end_all-requires-clause-are_open : goal.end_all-requires-clause-are_open
end_all-requires-clause-are_open g c κs within =
    all_open c.args.stage.script.now (places_of c.args.stage.plane.now)
    (size_of c.args.pool.workers c.args.feeders c.args.capture.now) c.work.new.self
    c.in_ok-work.ensures.met

pub returns-clause-ended : goal.returns-clause-ended
returns-clause-ended g c =
    let script = c.args.stage.script.now in
    let places = places_of c.args.stage.plane.now in
    let many = size_of c.args.pool.workers c.args.feeders c.args.capture.now in
    on_ok c.end_all.result
    ((size : Size) → IsAtMeeting script places size 0 c.work.new.self →
    IsAtMeeting script places size (length script.ports) c.end_all.new.self)
    (IsAtMeeting script places many (length script.ports) c.end_all.new.self)
    (λ ended. ended many c.in_ok-work.ensures.met) c.end_all.ensures.ended

pub returns-clause-fed : goal.returns-clause-fed
returns-clause-fed g c =
    on_ok c.end_all.result
    (c.end_all.new.self.feeding.pass.fed ≡ c.work.new.self.feeding.pass.fed)
    (AreTheSame c.end_all.new.self.feeding.pass.fed (cards c.args.capture.now))
    (λ same. subst (λ (l : List Card). AreTheSame l (cards c.args.capture.now)) (sym same)
    c.in_ok-work.ensures.fed) c.end_all.ensures.fed
