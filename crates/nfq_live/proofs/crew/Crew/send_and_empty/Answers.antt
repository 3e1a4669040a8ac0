use Rattle.std.proofs.Common.{ℕ, List, arith, length, subst}
use Rattle.std.specs.Prelude.{slice_index_or}
use Rattle.plane.specs.Planes.{places_of}
use Rattle.nfq_live.specs.Crews.{AreReceived, passes_of}
use Rattle.nfq_live.proofs.PortEnd.{SpeaksAt, a_port, both_long, end_cut, end_last, end_received}
use Rattle.nfq_live.proofs.PortEnd.{end_step, its_still, still_within}
use Rattle.nfq_live.proofs.PortEndStage.{cuts_first}
use Rattle.nfq_live.proofs.CrewSteps.{alone_both, alone_none}
use Rattle.nfq_live.proofs.crew.Crew.send_and_empty.Given.{Over}
use Rattle.nfq_live.proofs.crew.Crew.send_and_empty.Goals as goal
use Rattle.nfq_live.proofs.crew.Crew.send_and_empty.Goals.{In_ok-used}

-- the port that ends has sent its next message
speaks : (g : Over) (c : In_ok-used g) →
    SpeaksAt c.args.stage.now.plane.now c.args.stage.now.script.now c.args.place c.args.at
    c.requires.ends.order c.loop-look.self c.send_first.new.self c.loop-look.rest.now
    c.in_ok-used.used
speaks g c =
    let plane = c.args.stage.now.plane.now in
    let script = c.args.stage.now.script.now in
    let alone = c.loop-look.invariant.alone in
    record {
      crew = c.loop-look.invariant.crew;
      within = still_within plane script c.args.place c.args.at c.requires.ends.order
          c.args.self.now c.loop-look.self alone c.requires.ends.within;
      its = its_still plane script c.args.place c.args.at c.requires.ends.order c.args.self.now
          c.loop-look.self c.requires.ends.within alone c.requires.ends.its;
      speaks = c.in_ok-used.ensures.sent;
      one = c.send_first.ensures.others;
    }

pub loop-look-init : goal.loop-look-init
loop-look-init g c = record {
  shorter = omega arith;
  crew = c.requires.ends.crew;
  minds = c.requires.ends.minds;
  alone = alone_none c.args.self.now;
  received = c.requires.ends.received;
  sent = cuts_first c.args.stage.now.script.now (places_of c.args.stage.now.plane.now) c.args.place
      c.args.datagram.now c.args.self.now;
}

pub send_first-requires-clause-within : goal.send_first-requires-clause-within
send_first-requires-clause-within g c κs within =
    still_within c.args.stage.now.plane.now c.args.stage.now.script.now c.args.place c.args.at
    c.requires.ends.order
    c.args.self.now c.loop-look.self c.loop-look.invariant.alone c.requires.ends.within

pub send_first-requires-clause-both : goal.send_first-requires-clause-both
send_first-requires-clause-both g c κs within =
    both_long c.args.stage.now.script.now c.loop-look.self c.loop-look.invariant.minds

pub behind-rest-requires : goal.behind-rest-requires
behind-rest-requires g c =
    let says = speaks g (goal.at.behind-rest-requires g c).In_ok-used in
    let port = (slice_index_or c.loop-look.self.ports.items c.args.at
    (a_port c.loop-look.self c.args.at says.within)).port in
    c.messages_are_sent_one_by_one.ensures.used (places_of c.args.stage.now.plane.now) port
    c.loop-look.rest.now (passes_of c.loop-look.self port) (passes_of c.send_first.new.self port)
    c.in_ok-used.used
    (c.in_ok-used.ensures.sent (a_port c.loop-look.self c.args.at says.within))

pub returns-then-used-eq0-clause-sent : goal.returns-then-used-eq0-clause-sent
returns-then-used-eq0-clause-sent g c =
    let says = speaks g (goal.at.returns-then-used-eq0-clause-sent g c).In_ok-used in
    end_last c.args.stage.now.plane.now c.args.stage.now.script.now c.args.place c.args.at
    c.requires.ends.order
    c.messages_are_sent_one_by_one.ensures.none c.args.datagram.now (length c.args.datagram.now)
    c.loop-look._look c.loop-look.rest.now c.args.self.now c.loop-look.self c.send_first.new.self
    c.in_ok-used.used c.loop-look-test.true (omega (arith, c.if-used-eq0.true))
    says c.loop-look.invariant.sent

pub returns-then-used-eq0-clause-received : goal.returns-then-used-eq0-clause-received
returns-then-used-eq0-clause-received g c =
    let says = speaks g (goal.at.returns-then-used-eq0-clause-received g c).In_ok-used in
    let d = a_port c.loop-look.self c.args.at says.within in
    let port = (slice_index_or c.loop-look.self.ports.items c.args.at d).port in
    let same = c.messages_are_sent_one_by_one.ensures.unsent
    (places_of c.args.stage.now.plane.now) port c.loop-look.rest.now
    (passes_of c.loop-look.self port) (passes_of c.send_first.new.self port) c.in_ok-used.used
    (omega (arith, c.if-used-eq0.true)) (c.in_ok-used.ensures.sent d) in
    end_received c.args.stage.now.plane.now c.args.stage.now.script.now c.args.place c.args.at
    c.requires.ends.order
    c.loop-look.self c.send_first.new.self c.loop-look.rest.now c.in_ok-used.used
    says same c.loop-look.invariant.received

pub returns-then-used-eq0-clause-minds : goal.returns-then-used-eq0-clause-minds
returns-then-used-eq0-clause-minds g c =
    c.send_first.ensures.minds c.args.stage.now.script.now c.loop-look.invariant.minds

pub empty-requires-clause-minds : goal.empty-requires-clause-minds
empty-requires-clause-minds g c κs within =
    c.send_first.ensures.minds c.args.stage.now.script.now c.loop-look.invariant.minds

pub returns-then-used-eq0-clause-alone : goal.returns-then-used-eq0-clause-alone
returns-then-used-eq0-clause-alone g c =
    let says = speaks g (goal.at.returns-then-used-eq0-clause-alone g c).In_ok-used in
    alone_both c.args.self.now c.loop-look.self c.send_first.new.self
    c.loop-look.invariant.alone
    (c.send_first.ensures.others (a_port c.loop-look.self c.args.at says.within)).alone

pub loop-look-preserved : goal.loop-look-preserved
loop-look-preserved g c =
    let says = speaks g (goal.at.loop-look-preserved g c).In_ok-used in
    record {
      shorter = omega (arith, c.behind-rest.ensures.length, c.loop-look.invariant.shorter);
      crew = c.empty.ensures.crew;
      minds = c.in_ok-empty.ensures.minds;
      alone = alone_both c.args.self.now c.send_first.new.self c.empty.new.self
          (alone_both c.args.self.now c.loop-look.self c.send_first.new.self
          c.loop-look.invariant.alone
          (c.send_first.ensures.others (a_port c.loop-look.self c.args.at says.within)).alone)
          c.in_ok-empty.ensures.on.alone;
      received = subst (λ (l : List ℕ). AreReceived l (places_of c.args.stage.now.plane.now)
          c.empty.new.self)
          c.requires.ends.order c.in_ok-empty.ensures.received;
      sent = end_step c.args.stage.now.plane.now c.args.stage.now.script.now c.args.place c.args.at
          c.requires.ends.order
          c.a_port_does_what_is_next.ensures.sends c.args.datagram.now
          (length c.args.datagram.now) c.loop-look._look c.loop-look.rest.now
          c.behind-rest.result.now c.args.self.now c.loop-look.self c.send_first.new.self
          c.empty.new.self c.in_ok-used.used c.loop-look-test.true
          (omega (arith, c.if-used-eq0.false))
          says c.in_ok-empty.ensures.on c.behind-rest.ensures.value c.loop-look.invariant.sent;
    }

pub returns-clause-sent : goal.returns-clause-sent
returns-clause-sent g c =
    end_cut c.args.stage.now.plane.now c.args.stage.now.script.now c.args.place c.args.at
    c.requires.ends.order
    c.messages_are_sent_one_by_one.ensures.enough c.args.datagram.now
    (length c.args.datagram.now) c.loop-look._look c.loop-look.rest.now c.args.self.now
    c.loop-look.self c.loop-look.invariant.crew
    (still_within c.args.stage.now.plane.now c.args.stage.now.script.now c.args.place c.args.at
    c.requires.ends.order
    c.args.self.now c.loop-look.self c.loop-look.invariant.alone c.requires.ends.within)
    (its_still c.args.stage.now.plane.now c.args.stage.now.script.now c.args.place c.args.at
    c.requires.ends.order
    c.args.self.now c.loop-look.self c.requires.ends.within c.loop-look.invariant.alone
    c.requires.ends.its)
    c.loop-look-test.false c.loop-look.invariant.sent
