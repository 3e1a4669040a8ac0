use Rattle.std.proofs.Common.{List, subst, sym}
use Rattle.std.specs.Prelude.{All}
use Rattle.script_lines.specs.Limits.{IsAsk}
use Rattle.script_lines.specs.declared.ask.Ask.{Ask}
use Rattle.plane.specs.Planes.{places_of}
use Rattle.port_scripts.specs.Words.{ClosesLast}
use Rattle.nfq_live.specs.Endings.{SaysEndTo}
use Rattle.live_work.proofs.SentAsks.{begins_so, next_fits, rest_fits}
use Rattle.nfq_live.proofs.EndWords.{close_last, last_on}
use Rattle.nfq_live.proofs.PortEnd.{its_still, still_within}
use Rattle.nfq_live.proofs.PortEndStage.{end_left, end_said_on, none_of_end}
use Rattle.nfq_live.proofs.CrewSteps.{alone_both, alone_none}
use Rattle.nfq_live.proofs.crew.Crew.say_end.Goals as goal

pub loop-ask-init : goal.loop-ask-init
loop-ask-init g c =
    let same = sym c.into_iter-ask-iterator.ensures.into_iter_gives in
    record {
      fit = subst (λ (l : List Ask). All IsAsk l) same c.requires.fit;
      last = subst (λ (l : List Ask). ClosesLast l) same c.requires.last;
      crew = c.requires.ends.crew;
      minds = c.requires.ends.minds;
      alone = alone_none c.args.self.now;
      received = c.requires.ends.received;
      said = subst (λ (l : List Ask). SaysEndTo c.args.stage.now.script.now (places_of
          c.args.stage.now.plane.now)
          c.args.place c.args.asks l c.args.self.now c.args.self.now) same
          (none_of_end c.args.stage.now.script.now (places_of c.args.stage.now.plane.now)
          c.args.place c.args.asks
          c.args.self.now);
    }

pub say_words-requires-clause-fit : goal.say_words-requires-clause-fit
say_words-requires-clause-fit g c κs within =
    next_fits c.loop-ask.ask-iterator c.next.new.self c.in-Words.words
    (begins_so c.loop-ask.ask-iterator c.next.new.self c.in-Some.ask c.in-Words.words
    c.in-Some.ensures.steps c.in-Words.is) c.loop-ask.invariant.fit

pub say_words-requires-clause-ends : goal.say_words-requires-clause-ends
say_words-requires-clause-ends g c κs inside =
    let plane = c.args.stage.now.plane.now in
    let script = c.args.stage.now.script.now in
    let crew = c.args.self.now in
    let was = c.requires.ends in
    let alone = c.loop-ask.invariant.alone in
    record {
      crew = c.loop-ask.invariant.crew;
      order = was.order;
      minds = c.loop-ask.invariant.minds;
      within = still_within plane script c.args.place c.args.at was.order crew c.loop-ask.self alone
          was.within;
      its = its_still plane script c.args.place c.args.at was.order crew c.loop-ask.self was.within
          alone was.its;
      received = c.loop-ask.invariant.received;
    }

pub loop-ask-preserved : goal.loop-ask-preserved
loop-ask-preserved g c =
    let steps = begins_so c.loop-ask.ask-iterator c.next.new.self c.in-Some.ask c.in-Words.words
    c.in-Some.ensures.steps c.in-Words.is in
    record {
      fit = rest_fits c.loop-ask.ask-iterator c.next.new.self c.in-Words.words steps
          c.loop-ask.invariant.fit;
      last = last_on c.loop-ask.ask-iterator c.next.new.self c.in-Words.words steps
          c.loop-ask.invariant.last;
      crew = c.say_words.ensures.crew;
      minds = c.in_ok-say_words-in-Words.ensures.minds;
      alone = alone_both c.args.self.now c.loop-ask.self c.say_words.new.self
          c.loop-ask.invariant.alone c.in_ok-say_words-in-Words.ensures.alone;
      received = c.in_ok-say_words-in-Words.ensures.received;
      said = end_said_on c.args.stage.now.script.now (places_of c.args.stage.now.plane.now)
          c.args.place c.args.asks
          c.loop-ask.ask-iterator c.next.new.self c.in-Words.words c.args.self.now c.loop-ask.self
          c.say_words.new.self steps c.loop-ask.invariant.said
          c.in_ok-say_words-in-Words.ensures.said;
    }

pub returns-in-Close-clause-said : goal.returns-in-Close-clause-said
returns-in-Close-clause-said g c =
    end_left c.args.stage.now.script.now (places_of c.args.stage.now.plane.now) c.args.place
    c.args.asks
    c.loop-ask.ask-iterator _ c.args.self.now c.loop-ask.self
    (close_last c.loop-ask.ask-iterator c.next.new.self c.in-Some.ask c.in-Some.ensures.steps
    c.in-Close.is c.loop-ask.invariant.last) c.loop-ask.invariant.said

pub returns-clause-said : goal.returns-clause-said
returns-clause-said g c =
    end_left c.args.stage.now.script.now (places_of c.args.stage.now.plane.now) c.args.place
    c.args.asks
    c.loop-ask.ask-iterator _ c.args.self.now c.loop-ask.self c.in-None.ensures.steps.0
    c.loop-ask.invariant.said
