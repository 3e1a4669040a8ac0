use Rattle.std.proofs.Common.{◌∙◌, ◌++◌, [], ℕ, List, ap, arith, refl, subst, sym}
use Rattle.std.specs.Prelude.{slice_index, slice_set}
use Rattle.script_lines.specs.declared.ask.Ask.{Ask}
use Rattle.inspector_script.specs.Scripts.{opening}
use Rattle.run_parts.specs.Ports.{place_in}
use Rattle.plane.specs.Planes.{places_of}
use Rattle.port_scripts.specs.Words.{AreWords}
use Rattle.plane.specs.Passes.{PortView}
use Rattle.live_passes.specs.Numbered.{numbers_of, passes_in}
use Rattle.live_passes.specs.Views.{port_pass}
use Rattle.live_work.specs.Minds.{IsMind}
use Rattle.live_work.specs.Sending.{SaysTo}
use Rattle.live_work.proofs.SentAsks.{on_ok}
use Rattle.nfq_live.proofs.AllPasses.{goes_on_at}
use Rattle.live_work.proofs.PortMinds.{mind_stays, mind_within}
use Rattle.nfq_live.proofs.PortNumbers.{put_back, zip_long, zip_put}
use Rattle.nfq_live.proofs.CrewSteps.{mind_there, port_there}
use Rattle.nfq_live.proofs.PortOpenings.{opening_port, says_opening, within_ports}
use Rattle.nfq_live.proofs.crew.Crew.say_opening.Goals as goal

pub index_mut-pass-requires : goal.index_mut-pass-requires
index_mut-pass-requires g c =
    let less = within_ports c.args.stage.now.script.now c.args.self.now.ports.items c.args.place
    c.requires.opened.in_order c.requires.place in
    omega (arith, less)

pub index_mut-mind-requires : goal.index_mut-mind-requires
index_mut-mind-requires g c =
    let less = within_ports c.args.stage.now.script.now c.args.self.now.ports.items c.args.place
    c.requires.opened.in_order c.requires.place in
    omega (
      arith,
      less,
      zip_long (IsMind c.args.stage.now.script.now) c.args.self.now.ports.items
          c.args.self.now.minds.items
          c.requires.minds,
    )

pub opening-requires : goal.opening-requires
opening-requires g c =
    let less = within_ports c.args.stage.now.script.now c.args.self.now.ports.items c.args.place
    c.requires.opened.in_order c.requires.place in
    record {
      has_port = mind_within c.args.stage.now.script.now c.index_mut-pass.result.now
          c.index_mut-mind.result.now
          (mind_there c.args.stage.now.script.now c.args.self.now c.args.place
          c.index_mut-pass.result.now
          c.index_mut-mind.result.now c.requires.minds less c.index_mut-pass.ensures.value
          c.index_mut-mind.ensures.value);
    }

pub say_all-requires-clause-words : goal.say_all-requires-clause-words
say_all-requires-clause-words g c κs within =
    subst (λ (l : List Ask). AreWords l) (sym c.in_ok-asks.ensures.asks)
    (c.ports_close_at_the_end.ensures.opening c.args.stage.now.script.now
    c.index_mut-mind.result.now.machine.place)

pub say_all-requires-clause-pass : goal.say_all-requires-clause-pass
say_all-requires-clause-pass g c κs within =
    let less = within_ports c.args.stage.now.script.now c.args.self.now.ports.items c.args.place
    c.requires.opened.in_order c.requires.place in
    port_there c.args.stage.now.plane.now c.args.self.now c.args.place c.index_mut-pass.result.now
    c.requires.crew less c.index_mut-pass.ensures.value

pub returns : goal.returns
returns g c =
    let less = within_ports c.args.stage.now.script.now c.args.self.now.ports.items c.args.place
    c.requires.opened.in_order c.requires.place in
    let goes = goes_on_at c.args.stage.now.plane.now c.args.self.now.feeding.pass
    c.args.self.now.closed.items c.parts_stay_whole.ensures c.args.self.now.ports.items
    c.args.place c.index_mut-pass.result.now c.say_all.new.pass less
    c.index_mut-pass.ensures.value c.requires.crew.all c.say_all.ensures.stays in
    let crew = c.args.self.now in
    let script = c.args.stage.now.script.now in
    let places = places_of c.args.stage.now.plane.now in
    let old = c.index_mut-pass.result.now in
    let new = c.say_all.new.pass in
    let news = slice_set crew.ports.items c.args.place new in
    let port = slice_index script.ports c.args.place in
    let mind = mind_there script crew c.args.place old c.index_mut-mind.result.now
    c.requires.minds less c.index_mut-pass.ensures.value c.index_mut-mind.ensures.value in
    record {
      crew = record { all = goes.all; looks = c.requires.crew.looks };
      minds = zip_put (IsMind script) crew.ports.items crew.minds.items c.args.place
          new c.say_all.new.mind c.requires.minds
          (mind_stays script old new
          c.index_mut-mind.result.now c.say_all.new.mind
          mind c.say_all.ensures.hears c.say_all.ensures.stays.port
          c.say_all.ensures.counts.0 c.say_all.ensures.counts.1);
      said = on_ok c.say_all.result
          (SaysTo script places old.port c.in_ok-asks.asks [] (port_pass old) (port_pass new))
          (SaysTo script places port (opening script (place_in port script.ports)) []
          (passes_in crew.feeding.pass (crew.ports.items ++ crew.closed.items) port)
          (passes_in crew.feeding.pass (news ++ crew.closed.items) port))
          (says_opening c.args.stage.now.plane.now script places port crew.feeding.pass
          crew.ports.items news
          crew.closed.items old new c.in_ok-asks.asks goes
          (opening_port script crew.ports.items c.args.place old c.requires.opened.in_order less
          c.index_mut-pass.ensures.value)
          (c.in_ok-asks.ensures.asks ∙ ap (λ (k : ℕ). opening script k) mind.place))
          c.say_all.ensures.sent;
      others = record {
        alone = record { numbers = goes.numbers; closed = refl; feeding = refl };
        others = λ p other. goes.others p (λ same. other (same ∙ sym
            (opening_port script crew.ports.items c.args.place
            old c.requires.opened.in_order less
            c.index_mut-pass.ensures.value)));
      };
    }

pub returns-in_err-asks-clause-others : goal.returns-in_err-asks-clause-others
returns-in_err-asks-clause-others g c =
    let crew = c.args.self.now in
    let same = put_back crew.ports.items c.args.place c.index_mut-pass.result.now
    c.index_mut-pass.ensures.value in
    record {
      alone = record { numbers = ap numbers_of same; closed = refl; feeding = refl };
      others = λ p other. ap (λ (l : List PortView).
          passes_in crew.feeding.pass (l ++ crew.closed.items) p) same;
    }
