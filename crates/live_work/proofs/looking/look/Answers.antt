use Rattle.std.proofs.Common.{None, Option, Some, subst}
use Rattle.packet_entry.specs.declared.letter.Letter.{Letter}
use Rattle.nfqa_msgs.specs.NoticeTexts.{told_exactly}
use Rattle.run_parts.specs.Ports.{place_in}
use Rattle.plane.specs.Passes as view
use Rattle.plane.specs.Planes.{places_of}
use Rattle.live_passes.specs.Numbered.{StaysPort}
use Rattle.live_work.proofs.UnchangedPass.{port_both}
use Rattle.live_work.proofs.MailboxLooks.{answer_words, found_none, found_one, looks_none}
use Rattle.live_work.proofs.MailboxLooks.{looks_on, received_stays, same_stays}
use Rattle.live_work.proofs.PortMinds.{mind_looks, mind_stays, mind_within}
use Rattle.live_work.proofs.looking.look.Given.{Over}
use Rattle.live_work.proofs.looking.look.Goals as goal
use Rattle.live_work.proofs.looking.look.Goals.{In-None, In-Some}

-- the look found this letter
took : (g : Over) (c : In-Some g) →
    view.Receives c.args.pass.now c.receive.new.pass (Some c.in-Some.letter)
took g c =
    let Gets : Option Letter → Type 0 = λ l. view.Receives c.args.pass.now c.receive.new.pass l in
    subst Gets c.in-Some.is c.in_ok-letter.ensures.received

-- the pass is the port's still
stays_so : (g : Over) (c : In-Some g) →
    StaysPort c.args.stage.now.plane.now c.args.pass.now c.receive.new.pass
stays_so g c =
    received_stays c.args.stage.now.plane.now c.args.pass.now c.receive.new.pass
    (Some c.in-Some.letter) c.receive.ensures.pass (took g c)

-- the look found nothing
took_none : (g : Over) (c : In-None g) → view.Receives c.args.pass.now c.receive.new.pass None
took_none g c =
    let Gets : Option Letter → Type 0 = λ l. view.Receives c.args.pass.now c.receive.new.pass l in
    subst Gets c.in-None.is c.in_ok-letter.ensures.received

pub answer-requires : goal.answer-requires
answer-requires g c = record {
  place = mind_within c.args.stage.now.script.now c.args.pass.now c.args.mind.now c.requires.mind;
}

pub say_all-requires-clause-words : goal.say_all-requires-clause-words
say_all-requires-clause-words g c κs within =
    let place = place_in c.args.pass.now.port c.args.stage.now.script.now.ports in
    let at = (goal.at.say_all-requires-clause-words g c).In-Some in
    answer_words c.args.stage.now.script.now place c.receive.new.pass c.in-Some.letter
    c.in_ok-asks-in-Some.asks
    (c.ports_close_at_the_end.ensures.answer c.args.stage.now.script.now place
    c.receive.new.pass.dids
    (told_exactly c.in-Some.letter.bytes))
    (c.in_ok-asks-in-Some.ensures.asks c.args.pass.now c.receive.new.pass c.requires.mind
    (took g at))

pub returns-in_err-letter-clause-stays : goal.returns-in_err-letter-clause-stays
returns-in_err-letter-clause-stays g c =
    same_stays c.args.stage.now.plane.now c.args.pass.now c.receive.new.pass c.receive.ensures.pass
    c.in_err-letter.ensures.err

pub returns-in_err-asks-in-Some-clause-stays : goal.returns-in_err-asks-in-Some-clause-stays
returns-in_err-asks-in-Some-clause-stays g c =
    let at = (goal.at.returns-in_err-asks-in-Some-clause-stays g c).In-Some in
    stays_so g at

pub returns-in_err-say_all-in-Some-clause-stays : goal.returns-in_err-say_all-in-Some-clause-stays
returns-in_err-say_all-in-Some-clause-stays g c =
    let at = (goal.at.returns-in_err-say_all-in-Some-clause-stays g c).In-Some in
    port_both c.args.stage.now.plane.now c.args.pass.now c.receive.new.pass c.say_all.new.pass
    (stays_so g at)
    c.say_all.ensures.stays

pub returns-in_ok-say_all-in-Some-clause-stays : goal.returns-in_ok-say_all-in-Some-clause-stays
returns-in_ok-say_all-in-Some-clause-stays g c =
    let at = (goal.at.returns-in_ok-say_all-in-Some-clause-stays g c).In-Some in
    port_both c.args.stage.now.plane.now c.args.pass.now c.receive.new.pass c.say_all.new.pass
    (stays_so g at)
    c.say_all.ensures.stays

pub returns-in_ok-say_all-in-Some-clause-mind : goal.returns-in_ok-say_all-in-Some-clause-mind
returns-in_ok-say_all-in-Some-clause-mind g c =
    let at = (goal.at.returns-in_ok-say_all-in-Some-clause-mind g c).In-Some in
    mind_stays c.args.stage.now.script.now c.receive.new.pass c.say_all.new.pass c.answer.new.self
    c.say_all.new.mind
    (c.in_ok-asks-in-Some.ensures.counted c.args.pass.now c.receive.new.pass c.requires.mind
    (took g at))
    c.say_all.ensures.hears c.say_all.ensures.stays.port c.say_all.ensures.counts.0
    c.say_all.ensures.counts.1

pub returns-in_ok-say_all-in-Some-clause-on : goal.returns-in_ok-say_all-in-Some-clause-on
returns-in_ok-say_all-in-Some-clause-on g c =
    let at = (goal.at.returns-in_ok-say_all-in-Some-clause-on g c).In-Some in
    let received = took g at in
    looks_on c.what_a_port_does_adds_up.ensures.look c.args.stage.now.script.now
    (places_of c.args.stage.now.plane.now)
    c.in-Some.letter c.in_ok-asks-in-Some.asks c.args.pass.now c.receive.new.pass
    c.say_all.new.pass
    (c.ports_speak_by_their_passes.ensures.receives c.args.pass.now c.receive.new.pass
    c.in-Some.letter received)
    (stays_so g at).port
    (c.in_ok-asks-in-Some.ensures.asks c.args.pass.now c.receive.new.pass c.requires.mind received)
    c.in_ok-say_all-in-Some.ensures.sent

pub returns-in-None-clause-stays : goal.returns-in-None-clause-stays
returns-in-None-clause-stays g c =
    let at = (goal.at.returns-in-None-clause-stays g c).In-None in
    received_stays c.args.stage.now.plane.now c.args.pass.now c.receive.new.pass None
    c.receive.ensures.pass
    (took_none g at)

pub returns-in-None-clause-mind : goal.returns-in-None-clause-mind
returns-in-None-clause-mind g c =
    let at = (goal.at.returns-in-None-clause-mind g c).In-None in
    mind_looks c.args.stage.now.script.now c.args.pass.now c.receive.new.pass c.args.mind.now
    c.requires.mind (took_none g at)

pub returns-in-None-clause-on : goal.returns-in-None-clause-on
returns-in-None-clause-on g c =
    let at = (goal.at.returns-in-None-clause-on g c).In-None in
    looks_none c.what_a_port_does_adds_up.ensures.no_look c.args.stage.now.script.now
    (places_of c.args.stage.now.plane.now) c.args.pass.now c.receive.new.pass
    (c.ports_speak_by_their_passes.ensures.finds_none c.args.pass.now c.receive.new.pass
    (took_none g at))

pub returns-in_ok-say_all-in-Some-clause-found : goal.returns-in_ok-say_all-in-Some-clause-found
returns-in_ok-say_all-in-Some-clause-found g c =
    let at = (goal.at.returns-in_ok-say_all-in-Some-clause-found g c).In-Some in
    found_one c.args.pass.now c.receive.new.pass c.say_all.new.pass c.in-Some.letter
    (took g at) c.say_all.ensures.hears

pub returns-in-None-clause-found : goal.returns-in-None-clause-found
returns-in-None-clause-found g c =
    let at = (goal.at.returns-in-None-clause-found g c).In-None in
    found_none c.args.pass.now c.receive.new.pass
    (took_none g at)
