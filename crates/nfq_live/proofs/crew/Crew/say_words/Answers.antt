use Rattle.std.proofs.Common.{◌∙◌, ap}
use Rattle.packet_moves.specs.Calls.{after_this}
use Rattle.plane.specs.Planes.{places_of}
use Rattle.nfq_live.specs.Endings.{CutsEnd, SaysOfEnd}
use Rattle.live_work.proofs.SentAsks.{on_ok}
use Rattle.nfq_live.proofs.PortEnd.{end_says}
use Rattle.nfq_live.proofs.crew.Crew.say_words.Goals as goal

pub returns-clause-said : goal.returns-clause-said
returns-clause-said g c =
    let plane = c.args.stage.now.plane.now in
    let script = c.args.stage.now.script.now in
    let bytes = c.as_slice.result.now in
    let old = c.args.self.now in
    let new = c.send_and_empty.new.self in
    on_ok c.send_and_empty.result
    (CutsEnd script (places_of plane) c.args.place bytes old new)
    (SaysOfEnd script (places_of plane) c.args.place c.args.words old new)
    (end_says plane script c.args.place c.args.at c.requires.ends.order
    c.a_port_does_what_is_next.ensures.takes_up c.args.words bytes c.port-port.result
    (after_this c.calls-call.result) old new c.index-pass.result.now c.requires.ends.crew
    c.requires.ends.within c.requires.ends.its c.index-pass.ensures c.port-port.ensures
    (ap after_this c.calls-call.ensures)
    (c.as_slice.ensures.value ∙ c.in_ok-put_words.ensures.text)
    (λ p n. c.datagrams_are_short.ensures.words p n c.args.words c.requires.fit))
    c.send_and_empty.ensures.sent
