use Rattle.std.proofs.Common.{ℕ, List, subst}
use Rattle.plane.specs.Planes.{places_of}
use Rattle.live_passes.specs.Views.{port_pass}
use Rattle.live_work.specs.Sending.{Says}
use Rattle.live_work.proofs.SentAsks.{begins_so, next_bytes, next_fits, rest_fits, said_on}
use Rattle.live_work.proofs.SentAsks.{says_so, words_on}
use Rattle.live_work.proofs.UnchangedPass.{port_both}
use Rattle.live_work.proofs.SentMessages.{hears_on}
use Rattle.live_work.proofs.sending.say_all.Goals as goal

pub put_words-requires : goal.put_words-requires
put_words-requires g c =
    next_fits c.loop-ask.left c.take_first.new.self c.in-Words.words
    (begins_so c.loop-ask.left c.take_first.new.self c.in-Some.ask c.in-Words.words
    c.in-Some.ensures.first c.in-Words.is) c.loop-ask.invariant.fit

pub loop-ask-preserved : goal.loop-ask-preserved
loop-ask-preserved g c =
    let words = c.in-Words.words in
    let steps = begins_so c.loop-ask.left c.take_first.new.self c.in-Some.ask words
    c.in-Some.ensures.first c.in-Words.is in
    let script = c.args.stage.now.script.now in
    let places = places_of c.args.stage.now.plane.now in
    let old = c.loop-ask.pass in
    let new = c.send_all.new.pass in
    let bytes : List ℕ = c.as_slice.result.now in
    let are = next_bytes bytes c.put_words.new.text.items old.port c.port.result c.calls-call.result
    words (port_pass old) c.as_slice.ensures.value c.in_ok-put_words.ensures.text c.port.ensures
    c.calls-call.ensures in
    record {
      fit = rest_fits c.loop-ask.left c.take_first.new.self words steps
          c.loop-ask.invariant.fit;
      words = words_on c.loop-ask.left c.take_first.new.self words steps
          c.loop-ask.invariant.words;
      stays = port_both c.args.stage.now.plane.now c.args.pass.now old new
          c.loop-ask.invariant.stays c.send_all.ensures.stays;
      hears = hears_on c.args.pass.now old new c.loop-ask.invariant.hears
          c.send_all.ensures.hears.receiver c.send_all.ensures.hears.counted;
      machine = c.loop-ask.invariant.machine;
      received = c.loop-ask.invariant.received;
      sent = said_on c.what_a_port_does_adds_up.ensures.next_ask script places
          c.args.pass.now.port c.args.asks c.loop-ask.left c.take_first.new.self
          words (port_pass c.args.pass.now) (port_pass old) (port_pass new) steps
          c.loop-ask.invariant.sent
          (subst (λ (p : ℕ). Says script places p words (port_pass old) (port_pass new))
          c.loop-ask.invariant.stays.port
          (says_so c.a_port_does_what_is_next.ensures.takes_up
          c.messages_are_sent_one_by_one.ensures.begin script places old.port bytes words
          (port_pass old) (port_pass new)
          (next_fits c.loop-ask.left c.take_first.new.self words steps c.loop-ask.invariant.fit)
          are c.in_ok-send_all.ensures.sent));
    }
