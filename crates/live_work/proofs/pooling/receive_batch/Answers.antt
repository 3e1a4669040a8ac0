use Rattle.std.proofs.Common.{◌≡◌, ◌∙◌, ◌+◌, ◌++◌, ◌∷◌, [], List, Option, Some, ap, arith, false}
use Rattle.std.proofs.Common.{length, subst, sym}
use Rattle.std.specs.Prelude.{All}
use Rattle.std.proofs.lemmas.List.{length-append}
use Rattle.packet_entry.specs.declared.letter.Letter.{Letter}
use Rattle.nfqa_msgs.specs.declared.notice.Notice.{Notice}
use Rattle.inspector_script.specs.Scripts.{Machine, count_after, next_count}
use Rattle.inspector_pool.specs.Answers.{answers}
use Rattle.port_scripts.specs.Words.{AreWords}
use Rattle.live_work.specs.Pooling.{HasReceived}
use Rattle.run_parts.specs.Log.{received_count}
use Rattle.nfqa_msgs.specs.NoticeTexts.{told_exactly}
use Rattle.run_parts.specs.Ports.{place_in}
use Rattle.plane.specs.Passes as view
use Rattle.plane.specs.Planes.{places_of}
use Rattle.live_work.proofs.UnchangedPass.{port_both}
use Rattle.live_work.proofs.MailboxLooks.{one_more_heard, received_stays}
use Rattle.live_work.proofs.PortMinds.{mind_on}
use Rattle.live_work.proofs.PoolAnswers.{hears_next, hears_unread, words_more, words_one}
use Rattle.live_work.proofs.pooling.receive_batch.Goals as goal

pub returns-in_default-2-clause-received : goal.returns-in_default-2-clause-received
returns-in_default-2-clause-received g c =
    let Gets : Option Letter → Type 0 =
    λ l. view.Receives c.loop-received.pass c.receive.new.pass l in
    let received = subst Gets c.in-Some.is c.in_ok-letter.ensures.received in
    let stays = received_stays c.args.stage.now.plane.now c.loop-received.pass c.receive.new.pass
    (Some c.in-Some.letter) c.receive.ensures.pass received in
    hears_unread c.a_pool_answers_in_groups.ensures.receives c.args.stage.now.script.now
    (places_of c.args.stage.now.plane.now) c.args.mind.now.machine c.in-Some.letter
    c.loop-received.notices c.args.pass.now c.loop-received.pass c.receive.new.pass
    (sym c.in_default-2.is ∙ c.in_ok-notice.ensures) stays.port
    (c.ports_speak_by_their_passes.ensures.receives c.loop-received.pass c.receive.new.pass
    c.in-Some.letter received) c.loop-received.invariant.received

pub returns-in_default-2-clause-heard : goal.returns-in_default-2-clause-heard
returns-in_default-2-clause-heard g c =
    let Gets : Option Letter → Type 0 =
    λ l. view.Receives c.loop-received.pass c.receive.new.pass l in
    omega (
      arith,
      one_more_heard c.loop-received.pass c.receive.new.pass c.in-Some.letter
          (subst Gets c.in-Some.is c.in_ok-letter.ensures.received),
      c.loop-received.invariant.heard,
    )

pub loop-received-preserved : goal.loop-received-preserved
loop-received-preserved g c =
    let script = c.args.stage.now.script.now in
    let start = c.args.pass.now in
    let old = c.loop-received.pass in
    let new = c.receive.new.pass in
    let m = c.args.mind.now.machine in
    let ns = c.loop-received.notices in
    let n = c.in-Some-2.notice in
    let Gets : Option Letter → Type 0 = λ l. view.Receives old new l in
    let received = subst Gets c.in-Some.is c.in_ok-letter.ensures.received in
    let stays = received_stays c.args.stage.now.plane.now old new (Some c.in-Some.letter)
    c.receive.ensures.pass received in
    let mind = mind_on script c.loop-received.mind
    (record c.loop-received.mind {
      machine = c.count.new.self;
      received = c.saturating_add-mind.result;
    }) c.in-Some.letter c.count.ensures c.saturating_add-mind.ensures old new
    c.loop-received.invariant.mind received in
    let told = sym c.in-Some-2.is ∙ c.in_ok-notice.ensures in
    let machine : c.count.new.self.received
    ≡ count_after c.loop-received.mind.machine.received 1 =
    ap (λ (x : Machine). x.received) c.count.ensures in
    let counted : next_count (m.received + length ns) ≡ received_count new.dids =
    omega (arith, machine, c.loop-received.invariant.counted, mind.counted) in
    let placed : m.place ≡ place_in start.port script.ports = c.requires.mind.place in
    let pushed : c.push.new.self ≡ ns ++ n ∷ [] = c.in-Ok.ensures.ok in
    let words = words_more script m ns n c.loop-received.invariant.words
    (words_one script m c.in-Some.letter ns n start new placed counted told
    (c.ports_close_at_the_end.ensures.answer script (place_in start.port script.ports) new.dids
    (told_exactly c.in-Some.letter.bytes))) in
    let heard = hears_next c.a_pool_answers_in_groups.ensures.receives script
    (places_of c.args.stage.now.plane.now) m c.in-Some.letter ns n start old new placed counted told
    stays.port
    (c.ports_speak_by_their_passes.ensures.receives old new c.in-Some.letter received)
    c.loop-received.invariant.received in
    let longer : length c.push.new.self ≡ length ns + 1 =
    ap (λ (l : List Notice). length l) pushed ∙ length-append ns (n ∷ []) in
    record {
      stays = port_both c.args.stage.now.plane.now start old new c.loop-received.invariant.stays
          stays;
      mind = mind;
      few = omega (arith, longer, c.loop-received.invariant.few);
      counted = omega (arith, machine, longer, c.loop-received.invariant.counted);
      heard = omega (
        arith,
        longer,
        one_more_heard old new c.in-Some.letter received,
        c.loop-received.invariant.heard,
      );
      words = subst (λ (l : List Notice). All AreWords (answers script m.place m.received l))
          (sym pushed) words;
      received = subst (λ (l : List Notice). HasReceived script
          (places_of c.args.stage.now.plane.now) m l
          false start new) (sym pushed) heard;
    }
