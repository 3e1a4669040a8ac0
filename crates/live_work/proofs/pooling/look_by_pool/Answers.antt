use Rattle.std.proofs.Common.{◌≡◌, ◌∙◌, ℕ, ap, refl, sym}
use Rattle.inspector_script.specs.Scripts.{ScriptValue}
use Rattle.inspector_pool.specs.Answers.{answers}
use Rattle.plane.specs.Planes.{places_of}
use Rattle.live_work.proofs.PoolAnswers.{looked_in_vain, looked_so, pool_is}
use Rattle.live_work.proofs.pooling.look_by_pool.Goals as goal

pub returns-then-is_empty-clause-on : goal.returns-then-is_empty-clause-on
returns-then-is_empty-clause-on g c =
    looked_in_vain c.a_pool_answers_in_groups.ensures.done c.args.pool.now.workers
    c.args.stage.now.script.now
    (places_of c.args.stage.now.plane.now) c.args.mind.now.machine c.in_ok-batch.batch.notices
    c.in_ok-batch.batch.unread c.args.pass.now c.receive_batch.new.pass
    (pool_is c.args.pool.now.workers c.requires.workers) (c.if-is_empty.ensures.0 refl)
    c.if-not-unread.true c.in_ok-batch.ensures.received

pub returns-clause-on : goal.returns-clause-on
returns-clause-on g c =
    let script = c.args.stage.now.script.now in
    let m = c.args.mind.now.machine in
    let ns = c.in_ok-batch.batch.notices in
    let place : c.args.desk.now.place ≡ m.place =
    c.requires.place ∙ sym c.requires.mind.place in
    looked_so c.a_pool_answers_in_groups.ensures.answers c.what_a_port_does_adds_up.ensures.no_ask
    c.a_pool_answers_in_groups.ensures.done c.args.pool.now.workers script
    (places_of c.args.stage.now.plane.now) m ns
    c.in_ok-batch.batch.unread c.in_ok-answers.answers c.args.pass.now
    c.receive_batch.new.pass c.send_answers.new.pass
    (pool_is c.args.pool.now.workers c.requires.workers)
    (c.in_ok-answers.ensures.answers
    ∙ ap (λ (s : ScriptValue). answers s c.args.desk.now.place c.counted-counted.result ns)
    c.requires.script
    ∙ ap (λ (p : ℕ). answers script p c.counted-counted.result ns) place
    ∙ ap (λ (k : ℕ). answers script m.place k ns) c.counted-counted.ensures)
    c.in_ok-batch.ensures.received c.in_ok-send_answers.ensures.sent
