use Rattle.std.proofs.Common.{ap, ◌∙◌}
use Rattle.packet_moves.specs.declared.setting.Setting.{Setting}
use Rattle.solo_run.specs.RunState.{port_at, setting_of, world_of}
use Rattle.solo_run.proofs.MessageCuts.{request_done}
use Rattle.solo_run.proofs.StepSequence.{with_both, keeps_both, on_ok}
use Rattle.solo_run.proofs.sending.send_request.Goals as goal

pub returns-clause-made_with : goal.returns-clause-made_with
returns-clause-made_with g c =
    on_ok c.go.result _ _
    (with_both c.args.run.now c.send_request.new.self c.go.new.run
    c.in_ok-send_request.ensures.made_with) c.go.ensures.made_with

pub returns-clause-keeps : goal.returns-clause-keeps
returns-clause-keeps g c =
    on_ok c.go.result _ _
    (keeps_both (world_of c.args.run.now) (world_of c.send_request.new.self)
    (world_of c.go.new.run) c.in_ok-send_request.ensures.keeps) c.go.ensures.keeps

pub returns-clause-done : goal.returns-clause-done
returns-clause-done g c =
    let s = setting_of c.args.run.now in
    let mid = world_of c.send_request.new.self in
    on_ok c.go.result _ _
    (λ gone. request_done c.spelling_decodes_to_its_request.ensures.front
    c.one_message_in_front.ensures.read
    (g.B.Between.then c.args.between.now s c.args.script.now) s
    (port_at c.args.script.now c.args.place) c.args.request (world_of c.args.run.now) mid
    (world_of c.go.new.run) c.send_request.ensures.port c.send_request.ensures.fits
    c.in_ok-send_request.ensures.sent
    (gone ∙ ap (λ (t : Setting). g.B.Between.then c.args.between.now t c.args.script.now mid)
    c.in_ok-send_request.ensures.made_with.setting))
    c.go.ensures.world
