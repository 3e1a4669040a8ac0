use Rattle.std.proofs.Common.{◌≡◌, [], refl}
use Rattle.solo_plane.specs.PlaneView.{world_in}
use Rattle.solo_run.specs.RunState.{port_at, request_sent, setting_of, world_of}
use Rattle.solo_run.proofs.EnoughMemory.{request_enough}
use Rattle.solo_run.proofs.FirstMessage.{none_lost, request_goes, request_keeps}
use Rattle.solo_run.proofs.RunProgress.{goes_as}
use Rattle.solo_run.proofs.run.Run.send_request.Goals as goal
use Rattle.solo_run.proofs.run.Run.send_request.Goals.{Else-lost-gt0}

sent_so : (c : Else-lost-gt0) → world_in c.request_unread.new.self
    ≡ request_sent (setting_of c.args.self.now) (port_at c.args.script.now c.args.place)
    c.args.request (world_of c.args.self.now)
sent_so c =
    request_enough (setting_of c.args.self.now) (port_at c.args.script.now c.args.place)
    c.args.request (world_of c.args.self.now) (world_in c.request_unread.new.self) [] (record {
      arrival = c.what_goes_on_is_in_time.ensures.arrival;
      request = c.what_goes_on_is_in_time.ensures.request;
    })
    (c.histories_stay_sound.ensures.in_time _ c.requires.going.sound.legal)
    (rw c.ports.ensures.value at c.in_ok-request_unread.ensures.sent)
    (none_lost _ _ c.lost.ensures.count c.if-lost-gt0.false)

pub returns-clause-sent : goal.returns-clause-sent
returns-clause-sent c = sent_so c

pub returns-clause-keeps : goal.returns-clause-keeps
returns-clause-keeps c =
    request_keeps (setting_of c.args.self.now) (port_at c.args.script.now c.args.place)
    c.args.request (world_of c.args.self.now) (world_in c.request_unread.new.self) (sent_so c)

pub returns-clause-going : goal.returns-clause-going
returns-clause-going c =
    goes_as c.args.script.now (setting_of c.args.self.now) _ (world_in c.request_unread.new.self)
    c.args.self.now.inspectors.items _ c.in_ok-request_unread.ensures.made_with.setting refl
    (request_goes c.args.script.now (setting_of c.args.self.now) (world_of c.args.self.now)
    (world_in c.request_unread.new.self) c.args.self.now.inspectors.items
    (port_at c.args.script.now c.args.place) c.args.request (sent_so c)
    (none_lost _ _ c.lost.ensures.count c.if-lost-gt0.false)
    (rw c.in_ok-request_unread.ensures.made_with.setting at c.lost.ensures.facts)
    c.requires.going)
