use Rattle.std.proofs.Common.{◌∙◌, [], refl, sym, length}
use Rattle.std.proofs.lemmas.Bool.{eqb-true}
use Rattle.netlink_codec.specs.Messages.{first_message}
use Rattle.packet_moves.specs.Messages.{SendsUnread}
use Rattle.solo_plane.specs.PlaneView.{world_in}
use Rattle.solo_run.specs.RunState.{SendsFirst, port_at, setting_of, world_of}
use Rattle.solo_run.proofs.EnoughMemory.{sends_enough}
use Rattle.solo_run.proofs.FirstMessage.{none_first, none_lost, sends_go, sends_keep}
use Rattle.solo_run.proofs.RunProgress.{goes_as}
use Rattle.solo_run.proofs.run.Run.send_first.Goals as goal
use Rattle.solo_run.proofs.run.Run.send_first.Goals.{Else-lost-gt0}

pub returns-then-is_empty-clause-sent : goal.returns-then-is_empty-clause-sent
returns-then-is_empty-clause-sent c =
    none_first (setting_of c.args.self.now) (port_at c.args.script.now c.args.place)
    c.args.datagram.now (first_message c.args.datagram.now) (world_of c.args.self.now) refl
    (eqb-true (length c.args.datagram.now) 0 (sym c.is_empty.ensures ∙ c.if-is_empty.true))

sends_so : (c : Else-lost-gt0) → SendsFirst (setting_of c.args.self.now)
    (port_at c.args.script.now c.args.place) (first_message c.args.datagram.now)
    (world_of c.args.self.now) (world_in c.message_unread.new.self) c.in_ok-used.used
sends_so c =
    let sent : SendsUnread (setting_of c.args.self.now) (port_at c.args.script.now c.args.place)
    (first_message c.args.datagram.now) (world_of c.args.self.now)
    (world_in c.message_unread.new.self) c.in_ok-used.used =
    rw c.ports.ensures.value at c.in_ok-used.ensures.sent in
    sends_enough (setting_of c.args.self.now) _ _ (world_of c.args.self.now)
    (world_in c.message_unread.new.self) [] (sent []).0 c.in_ok-used.used (record {
      arrival = c.what_goes_on_is_in_time.ensures.arrival;
      request = c.what_goes_on_is_in_time.ensures.request;
    })
    (c.histories_stay_sound.ensures.in_time _ c.requires.going.sound.legal) (sent []).1
    (none_lost _ _ c.lost.ensures.count c.if-lost-gt0.false)

pub returns-clause-sent : goal.returns-clause-sent
returns-clause-sent c = sends_so c

pub returns-clause-keeps : goal.returns-clause-keeps
returns-clause-keeps c =
    sends_keep (setting_of c.args.self.now) _ _ (world_of c.args.self.now)
    (world_in c.message_unread.new.self) c.in_ok-used.used (sends_so c)

pub returns-clause-going : goal.returns-clause-going
returns-clause-going c =
    goes_as c.args.script.now (setting_of c.args.self.now) _ (world_in c.message_unread.new.self)
    c.args.self.now.inspectors.items _ c.in_ok-used.ensures.made_with.setting refl
    (sends_go c.args.script.now (setting_of c.args.self.now) (world_of c.args.self.now)
    (world_in c.message_unread.new.self) c.args.self.now.inspectors.items
    (port_at c.args.script.now c.args.place) _ c.in_ok-used.used (sends_so c)
    (none_lost _ _ c.lost.ensures.count c.if-lost-gt0.false)
    (rw c.in_ok-used.ensures.made_with.setting at c.lost.ensures.facts)
    c.requires.going)
