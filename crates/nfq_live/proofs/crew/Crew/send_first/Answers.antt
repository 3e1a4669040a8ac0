use Rattle.std.proofs.Common.{[], ◌∙◌, ◌++◌, refl, subst, sym}
use Rattle.std.specs.Prelude.{slice_index_or, slice_set}
use Rattle.netlink_codec.specs.Messages.{first_message}
use Rattle.plane.specs.Passes.{PortView}
use Rattle.plane.specs.Planes.{places_of, setting_of}
use Rattle.live_passes.specs.Numbered.{passes_in}
use Rattle.live_runs.specs.Passes.{SpeaksFirst}
use Rattle.live_work.specs.Minds.{IsMind}
use Rattle.nfq_live.proofs.PortEnd.{says_first}
use Rattle.nfq_live.proofs.AllPasses.{goes_on_at}
use Rattle.live_work.proofs.UnchangedPass.{port_here}
use Rattle.live_work.proofs.PortMinds.{mind_stays}
use Rattle.nfq_live.proofs.PortNumbers.{its_number, zip_keep}
use Rattle.nfq_live.proofs.CrewSteps.{port_there}
use Rattle.live_work.proofs.SentMessages.{speaks}
use Rattle.nfq_live.proofs.UnreadMessages.{counted_unread, if_unread}
use Rattle.nfq_live.proofs.crew.Crew.send_first.Goals as goal

pub message_unread-requires-clause-pass : goal.message_unread-requires-clause-pass
message_unread-requires-clause-pass g c κs within =
    port_there c.args.stage.now.plane.now c.args.self.now c.args.at c.index_mut-pass.result.now
    c.requires.crew c.requires.within c.index_mut-pass.ensures.value

pub returns : goal.returns
returns g c =
    let goes = goes_on_at c.args.stage.now.plane.now c.args.self.now.feeding.pass
    c.args.self.now.closed.items c.parts_stay_whole.ensures c.args.self.now.ports.items c.args.at
    c.index_mut-pass.result.now c.message_unread.new.pass c.requires.within
    c.index_mut-pass.ensures.value c.requires.crew.all
    (record {
      of = c.message_unread.ensures.pass;
      port = c.message_unread.ensures.receiver.1;
      parts = c.message_unread.ensures.parts;
    }) in
    let crew = c.args.self.now in
    let places = places_of c.args.stage.now.plane.now in
    let front = first_message c.args.datagram.now in
    let old = c.index_mut-pass.result.now in
    let new = c.message_unread.new.pass in
    let news = slice_set crew.ports.items c.args.at new in
    record {
      crew = record { all = goes.all; looks = c.requires.crew.looks };
      minds = λ script minds.
          zip_keep (IsMind script) crew.ports.items crew.minds.items c.args.at old new minds
          (λ mind was. mind_stays script old new mind mind
          (subst (λ (p : PortView). IsMind script p mind) (sym c.index_mut-pass.ensures.value) was)
          (record {
            receiver = c.message_unread.ensures.receiver.0;
            counted = counted_unread (places_of c.args.stage.now.plane.now) (setting_of
                c.args.stage.now.plane.now) old.port
                (first_message c.args.datagram.now) old.dids new.dids old.trail new.trail
                c.message_unread.result c.message_unread.ensures.sent
                c.message_unread.ensures.none_logged;
          }) c.message_unread.ensures.receiver.1 refl refl);
      sent = if_unread places (setting_of c.args.stage.now.plane.now) old.port front old.dids
          new.dids old.trail
          new.trail c.message_unread.result
          (λ used. (d : PortView) → SpeaksFirst places
          (slice_index_or crew.ports.items c.args.at d).port front
          (passes_in crew.feeding.pass (crew.ports.items ++ crew.closed.items)
          (slice_index_or crew.ports.items c.args.at d).port)
          (passes_in crew.feeding.pass (news ++ crew.closed.items)
          (slice_index_or crew.ports.items c.args.at d).port) used)
          (λ used after sent d.
          says_first c.args.stage.now.plane.now places (slice_index_or crew.ports.items c.args.at
          d).port front
          crew.feeding.pass crew.ports.items news crew.closed.items old new used goes
          (its_number crew.ports.items c.args.at d old c.requires.within
          c.index_mut-pass.ensures.value)
          (speaks c.ports_speak_by_their_passes.ensures.sends c.args.stage.now.plane.now front old
          old new [] after
          used (port_here c.args.stage.now.plane.now old
          (port_there c.args.stage.now.plane.now crew c.args.at old c.requires.crew
          c.requires.within
          c.index_mut-pass.ensures.value)) sent c.message_unread.ensures.receiver.0))
          c.message_unread.ensures.sent;
      others = λ d. record {
        alone = record { numbers = goes.numbers; closed = refl; feeding = refl };
        others = λ p other. goes.others p (λ same. other (same ∙ sym
            (its_number crew.ports.items c.args.at d old
            c.requires.within c.index_mut-pass.ensures.value)));
      };
    }
