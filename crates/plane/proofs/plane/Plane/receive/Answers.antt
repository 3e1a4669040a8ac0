use Rattle.std.proofs.Common.{◌≡◌, ◌++◌, ◌∷◌, List, [], sym, ap, subst, refl, ◌∙◌, Some}
use Rattle.mailbox.specs.declared.view.Post.{Post}
use Rattle.mailbox.specs.Views.{ReceiverView}
use Rattle.histories.specs.declared.log.Did.{Did}
use Rattle.place_rows.specs.Shares.{IsBalanced}
use Rattle.place_turns.specs.Passes.{AreOf, PassesView}
use Rattle.plane.specs.Passes.{did_take}
use Rattle.plane.specs.Planes.{setting_of}
use Rattle.plane.proofs.CallBalance.{received_logged}
use Rattle.plane.proofs.plane.Plane.receive.Goals as goal

pub returns-in-Some-receive_mail-clause-pass : goal.returns-in-Some-receive_mail-clause-pass
returns-in-Some-receive_mail-clause-pass g c =
    let is = rw (← c.pass.view_is) at c.requires.pass in
    let got = c.in-Some-receive_mail.ensures.received.1 in
    record {
      of = subst (λ (p : PassesView). AreOf c.args.self.now.shared p.locks p.trail.known)
          (sym c.hear.ensures.same) is.of;
      balanced = subst (λ (p : PassesView). IsBalanced (setting_of c.args.self.now) []
          p.trail.known p.trail.lost) (sym c.hear.ensures.same) is.balanced;
      mailbox = is.mailbox ∙ ap (λ (r : ReceiverView). Some r.mailbox) (sym got);
      alone = (
        ap (λ (r : ReceiverView). r.joined) got ∙ is.alone.0,
        ap (λ (r : ReceiverView). r.full) got ∙ is.alone.1,
      );
      unmailed = ap (λ (r : ReceiverView). r.mails) got ∙ is.unmailed;
    }

pub returns-in-None-clause-pass : goal.returns-in-None-clause-pass
returns-in-None-clause-pass g c =
    let is = rw (← c.pass.view_is) at c.requires.pass in
    record {
      of = is.of;
      balanced = is.balanced;
      mailbox = is.mailbox
          ∙ ap (λ (r : ReceiverView). Some r.mailbox) (sym c.in-None.ensures.received);
      alone = (
        ap (λ (r : ReceiverView). r.joined) c.in-None.ensures.received ∙ is.alone.0,
        ap (λ (r : ReceiverView). r.full) c.in-None.ensures.received ∙ is.alone.1,
      );
      unmailed = ap (λ (r : ReceiverView). r.mails) c.in-None.ensures.received ∙ is.unmailed;
    }

pub invariant_of-pass-in-Some-receive_mail : goal.invariant_of-pass-in-Some-receive_mail
invariant_of-pass-in-Some-receive_mail g c =
    let dids = c.pass.inside.log.dids.items in
    let heard = c.pass.inside.receiver.received in
    let mail = c.in-Some-receive_mail.mail in
    let got = c.in-Some-receive_mail.ensures.received in
    let p : Post = record { from = got.0; letter = mail.letter; time = mail.time } in
    let did : c.receive.new.self.dids.items ≡ dids ++ did_take p ∷ [] =
    c.receive.ensures.noted
    ∙ ap (λ (l : List Did). l ++ did_take p ∷ []) c.in_ok-make_room.ensures.same in
    let hears : c.receive_mail.new.receiver.received ≡ heard ++ p ∷ [] =
    ap (λ (r : ReceiverView). r.received) got.1 in (
      record {
        logged = record {
          heard = rw (did, hears) (received_logged dids heard p c.pass.invariant.0.logged.heard);
        };
        closable = c.receive.ensures.room;
      },
      rw (did, hears)
          (c.hear.ensures.timely c.pass.inside.port dids heard p refl c.pass.invariant.1),
    )
