use Rattle.std.proofs.Common.{◌≡◌, sym, subst, arith}
use Rattle.histories.specs.States.{state_of, waiting_at}
use Rattle.histories.specs.Happenings.{queue_of}
use Rattle.place_history.specs.PlaceState.{PlaceState}
use Rattle.locked_place.specs.Mails.{MailsGoOn}
use Rattle.locked_place.specs.Views.{AreNotified}
use Rattle.locked_place.proofs.Results.{ok_anyway, either_way}
use Rattle.locked_place.proofs.SenderSteps.{mails_stay}
use Rattle.locked_place.proofs.requests.ask.Goals as goal

pub returns-clause-notified : goal.returns-clause-notified
returns-clause-notified c senders told there =
    either_way c.ask.result _ _ _ c.ask.ensures.state c.ask.ensures.err
    (λ state. subst (λ (p : PlaceState). AreNotified p.entries senders) (sym state)
    (c.senders_keep_up.ensures.asked c.args.place.now.entries c.args.port c.args.call
    c.args.request senders told there))
    (λ same. subst (λ (p : PlaceState). AreNotified p.entries senders) (sym same) told)

pub returns-clause-room : goal.returns-clause-room
returns-clause-room c =
    let q = state_of c.args.place.now.entries (queue_of c.args.request) in
    let waiting : c.waiting_in-waiting.result ≡ waiting_at q =
    rw c.queue_of.ensures at c.waiting_in-waiting.ensures in
    ok_anyway c.ask.result _
    (omega (
      arith,
      c.what_goes_on_is_in_time.ensures.few q c.args.port c.args.call c.args.request,
      waiting,
      c.in_ok-make_room.ensures.ok,
    ))

pub returns-clause-in_time : goal.returns-clause-in_time
returns-clause-in_time c =
    let q = state_of c.args.place.now.entries (queue_of c.args.request) in
    ok_anyway c.ask.result _
    (c.what_goes_on_is_in_time.ensures.request q c.args.port c.args.call c.args.request
    (c.histories_stay_sound.ensures.in_time c.args.place.now.entries c.legal_at.ensures
    (queue_of c.args.request)))

pub returns-in_err-make_room-clause-mailed : goal.returns-in_err-make_room-clause-mailed
returns-in_err-make_room-clause-mailed c time senders =
    mails_stay time c.args.place.now.entries senders

pub returns-clause-mailed : goal.returns-clause-mailed
returns-clause-mailed c time senders =
    let es = c.args.place.now.entries in
    either_way c.ask.result _ _ _ c.ask.ensures.state c.ask.ensures.err
    (λ state. subst (λ (p : PlaceState). MailsGoOn time es senders p.entries senders) (sym state)
    (c.mails_keep_up.ensures.asked es c.args.port c.args.call c.args.request time senders))
    (λ same. subst (λ (p : PlaceState). MailsGoOn time es senders p.entries senders) (sym same)
    (mails_stay time es senders))
