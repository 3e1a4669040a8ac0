-- What a place keeps, from turn to turn.
use Rattle.std.proofs.Common.{◌≡◌, ◌≤◌, ℕ, List, ◌++◌, Option, length, sym, ap, subst, ◌∙◌}
use Rattle.std.specs.Prelude.{map}
use Rattle.mailbox.specs.Views.{SenderView}
use Rattle.glance.specs.Views.{WriterView}
use Rattle.histories.specs.declared.entry.Entry.{Entry}
use Rattle.place_history.specs.Calls.{with_all}
use Rattle.place_history.specs.PlaceState.{PlaceState}
use Rattle.locked_place.specs.Mails.{MailsGoOn}
use Rattle.locked_place.specs.Shown.{IsShown}
use Rattle.locked_place.specs.Times.{timed, AreTimed, AreMailed}
use Rattle.locked_place.specs.Views.{IsLockedPlace, IsSettled, AreNotified, LockedView, StampsAll}
use Rattle.locked_place.proofs.EntryTimes.{in_time_on, in_time_up, timed_on, untimed_timed}

-- a turn begins
pub begun : (place : PlaceState) (senders : ℕ → Option SenderView) (writer : WriterView)
    (times : List ℕ) (latest time : ℕ) → IsLockedPlace place senders writer times latest →
    latest ≤ time → IsLockedPlace place senders writer times time
begun place senders writer times latest time kept l = record {
  settled = kept.settled;
  notified = kept.notified;
  writes_for = kept.writes_for;
  shown = kept.shown;
  in_time = in_time_up place.entries times latest time kept.in_time l;
  mailed = kept.mailed;
}

-- what a call appended to so many entries was stamped
pub stamps_all : (old new : LockedView) (before : ℕ) (more : List Entry) →
    ((es ms : List Entry) → length es ≡ before → new.entries ≡ es ++ ms →
    new.times ≡ old.times ++ map (λ e. old.latest) ms) →
    before ≡ length old.entries → new.entries ≡ old.entries ++ more → new.latest ≡ old.latest →
    StampsAll old new
stamps_all old new before more stamps many entered same = record {
  more = more;
  entered = entered;
  stamped = stamps old.entries more (sym many) entered;
  same = same;
}

module _ (before : PlaceState) (olds : ℕ → Option SenderView) (writer : WriterView)
    (times : List ℕ) (latest : ℕ) (kept : IsLockedPlace before olds writer times latest)
    (after : PlaceState) (news : ℕ → Option SenderView) (then_ : WriterView)
    (stamps : List ℕ) (more : List Entry) (entered : after.entries ≡ before.entries ++ more)
    (times_on : stamps ≡ times ++ map (λ e. latest) more) where
  in_time : AreTimed after.entries stamps latest
  in_time =
      subst (λ (ts : List ℕ). AreTimed after.entries ts latest) (sym times_on)
      (subst (λ (xs : List Entry). AreTimed xs (times ++ map (λ e. latest) more) latest)
      (sym entered) (in_time_on before.entries times latest more kept.in_time))

  mailed : MailsGoOn latest before.entries olds after.entries news →
      AreMailed (timed after.entries stamps) news
  mailed mails =
      subst (λ (xs : List (Entry × ℕ)). AreMailed xs news)
      (sym (ap (λ (xs : List Entry). timed xs stamps) entered
      ∙ ap (λ (ts : List ℕ). timed (before.entries ++ more) ts) times_on
      ∙ timed_on before.entries times latest more kept.in_time.as_many))
      (mails (timed before.entries times) more
      (untimed_timed before.entries times kept.in_time.as_many) entered kept.mailed)

  -- a turn goes on: what was appended is stamped, and its mails were sent
  pub goes_on : IsSettled after → AreNotified after.entries news →
      after.number ≡ before.number → then_.place ≡ writer.place →
      IsShown after.entries then_.published →
      MailsGoOn latest before.entries olds after.entries news →
      IsLockedPlace after news then_ stamps latest
  goes_on settled notified number place shown mails = record {
    settled = settled;
    notified = notified;
    writes_for = place ∙ kept.writes_for ∙ sym number;
    shown = shown;
    in_time = in_time;
    mailed = mailed mails;
  }

-- the same where nothing is sent
module _ (before : PlaceState) (senders : ℕ → Option SenderView) (writer : WriterView)
    (times : List ℕ) (latest : ℕ) (kept : IsLockedPlace before senders writer times latest)
    (after : PlaceState) (then_ : WriterView) (stamps : List ℕ) (fs : List Entry)
    (state : after ≡ with_all before fs)
    (times_on : stamps ≡ times ++ map (λ e. latest) fs) where
  pub quiet_goes_on : AreNotified (before.entries ++ fs) senders → then_.place ≡ writer.place →
      IsShown after.entries then_.published →
      MailsGoOn latest before.entries senders (before.entries ++ fs) senders →
      IsLockedPlace after senders then_ stamps latest
  quiet_goes_on notified place shown mails =
      let entered : after.entries ≡ before.entries ++ fs = ap (λ p. p.entries) state in
      goes_on before senders writer times latest kept after senders then_ stamps fs entered times_on
      (record {
        no_offer = ap (λ p. p.offer) state ∙ kept.settled.no_offer;
        standing = ap (λ p. p.is_left) state ∙ kept.settled.standing;
      })
      (subst (λ (xs : List Entry). AreNotified xs senders) (sym entered) notified)
      (ap (λ p. p.number) state) place shown
      (subst (λ (xs : List Entry). MailsGoOn latest before.entries senders xs senders)
      (sym entered) mails)
