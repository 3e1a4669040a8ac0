-- What an entry makes of the senders.
use Rattle.std.proofs.Common.{◌≡◌, ℕ, ◌+◌, List, [], ◌∷◌, ◌++◌, Option, Some, None, false, refl}
use Rattle.std.proofs.Common.{sym}
use Rattle.std.proofs.Common.{ap, ◌∙◌, append-nil, append_assoc, subst, inl, inr, arith}
use Rattle.std.specs.Prelude.{IfSome, IsSome, option_map, map}
use Rattle.std.proofs.lemmas.Bool.{cases_Bool, eqb-true}
use Rattle.std.proofs.lemmas.List.{append_cancel_left}
use Rattle.packet_entry.specs.declared.letter.Letter.{Letter}
use Rattle.queue_core.specs.State.{Bound}
use Rattle.queue_core.specs.Step.{step}
use Rattle.queue_core.specs.declared.event.Event.{Event}
use Rattle.queue_core.specs.Owners.{IsOwned, IsAsked, owned_after}
use Rattle.mailbox.specs.declared.view.Mail.{Mail}
use Rattle.mailbox.specs.Views.{SenderView}
use Rattle.total_order.specs.Orders.{untimed}
use Rattle.histories.specs.declared.entry.Entry.{Entry}
use Rattle.histories.specs.History.{is_of}
use Rattle.histories.specs.States.{state_of}
use Rattle.locked_place.specs.Mails.{MailsGoOn}
use Rattle.locked_place.specs.Notices.{HasSent, letters_at, lacks_at}
use Rattle.locked_place.specs.Points.{Point, point_after}
use Rattle.locked_place.specs.Times.{all_at, mails_after, mails_to, AreMailed}
use Rattle.locked_place.specs.Views.{AreNotified, port_of}
use Rattle.locked_place.proofs.EntryPoints.{Laws, once, letters_on, lacking_on, state_own}
use Rattle.locked_place.proofs.EntryPoints.{state_other}

-- ---- one sender

abbrev mail_at : ℕ → Letter → Mail
mail_at time l = record { letter = l; time = time }

-- the notices of a point with the time of its entry
abbrev pub mails_at : ℕ → ℕ → Point → List Mail
mails_at time port p = map (mail_at time) (letters_at port p)

-- what a point whose entry has this time makes of the sender of a port
abbrev pub following : ℕ → Point → ℕ → SenderView → SenderView
following time p port s =
    record s {
      sent = s.sent ++ letters_at port p;
      mails = s.mails ++ mails_at time port p;
      full = s.full + once (lacks_at port p);
    }

-- nothing is put in, and nothing comes back
pub follows_same : (time : ℕ) (p : Point) (port : ℕ) (o : Option SenderView) →
    letters_at port p ≡ [] → lacks_at port p ≡ false → o ≡ option_map (following time p port) o
follows_same time p port None none has = refl
follows_same time p port (Some s) none has =
    ap (λ (l : List Letter). Some (record s { sent = l }))
    (sym (ap (λ (l : List Letter). s.sent ++ l) none ∙ append-nil s.sent))
    ∙ ap (λ (m : List Mail). Some (record s { sent = s.sent ++ letters_at port p; mails = m }))
    (sym (ap (λ (l : List Letter). s.mails ++ map (mail_at time) l) none ∙ append-nil s.mails))
    ∙ ap (λ n. Some (record s {
      sent = s.sent ++ letters_at port p;
      mails = s.mails ++ mails_at time port p;
      full = n;
    }))
    (omega (arith, ap once has))

-- ---- letters

posted_on : (es : List Entry) (e : Entry) (port time : ℕ) (old new : Option SenderView) →
    IfSome old (HasSent es port) → new ≡ option_map (following time (point_after es e) port) old →
    IfSome new (HasSent (es ++ e ∷ []) port)
posted_on es e port time None new was is = rw is tt
posted_on es e port time (Some s) new was is =
    rw is
    (record {
      sent = ap (λ (l : List Letter). l ++ letters_at port (point_after es e)) was.sent
          ∙ sym (letters_on port es e);
      full = ap (λ n. n + once (lacks_at port (point_after es e))) was.full
          ∙ sym (lacking_on port es e);
    })

still_some : (old new : Option SenderView) (f : SenderView → SenderView) → new ≡ option_map f old →
    IsSome old → IsSome new
still_some None new f is some = absurd (cc)
still_some (Some s) new f is some = rw is refl

mapped : (P Q : ℕ → Type 0) → ((n : ℕ) → P n → Q n) → (o : Option ℕ) → IfSome o P → IfSome o Q
mapped P Q f None h = tt
mapped P Q f (Some n) h = f n h

-- an entry that leaves its queue with a port that has a sender, or absent
pub notified_on : Laws → (es : List Entry) (e : Entry) (time : ℕ)
    (olds news : ℕ → Option SenderView) → AreNotified es olds →
    ((port : ℕ) →
    news port ≡ option_map (following time (point_after es e) port) (olds port)) →
    IfSome (port_of (step (state_of es e.queue) e.event).state) (λ p. IsSome (olds p)) →
    AreNotified (es ++ e ∷ []) news
notified_on laws es e time olds news told is has = record {
  each = λ port. posted_on es e port time (olds port) (news port) (told.each port) (is port);
  known = λ queue.
      mapped (λ p. IsSome (olds p)) (λ p. IsSome (news p))
      (λ p some. still_some (olds p) (news p) (following time (point_after es e) p) (is p) some) _
      (has_at queue);
}
  where
    has_at : (queue : ℕ) →
        IfSome (port_of (state_of (es ++ e ∷ []) queue)) (λ p. IsSome (olds p))
    has_at queue =
        elim (cases_Bool (is_of queue e)) [
          | inl own ↦ subst (λ (q : Option Bound). IfSome (port_of q) (λ p. IsSome (olds p)))
              (sym (state_own laws es e queue own))
              (subst (λ n. IfSome (port_of (step (state_of es n) e.event).state)
              (λ p. IsSome (olds p))) (eqb-true e.queue queue own) has)
          | inr other ↦ subst (λ (q : Option Bound). IfSome (port_of q) (λ p. IsSome (olds p)))
              (sym (state_other laws es e queue other)) (told.known queue)
        ]

-- a step leaves its queue bound to the port that it was bound to, or to the one that asks
pub port_after : (P : ℕ → Type 0) (q : Option Bound) (e : Event) → IsAsked P e →
    IfSome (port_of q) P → IfSome (port_of (step q e).state) P
port_after P q e by has = of_port (step q e).state (owned_after P q e by (owned q has))
  where
    owned : (q : Option Bound) → IfSome (port_of q) P → IsOwned P q
    owned None has = tt
    owned (Some b) has = has

    of_port : (q : Option Bound) → IsOwned P q → IfSome (port_of q) P
    of_port None has = tt
    of_port (Some b) has = has

-- ---- letters with times

mails_on : (port : ℕ) (xs : List (Entry × ℕ)) (e : Entry) (time : ℕ) →
    mails_to port (xs ++ (e, time) ∷ [])
    ≡ mails_to port xs ++ mails_at time port (point_after (untimed xs) e)
mails_on port xs e time = after [] xs
  where
    after : (before : List Entry) (xs : List (Entry × ℕ)) →
        mails_after port before (xs ++ (e, time) ∷ [])
        ≡ mails_after port before xs ++ mails_at time port (point_after (before ++ untimed xs) e)
    after before [] =
        append-nil (mails_at time port (point_after before e))
        ∙ ap (λ (b : List Entry). mails_at time port (point_after b e)) (sym (append-nil before))
    after before (x ∷ xs) =
        ap (λ (ms : List Mail). mails_at x.1 port (point_after before x.0) ++ ms)
        (after (before ++ x.0 ∷ []) xs
        ∙ ap (λ (b : List Entry).
        mails_after port (before ++ x.0 ∷ []) xs ++ mails_at time port (point_after b e))
        (append_assoc before (x.0 ∷ []) (untimed xs)))
        ∙ sym (append_assoc (mails_at x.1 port (point_after before x.0))
        (mails_after port (before ++ x.0 ∷ []) xs)
        (mails_at time port (point_after (before ++ x.0 ∷ untimed xs) e)))

mailed_one : (xs : List (Entry × ℕ)) (e : Entry) (time port : ℕ) (old new : Option SenderView) →
    IfSome old (λ s. s.mails ≡ mails_to port xs) →
    new ≡ option_map (following time (point_after (untimed xs) e) port) old →
    IfSome new (λ s. s.mails ≡ mails_to port (xs ++ (e, time) ∷ []))
mailed_one xs e time port None new was is = rw is tt
mailed_one xs e time port (Some s) new was is =
    rw is
    (ap (λ (ms : List Mail). ms ++ mails_at time port (point_after (untimed xs) e)) was
    ∙ sym (mails_on port xs e time))

-- an entry at a time
pub mailed_on : (xs : List (Entry × ℕ)) (e : Entry) (time : ℕ)
    (olds news : ℕ → Option SenderView) → AreMailed xs olds →
    ((port : ℕ) →
    news port ≡ option_map (following time (point_after (untimed xs) e) port) (olds port)) →
    AreMailed (xs ++ (e, time) ∷ []) news
mailed_on xs e time olds news told is port =
    mailed_one xs e time port (olds port) (news port) (told port) (is port)

pub mails_go_on : (time : ℕ) (es : List Entry) (e : Entry) (olds news : ℕ → Option SenderView) →
    ((port : ℕ) →
    news port ≡ option_map (following time (point_after es e) port) (olds port)) →
    MailsGoOn time es olds (es ++ e ∷ []) news
mails_go_on time es e olds news is xs more same on told =
    subst (λ (m : List Entry). AreMailed (xs ++ all_at time m) news)
    (append_cancel_left es (e ∷ []) more on)
    (mailed_on xs e time olds news told
    (subst (λ (b : List Entry). (port : ℕ) →
    news port ≡ option_map (following time (point_after b e) port) (olds port)) (sym same) is))

-- nothing is appended, and nothing sent
pub mails_stay : (time : ℕ) (es : List Entry) (senders : ℕ → Option SenderView) →
    MailsGoOn time es senders es senders
mails_stay time es senders xs more same on told =
    subst (λ (m : List Entry). AreMailed (xs ++ all_at time m) senders)
    (append_cancel_left es [] more (append-nil es ∙ on))
    (subst (λ (l : List (Entry × ℕ)). AreMailed l senders) (sym (append-nil xs)) told)
