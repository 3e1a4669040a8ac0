-- What an arrival puts into mailboxes.
use Rattle.std.proofs.Common.{◌≡◌, ◌≢◌, ℕ, ◌+◌, List, [], ◌∷◌, ◌++◌, Option, Some, None, Bool}
use Rattle.std.proofs.Common.{true, false, refl, sym, ap, ◌∙◌, append-nil, subst, inl, inr, arith}
use Rattle.std.proofs.Common.{length}
use Rattle.std.specs.Prelude.{IfSome, IsSome, option_map, map, ◌==◌, ◌||◌}
use Rattle.std.proofs.lemmas.Bool.{cases_Bool, eqb-true, eqb-false, eq-eqb, ne_eqb}
use Rattle.packet_entry.specs.declared.packet.Card.{Card}
use Rattle.packet_entry.specs.declared.letter.Letter.{Letter}
use Rattle.packet_entry.specs.Numbers.{last_visit}
use Rattle.nfqa_msgs.specs.Numbers.{copy_none}
use Rattle.queue_core.specs.State.{Bound, fails_open}
use Rattle.queue_core.specs.Step.{step, next_id, is_decided_early}
use Rattle.queue_core.specs.WithOffer.{letter_of}
use Rattle.queue_core.specs.declared.event.Event.TheVariants.{Arrive}
use Rattle.queue_core.specs.declared.event.Reply.{Reply}
use Rattle.queue_core.specs.declared.event.Reply.TheVariants.{Arrived}
use Rattle.queue_core.specs.declared.offers.Outcome.{Outcome}
use Rattle.queue_core.specs.declared.offers.Outcome.TheVariants as outcome
use Rattle.queue_core.specs.Laws.{TellsArrival}
use Rattle.mailbox.specs.declared.view.Mail.{Mail}
use Rattle.mailbox.specs.Views.{SenderView, sender_with, sender_back}
use Rattle.histories.specs.declared.entry.Entry.{Entry}
use Rattle.histories.specs.Journeys.{Arrival}
use Rattle.histories.specs.States.{state_of, entry_of}
use Rattle.histories.specs.Happenings.{arrive}
use Rattle.place_history.specs.Calls.{IsOffered, IsTurnedAway}
use Rattle.locked_place.specs.Points.{Point, point_after}
use Rattle.histories.specs.Letters.{letters_under, lacks_under, letters_of_outcome}
use Rattle.histories.specs.Letters.{letters_of_reply}
use Rattle.locked_place.specs.Mails.{MailsGoOn}
use Rattle.locked_place.specs.Notices.{letters_at, lacks_at}
use Rattle.locked_place.specs.Views.{AreNotified}
use Rattle.locked_place.proofs.EntryPoints.{Laws, once}
use Rattle.locked_place.proofs.SenderSteps.{following, follows_same, notified_on, mails_go_on}
use Rattle.locked_place.proofs.SenderSteps.{mails_at, port_after}

-- ---- the step of an arrival
first_false : (a b : Bool) → (a || b) ≡ false → a ≡ false
first_false true b is = is
first_false false b is = refl

second_false : (a b : Bool) → (a || b) ≡ false → b ≡ false
second_false true b is = absurd (cc)
second_false false b is = is

-- a bound queue that doesn't turn an arrival away takes it where there is room
taken_with_room : (q : Bound) (card : Card) (bypass : Bool) →
    is_decided_early (Some q) card ≡ false →
    (step (Some q) (Arrive card bypass true)).reply ≡ Arrived (outcome.Taken (next_id q))
taken_with_room q card bypass late =
    let visit = first_false (card.visit == last_visit) _ late in
    let turned = second_false (card.visit == last_visit) _ late in
    let mode = first_false (q.mode == copy_none) _ turned in
    let full = second_false (q.mode == copy_none) _ turned in
    rw (visit, mode, full) refl

-- and where there is none it doesn't
not_without_room : (queue : ℕ) (q : Bound) (card : Card) (bypass : Bool) →
    is_decided_early (Some q) card ≡ false →
    letters_of_reply queue q card (step (Some q) (Arrive card bypass false)).reply ≡ []
not_without_room queue q card bypass late =
    let visit = first_false (card.visit == last_visit) _ late in
    let turned = second_false (card.visit == last_visit) _ late in
    let mode = first_false (q.mode == copy_none) _ turned in
    let full = second_false (q.mode == copy_none) _ turned in
    elim (cases_Bool (fails_open q)) [
      | inl h ↦ rw (visit, mode, full, h) refl
      | inr h ↦ rw (visit, mode, full, h) refl
    ]

-- ---- arrivals
-- an outcome by which a packet left isn't that of a taken one
not_taken : (queue : ℕ) (q : Bound) (card : Card) (o : Outcome) → TellsArrival (Arrived o) 1 →
    letters_of_outcome queue q card o ≡ []
not_taken queue q card (outcome.Taken id) tells = absurd (omega (arith, tells))
not_taken queue q card outcome.Overflow tells = refl
not_taken queue q card outcome.OverflowOpen tells = refl
not_taken queue q card (outcome.UserFull id) tells = refl
not_taken queue q card (outcome.UserFullOpen id) tells = refl
not_taken queue q card outcome.NoQueue tells = refl
not_taken queue q card outcome.Bypassed tells = refl
not_taken queue q card outcome.CopyNone tells = refl
not_taken queue q card outcome.Loop tells = refl

no_letters : (port : ℕ) (q : Option Bound) (queue : ℕ) (a : Arrival) (room : Bool) (o : Outcome) →
    TellsArrival (Arrived o) 1 →
    letters_under port q (record { queue = queue; event = arrive a room; reply = Arrived o }) ≡ []
no_letters port None queue a room o tells = refl
no_letters port (Some q) queue a room o tells =
    elim (cases_Bool (port == q.port)) [
      | inl h ↦ rw h (not_taken queue q a.card o tells)
      | inr h ↦ rw h refl
    ]

no_lack : (port : ℕ) (q : Option Bound) (queue : ℕ) (a : Arrival) (reply : Reply) →
    lacks_under port q (record { queue = queue; event = arrive a true; reply = reply }) ≡ false
no_lack port None queue a reply = refl
no_lack port (Some q) queue a reply =
    elim (cases_Bool (port == q.port)) [ inl h ↦ rw h refl | inr h ↦ rw h refl ]

-- an arrival that is turned away before a notice is offered
module _ (laws : Laws) (es : List Entry) (a : Arrival) (o : Outcome) (back : Card)
    (senders : ℕ → Option SenderView) (away : IsTurnedAway a true o back es) where
  abbrev it : Entry
  it = entry_of es a.queue (arrive a true)

  tells : TellsArrival (Arrived o) 1
  tells =
      rw away.reply at (subst (λ n.
      TellsArrival (step (state_of es a.queue) (arrive a true)).reply n)
      (ap length away.leaves) (laws.tells (state_of es a.queue) (arrive a true)))

  stays : (time port : ℕ) →
      senders port ≡ option_map (following time (point_after es it) port) (senders port)
  stays time port =
      follows_same time (point_after es it) port (senders port)
      (ap (λ (r : Reply). letters_under port (state_of es a.queue)
      (record { queue = a.queue; event = arrive a true; reply = r })) away.reply
      ∙ no_letters port (state_of es a.queue) a.queue a true o tells)
      (no_lack port (state_of es a.queue) a.queue a it.reply)

  pub turned_away : AreNotified es senders → AreNotified (es ++ it ∷ []) senders
  turned_away told =
      notified_on laws es it 0 senders senders told (stays 0)
      (port_after (λ p. IsSome (senders p)) (state_of es a.queue) (arrive a true) tt
      (told.known a.queue))

  pub mails_turned_away : (time : ℕ) → MailsGoOn time es senders (es ++ it ∷ []) senders
  mails_turned_away time = mails_go_on time es it senders senders (stays time)

-- the port of a notice that is offered has a sender
pub has_sender : (es : List Entry) (a : Arrival) (port : ℕ) (letter : Letter)
    (senders : ℕ → Option SenderView) → AreNotified es senders → IsOffered a port letter es →
    IsSome (senders port)
has_sender es a port letter senders told offered =
    rw offered.to_port (rw offered.state at (told.known a.queue))

-- a notice at a time
abbrev noted : ℕ → Letter → Mail
noted time l = record { letter = l; time = time }

-- one sender has one notice more
put_in : (letter : Letter) (time port : ℕ) (old new : Option SenderView) (p : Point) →
    letters_at port p ≡ letter ∷ [] → lacks_at port p ≡ false → IsSome old →
    IfSome old (λ s. new ≡ Some (sender_with s (noted time letter))) →
    new ≡ option_map (following time p port) old
put_in letter time port None new p letters lack there is = absurd (cc)
put_in letter time port (Some s) new p letters lack there is =
    is
    ∙ ap (λ (l : List Letter). Some (record s {
      sent = s.sent ++ l;
      mails = s.mails ++ map (noted time) l;
    })) (sym letters)
    ∙ ap (λ n. Some (record s {
      sent = s.sent ++ letters_at port p;
      mails = s.mails ++ mails_at time port p;
      full = n;
    }))
    (omega (arith, ap once lack))

came_back : (time port : ℕ) (old new : Option SenderView) (p : Point) → letters_at port p ≡ [] →
    lacks_at port p ≡ true → IsSome old → IfSome old (λ s. new ≡ Some (sender_back s)) →
    new ≡ option_map (following time p port) old
came_back time port None new p letters lack there is = absurd (cc)
came_back time port (Some s) new p letters lack there is =
    is
    ∙ ap (λ (l : List Letter). Some (record s { sent = l; full = s.full + 1 }))
    (sym (ap (λ (l : List Letter). s.sent ++ l) letters ∙ append-nil s.sent))
    ∙ ap (λ (m : List Mail). Some (record s {
      sent = s.sent ++ letters_at port p;
      mails = m;
      full = s.full + 1;
    }))
    (sym (ap (λ (l : List Letter). s.mails ++ map (noted time) l) letters ∙ append-nil s.mails))
    ∙ ap (λ n. Some (record s {
      sent = s.sent ++ letters_at port p;
      mails = s.mails ++ mails_at time port p;
      full = n;
    }))
    (omega (arith, ap once lack))

-- what a point of an arrival at a bound queue is to a port, where its notice was offered
module _ (es : List Entry) (a : Arrival) (q : Bound)
    (state : state_of es a.queue ≡ Some q) (late : is_decided_early (Some q) a.card ≡ false) where
  abbrev at : Bool → Point
  at room = point_after es (entry_of es a.queue (arrive a room))

  letter_own : letters_at q.port (at true) ≡ letter_of a.queue q (next_id q) a.card ∷ []
  letter_own =
      rw state
      (rw (eq-eqb q.port q.port refl)
      (rw (taken_with_room q a.card a.bypass late) refl))

  letter_other : (port : ℕ) (room : Bool) → port ≢ q.port → letters_at port (at room) ≡ []
  letter_other port room other = rw state (rw (ne_eqb port q.port other) refl)

  lack_other : (port : ℕ) (room : Bool) → port ≢ q.port → lacks_at port (at room) ≡ false
  lack_other port room other = rw state (rw (ne_eqb port q.port other) refl)

  letter_none : letters_at q.port (at false) ≡ []
  letter_none =
      rw state
      (rw (eq-eqb q.port q.port refl)
      (not_without_room a.queue q a.card a.bypass late))

  lack_own : lacks_at q.port (at false) ≡ true
  lack_own = rw state (rw (eq-eqb q.port q.port refl) refl)

  pub follows_so : (time : ℕ) (room : Bool) (olds news : ℕ → Option SenderView) →
      IsSome (olds q.port) →
      (room ≡ true → IfSome (olds q.port) (λ s. news q.port
      ≡ Some (sender_with s (noted time (letter_of a.queue q (next_id q) a.card))))) →
      (room ≡ false → IfSome (olds q.port) (λ s. news q.port ≡ Some (sender_back s))) →
      ((p : ℕ) → p ≢ q.port → news p ≡ olds p) →
      (p : ℕ) → news p ≡ option_map (following time (at room) p) (olds p)
  follows_so time room olds news there put back others p =
      elim (cases_Bool (p == q.port)) [
        | inl own ↦ subst (λ n. news n ≡ option_map (following time (at room) n) (olds n))
            (sym (eqb-true p q.port own)) (own_one room put back)
        | inr other ↦ others p (eqb_no other)
            ∙ follows_same time (at room) p (olds p) (letter_other p room (eqb_no other))
            (lack_other p room (eqb_no other))
      ]
    where
      eqb_no : (p == q.port) ≡ false → p ≢ q.port
      eqb_no no_ same = eqb-false p q.port no_ same

      own_one : (room : Bool) →
          (room ≡ true → IfSome (olds q.port) (λ s. news q.port
          ≡ Some (sender_with s (noted time (letter_of a.queue q (next_id q) a.card))))) →
          (room ≡ false → IfSome (olds q.port) (λ s. news q.port ≡ Some (sender_back s))) →
          news q.port ≡ option_map (following time (at room) q.port) (olds q.port)
      own_one true put back =
          put_in (letter_of a.queue q (next_id q) a.card) time q.port (olds q.port) (news q.port)
          (at true) letter_own (no_lack q.port (state_of es a.queue) a.queue a _) there
          (put refl)
      own_one false put back =
          came_back time q.port (olds q.port) (news q.port) (at false) letter_none lack_own there
          (back refl)

-- what was put in at a time was put in at some time
pub at_some_time : (letter : Letter) (time : ℕ) (old new : Option SenderView) →
    IfSome old (λ s. new ≡ Some (sender_with s (noted time letter))) →
    IfSome old (λ s. (t : ℕ) × (new ≡ Some (sender_with s (noted t letter))))
at_some_time letter time None new put = tt
at_some_time letter time (Some s) new put = (time, put)

-- a notice that was put in has some time
time_found : (room : Bool) (letter : Letter) (old new : Option SenderView) →
    (room ≡ true → IfSome old
    (λ s. (time : ℕ) × (new ≡ Some (sender_with s (noted time letter))))) →
    (time : ℕ)
    × (room ≡ true → IfSome old (λ s. new ≡ Some (sender_with s (noted time letter))))
time_found false letter old new put = (0, λ yes_. absurd (cc))
time_found true letter None new put = (0, λ yes_. tt)
time_found true letter (Some s) new put = ((put refl).0, λ yes_. (put refl).1)

-- an arrival whose notice is offered
module _ (es : List Entry) (a : Arrival) (room : Bool) (port : ℕ) (letter : Letter)
    (olds news : ℕ → Option SenderView) where
  follows_offer : (time : ℕ) → IsSome (olds port) → IsOffered a port letter es →
      (room ≡ true → IfSome (olds port)
      (λ s. news port ≡ Some (sender_with s (noted time letter)))) →
      (room ≡ false → IfSome (olds port) (λ s. news port ≡ Some (sender_back s))) →
      ((p : ℕ) → p ≢ port → news p ≡ olds p) → (p : ℕ) →
      news p
      ≡ option_map (following time (point_after es (entry_of es a.queue (arrive a room))) p)
      (olds p)
  follows_offer time there is put back others =
      let q = is.bound in
      follows_so es a q is.state is.undecided time room olds news
      (rw is.to_port at there)
      (rw (is.to_port, is.notice) at put) (rw is.to_port at back)
      (rw is.to_port at others)

  pub offered : Laws → AreNotified es olds → IsOffered a port letter es →
      (room ≡ true → IfSome (olds port)
      (λ s. (time : ℕ) × (news port ≡ Some (sender_with s (noted time letter))))) →
      (room ≡ false → IfSome (olds port) (λ s. news port ≡ Some (sender_back s))) →
      ((p : ℕ) → p ≢ port → news p ≡ olds p) →
      AreNotified (es ++ entry_of es a.queue (arrive a room) ∷ []) news
  offered laws told is put back others =
      let found = time_found room letter (olds port) (news port) put in
      let there = has_sender es a port letter olds told is in
      notified_on laws es (entry_of es a.queue (arrive a room)) found.0 olds news told
      (follows_offer found.0 there is found.1 back others)
      (port_after (λ p. IsSome (olds p)) (state_of es a.queue) (arrive a room) tt
      (told.known a.queue))

  pub mails_offered : (time : ℕ) → IsSome (olds port) → IsOffered a port letter es →
      (room ≡ true → IfSome (olds port)
      (λ s. news port ≡ Some (sender_with s (noted time letter)))) →
      (room ≡ false → IfSome (olds port) (λ s. news port ≡ Some (sender_back s))) →
      ((p : ℕ) → p ≢ port → news p ≡ olds p) →
      MailsGoOn time es olds (es ++ entry_of es a.queue (arrive a room) ∷ []) news
  mails_offered time there is put back others =
      mails_go_on time es (entry_of es a.queue (arrive a room)) olds news
      (follows_offer time there is put back others)
