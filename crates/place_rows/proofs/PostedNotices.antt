-- Notices that ports received, with their times: each is that of an arrival that was not later.
use Rattle.std.proofs.Common.{◌≡◌, ◌<◌, ◌≤◌, ◌+◌, ℕ, List, [], ◌∷◌, ◌++◌, length}
use Rattle.std.proofs.Common.{refl, sym, ap, ◌∙◌, subst, arith, inl, inr, append_assoc}
use Rattle.std.proofs.Common.{map}
use Rattle.std.specs.Prelude.{slice_get, Option, Some, None, nat_eq, ◌==◌}
use Rattle.std.specs.List.{AllZip}
use mathlib.Core.List.{IsPrefix}
use Rattle.std.proofs.lemmas.List.{map-append, length-map}
use Rattle.std.proofs.lemmas.Bool.{cases_Bool, eq-eqb}
use Rattle.packet_entry.specs.declared.letter.Letter.{Letter}
use Rattle.packet_entry.specs.declared.packet.Card.{Card}
use Rattle.queue_core.specs.State.{Bound}
use Rattle.mailbox.specs.declared.view.Mail.{Mail}
use Rattle.mailbox.specs.declared.view.Post.{Post}
use Rattle.mailbox.specs.Views.{ReceiverView, mail_of, mails_of, TimedPrefixes}
use Rattle.histories.specs.declared.entry.Entry.{Entry}
use Rattle.histories.specs.History.{history}
use Rattle.histories.specs.States.{state_of}
use Rattle.histories.specs.Letters.{letters_under}
use Rattle.total_order.specs.Orders.{EachIs, Pairs, untimed}
use Rattle.total_order.specs.Steps.{Has, taken, taken_by}
use Rattle.locked_place.specs.Points.{point_after}
use Rattle.locked_place.specs.Notices.{letters_at}
use Rattle.locked_place.specs.Times.{mails_after, mails_to}
use Rattle.place_rows.specs.declared.ending.PortReceiver.{PortReceiver}
use Rattle.place_rows.specs.Lists.{Every, AllFrom}
use Rattle.place_rows.specs.Hearing.{Among, IsHeard, IsHeardAll}
use Rattle.place_rows.specs.Timed.{HearsInTime, IsPostedIn, IsTimedListAt}
use Rattle.place_rows.specs.Rows.{TimedKnown}
use Rattle.place_rows.proofs.EntryLetters.{event_taken}
use Rattle.place_rows.proofs.Lists.{every_both, every_in_front, every_mapped}
use Rattle.place_rows.proofs.PlaceLists.{at_from}
use Rattle.place_rows.proofs.HeardNotices.{has_all, all_within, pushed}

-- ---- facts of each thing

module _ {A : Type 0} where
  each_mapped : (P Q : A → Type 0) (xs : List A) → ((x : A) → P x → Q x) → EachIs P xs → EachIs Q xs
  each_mapped P Q [] f all = tt
  each_mapped P Q (x ∷ xs) f all = (f x all.0, each_mapped P Q xs f all.1)

  each_both : (P : A → Type 0) (xs ys : List A) → EachIs P xs → EachIs P ys → EachIs P (xs ++ ys)
  each_both P [] ys one two = two
  each_both P (x ∷ xs) ys one two = (one.0, each_both P xs ys one.1 two)

  each_of : (P Q : A → Type 0) (xs : List A) → ((x : A) → P x → Q x) → Every P xs → EachIs Q xs
  each_of P Q [] f all = tt
  each_of P Q (x ∷ xs) f all = (f x all.0, each_of P Q xs f all.1)

every_made : {X Y : Type 0} (f : X → Y) (P : Y → Type 0) (xs : List X) →
    Every (λ x. P (f x)) xs → Every P (map f xs)
every_made f P [] all = tt
every_made f P (x ∷ xs) all = (all.0, every_made f P xs all.1)

from_zero : {A : Type 0} (xs : List (A × ℕ)) → EachIs (λ y. 0 ≤ y.1) xs
from_zero [] = tt
from_zero (x ∷ xs) = (omega arith, from_zero xs)

-- ---- packets that were taken

-- a packet that is in a list is in a longer one
has_behind : (number visit : ℕ) (xs ys : List Card) → Has number visit ys →
    Has number visit (xs ++ ys)
has_behind number visit [] ys has = has
has_behind number visit (x ∷ xs) ys has = inr (has_behind number visit xs ys has)

has_front : (number visit : ℕ) (xs ys : List Card) → Has number visit xs →
    Has number visit (xs ++ ys)
has_front number visit [] ys has = absurd has
has_front number visit (x ∷ xs) ys (inl same) = inl same
has_front number visit (x ∷ xs) ys (inr has) = inr (has_front number visit xs ys has)

-- what entries took, one list after the other
taken_both : (es fs : List Entry) → taken (es ++ fs) ≡ taken es ++ taken fs
taken_both [] fs = refl
taken_both (e ∷ es) fs =
    ap (λ (l : List Card). taken_by e.event e.reply ++ l) (taken_both es fs)
    ∙ sym (append_assoc (taken_by e.event e.reply) (taken es) (taken fs))

-- what the last entry took is among what all took
taken_last : (number visit queue : ℕ) (es : List Entry) (e : Entry) → queue ≡ e.queue →
    Has number visit (taken_by e.event e.reply) →
    Has number visit (taken (history queue (es ++ e ∷ [])))
taken_last number visit queue es e own has =
    subst (λ (l : List Entry). Has number visit (taken l))
    (sym (pushed queue es e (eq-eqb e.queue queue (sym own))))
    (subst (Has number visit) (sym (taken_both (history queue es) (e ∷ [])))
    (has_behind number visit (taken (history queue es)) (taken_by e.event e.reply ++ [])
    (has_front number visit (taken_by e.event e.reply) [] has)))

-- ---- the letters of an entry are those of packets that it took

-- by the entry
under_taken : (P : Letter → Type 0) (port : ℕ) (o : Option Bound) (e : Entry) →
    ((l : Letter) → l.queue ≡ e.queue → Has l.number l.visit (taken_by e.event e.reply) → P l) →
    Every P (letters_under port o e)
under_taken P port None e f = tt
under_taken P port (Some q) e f =
    elim (cases_Bool (port == q.port)) [
      | inl h ↦ rw h (event_taken P e.queue q e.event e.reply f)
      | inr h ↦ rw h tt
    ]

-- ---- mails of a list

-- a mail is that of an arrival in this list, which took the packet at the mail's time or before
record IsPostedMail (list : List (Entry × ℕ)) (m : Mail) : Type 0 where
  pub front : List (Entry × ℕ)
  pub begins : IsPrefix front list
  pub early : EachIs (λ x. x.1 < m.time + 1) front
  pub posted : Has m.letter.number m.letter.visit (taken (history m.letter.queue (untimed front)))

-- the letter with this time
abbrev at_time : ℕ → Letter → Mail
at_time time l = record { letter = l; time = time }

-- those of one entry, none before which is later
mails_here : (port low : ℕ) (done xs : List (Entry × ℕ)) (x : Entry × ℕ) →
    EachIs (λ y. y.1 ≤ low) done → low ≤ x.1 →
    Every (IsPostedMail (done ++ x ∷ xs))
    (map (at_time x.1) (letters_at port (point_after (untimed done) x.0)))
mails_here port low done xs x early late =
    every_made (at_time x.1) (IsPostedMail (done ++ x ∷ xs))
    (letters_at port (point_after (untimed done) x.0))
    (under_taken (λ (l : Letter). IsPostedMail (done ++ x ∷ xs) (at_time x.1 l)) port
    (state_of (untimed done) x.0.queue) x.0
    (λ l own has. record {
      front = done ++ x ∷ [];
      begins = (xs, append_assoc done (x ∷ []) xs);
      early = each_both (λ y. y.1 < x.1 + 1) done (x ∷ [])
          (each_mapped (λ y. y.1 ≤ low) (λ y. y.1 < x.1 + 1) done
          (λ y less. omega (arith, less, late)) early) (omega arith, tt);
      posted = subst (λ (es : List Entry). Has l.number l.visit (taken (history l.queue es)))
          (sym (map-append (λ (y : Entry × ℕ). y.0) done (x ∷ [])))
          (taken_last l.number l.visit l.queue (untimed done) x.0 own has);
    }))

-- and those of all entries behind them
mails_posted : (port low : ℕ) (done xs : List (Entry × ℕ)) → EachIs (λ y. y.1 ≤ low) done →
    EachIs (λ y. low ≤ y.1) xs → Pairs (λ x y. x.1 ≤ y.1) xs →
    Every (IsPostedMail (done ++ xs)) (mails_after port (untimed done) xs)
mails_posted port low done [] early late rise = tt
mails_posted port low done (x ∷ xs) early late rise =
    every_both (IsPostedMail (done ++ x ∷ xs))
    (map (at_time x.1) (letters_at port (point_after (untimed done) x.0)))
    (mails_after port (untimed done ++ x.0 ∷ []) xs)
    (mails_here port low done xs x early late.0)
    (subst (λ (es : List Entry). Every (IsPostedMail (done ++ x ∷ xs)) (mails_after port es xs))
    (map-append (λ (y : Entry × ℕ). y.0) done (x ∷ []))
    (subst (λ (l : List (Entry × ℕ)).
    Every (IsPostedMail l) (mails_after port (untimed (done ++ x ∷ [])) xs))
    (append_assoc done (x ∷ []) xs)
    (mails_posted port x.1 (done ++ x ∷ []) xs
    (each_both (λ y. y.1 ≤ x.1) done (x ∷ [])
    (each_mapped (λ y. y.1 ≤ low) (λ y. y.1 ≤ x.1) done
    (λ y less. omega (arith, less, late.0)) early) (omega arith, tt))
    rise.0 rise.1)))

-- ---- letters that were received

-- of one sender, what was received begins what it sent
prefix_at : (received : List Post) (k : ℕ) (x : List Mail) (known : List (ℕ × List Mail)) →
    TimedPrefixes received known → Among (k, x) known → IsPrefix (mails_of k received) x
prefix_at received k x [] all among = absurd among
prefix_at received k x (y ∷ known) all (inl same) =
    subst (λ (z : ℕ × List Mail). IsPrefix (mails_of z.0 received) z.1) (sym same) all.0
prefix_at received k x (y ∷ known) all (inr among) = prefix_at received k x known all.1 among

-- what holds of each sender's mails holds of each letter
posts_each : (Q : ℕ → Mail → Type 0) (places : ℕ) (ps : List Post) →
    Every (λ (p : Post). p.from < places) ps →
    ((k : ℕ) → k < places → Every (Q k) (mails_of k ps)) →
    Every (λ (p : Post). Q p.from (mail_of p)) ps
posts_each Q places [] all each = tt
posts_each Q places (p ∷ ps) all each = (
  (subst (Every (Q p.from)) first (each p.from all.0)).0,
  posts_each Q places ps all.1 (λ k few. tail k few),
)
  where
    first : mails_of p.from (p ∷ ps) ≡ mail_of p ∷ mails_of p.from ps
    first = rw (eq-eqb p.from p.from refl) refl

    tail : (k : ℕ) → k < places → Every (Q k) (mails_of k ps)
    tail k few =
        elim (cases_Bool (nat_eq p.from k)) [
          | inl h ↦ (rw h at (each k few)).1
          | inr h ↦ rw h at (each k few)
        ]

-- the mail is posted in the list of this place
record IsPostedAt (lists : List (List (Entry × ℕ))) (k : ℕ) (m : Mail) : Type 0 where
  pub list : List (Entry × ℕ)
  pub at : slice_get lists k ≡ Some list
  pub is : IsPostedMail list m

module _ (places : ℕ) (us : List TimedKnown) (lists : List (List (Entry × ℕ))) (some : 0 < places)
    (long : length lists ≡ places) (all : AllFrom (IsTimedListAt places us) 0 lists) where
  -- the mails that one port received of each place
  one_list : (port : ℕ) (r : ReceiverView) →
      AllFrom (λ k l. Among (k, mails_to port l) r.mails) 0 lists → IsHeardAll r →
      AllFrom (λ k l. Every (IsPostedMail l) (mails_of k r.received)) 0 lists
  one_list port r mails told = inner 0 lists all mails
    where
      inner : (n : ℕ) (ls : List (List (Entry × ℕ))) → AllFrom (IsTimedListAt places us) n ls →
          AllFrom (λ k l. Among (k, mails_to port l) r.mails) n ls →
          AllFrom (λ k l. Every (IsPostedMail l) (mails_of k r.received)) n ls
      inner n [] are among = tt
      inner n (l ∷ ls) are among =
          let begins = prefix_at r.received n (mails_to port l) r.mails told.in_time among.0 in (
            every_in_front (IsPostedMail l) (mails_of n r.received) begins.0
                (subst (Every (IsPostedMail l)) (sym begins.1)
                (mails_posted port 0 [] l tt (from_zero l) are.0.rise)),
            inner (n + 1) ls are.1 among.1,
          )

  -- one port received only what was posted
  one_port : (old new : PortReceiver) → HearsInTime places 0 lists old new → IsHeard new →
      EachIs (IsPostedIn lists) new.receiver.received
  one_port old new hears told =
      let r = new.receiver in
      let plain = hears.plain.hears in
      let untimed_long : length (map untimed lists) ≡ places = length-map lists untimed ∙ long in
      let everyone = has_all places (map untimed lists) old.port r some untimed_long plain in
      let inside = all_within places r.received (λ k most. told.beyond everyone.0 k (omega (
        arith,
        most,
        plain.made refl (omega (arith, some, untimed_long)),
      ))) in
      let posted = one_list old.port r hears.mails told in
      each_of (λ (p : Post). IsPostedAt lists p.from (mail_of p)) (IsPostedIn lists) r.received
      (λ p at. record {
        place = p.from;
        list = at.list;
        at = at.at;
        front = at.is.front;
        begins = at.is.begins;
        early = at.is.early;
        posted = at.is.posted;
      })
      (posts_each (IsPostedAt lists) places r.received inside (λ k few.
      let at = at_from (λ j l. Every (IsPostedMail l) (mails_of j r.received)) 0 k lists posted
      (omega (arith, few, long)) in
      every_mapped (IsPostedMail at.0) (IsPostedAt lists k) (mails_of k r.received)
      (λ m is. record { list = at.0; at = at.1.0; is = is })
      (subst (λ n. Every (IsPostedMail at.0) (mails_of n r.received)) (omega arith) at.1.1)))

  -- each port received only what was posted
  pub all_posted : (olds news : List PortReceiver) → AllZip (HearsInTime places 0 lists) olds news →
      Every IsHeard news →
      Every (λ (p : PortReceiver). EachIs (IsPostedIn lists) p.receiver.received) olds
  all_posted [] news zip told = tt
  all_posted (p ∷ ps) [] zip told = absurd zip
  all_posted (p ∷ ps) (q ∷ qs) zip told = (
    subst (EachIs (IsPostedIn lists)) zip.0.plain.received (one_port p q zip.0 told.0),
    all_posted ps qs zip.1 told.1,
  )
