-- Places that end, one after the other.
use Rattle.std.proofs.Common.{◌≡◌, ◌<◌, ◌≤◌, ◌+◌, ℕ, List, [], ◌∷◌, ◌++◌, length, refl, sym}
use Rattle.std.proofs.Common.{ap, ◌∙◌, subst, arith, inl, inr, Bool, true, false}
use Rattle.std.specs.Prelude.{map, slice_get, Option, Some, None, option_map, nat_eq, IfSome}
use Rattle.std.specs.Prelude.{if◌then◌else◌, ◌&&◌}
use Rattle.std.specs.List.{AllZip}
use mathlib.Core.List.{IsPrefix}
use Rattle.std.proofs.lemmas.List.{length-append}
use Rattle.std.proofs.lemmas.List.Elements.{filter-append}
use Rattle.std.proofs.lemmas.List.Sums.{sum_by-cons}
use Rattle.std.proofs.lemmas.Option.{slice_get-map}
use Rattle.std.specs.BTreeMap.{BTreeMap, get}
use Rattle.std.specs.Ordering.{nat_cmp}
use Rattle.packet_entry.specs.declared.letter.Letter.{Letter}
use Rattle.mailbox.specs.declared.view.Mail.{Mail}
use Rattle.mailbox.specs.Views.{MailboxView, SenderView, ReceiverView, receiver_joined, letters_in}
use Rattle.turn_lock.specs.declared.storied.Storied.{Ghosts}
use Rattle.turn_lock.specs.declared.pass.Pass.{Pass}
use Rattle.turn_lock.specs.declared.lock.TurnLock.{TurnLock}
use Rattle.turn_lock.specs.Passes.{view_of}
use Rattle.histories.specs.declared.entry.Entry.{Entry}
use Rattle.histories.specs.History.{history, is_of}
use Rattle.total_order.specs.Orders.{untimed}
use Rattle.place_history.specs.PlaceState.{AreHere}
use Rattle.locked_place.specs.Notices.{letters_to, lacking, HasSent}
use Rattle.locked_place.specs.Views.{LockedView, AreNotified, PlaceLabel, senders_of}
use Rattle.locked_place.specs.Views.{as_made, label_of}
use Rattle.locked_place.specs.Times.{AreMailed, mails_to}
use Rattle.locked_place.specs.Passes.{IsPassOf}
use Rattle.place_rows.specs.declared.ending.PortReceiver.{PortReceiver}
use Rattle.place_rows.specs.Lists.{Every, AllFrom, flat}
use Rattle.place_rows.specs.Rows.{Known, TimedKnown, known_of, ArePasses, sender_made}
use Rattle.place_rows.specs.Ending.{IsListAt}
use Rattle.place_rows.specs.Timed.{IsTimedListAt, HearsInTime}
use Rattle.place_rows.specs.Hearing.{Hears, HearsAs, Among, times_in, with_sender, with_its_sender}
use Rattle.place_rows.specs.Hearing.{HasSender, HasMailbox, IsHeard}
use Rattle.place_rows.proofs.Lists.{one_item, all_from_mapped, last_of}
use Rattle.place_rows.proofs.PlaceLists.{either_end}
use Rattle.place_rows.proofs.RowPasses.{pass_at}

-- ---- a sender that was made
pub record IsMade (places n : ℕ) (m : MailboxView) (o : Option SenderView) : Type 0 where
  pub sender : SenderView
  pub is : o ≡ Some sender
  pub made : as_made sender ≡ sender_made places n m

pub made_one : (places n : ℕ) (m : MailboxView) (o : Option SenderView) →
    option_map as_made o ≡ Some (sender_made places n m) → IsMade places n m o
made_one places n m None e = absurd (cc e)
made_one places n m (Some s) e = record { sender = s; is = refl; made = one_item _ _ e }

-- ---- lists without times

-- lists of places that ended
pub plain_lists : (places : ℕ) (us : List TimedKnown) (n : ℕ) (lists : List (List (Entry × ℕ))) →
    AllFrom (IsTimedListAt places us) n lists →
    AllFrom (IsListAt places (known_of us)) n (map untimed lists)
plain_lists places us n [] all = tt
plain_lists places us n (l ∷ ls) all = (all.0.plain, plain_lists places us (n + 1) ls all.1)

-- and what ports heard of them
pub plain_hears : (places n : ℕ) (lists : List (List (Entry × ℕ))) (olds news : List PortReceiver) →
    AllZip (HearsInTime places n lists) olds news →
    AllZip (HearsAs places n (map untimed lists)) olds news
plain_hears places n lists [] [] zip = tt
plain_hears places n lists [] (q ∷ qs) zip = absurd zip
plain_hears places n lists (p ∷ ps) [] zip = absurd zip
plain_hears places n lists (p ∷ ps) (q ∷ qs) zip =
    (zip.0.plain, plain_hears places n lists ps qs zip.1)

-- ---- what a receiver hears
among_front : {X : Type 0} (x : ℕ × List X) (xs ys : List (ℕ × List X)) → Among x xs →
    Among x (xs ++ ys)
among_front x [] ys h = absurd h
among_front x (y ∷ xs) ys (inl e) = inl e
among_front x (y ∷ xs) ys (inr h) = inr (among_front x xs ys h)

among_last : {X : Type 0} (x : ℕ × List X) (xs : List (ℕ × List X)) → Among x (xs ++ x ∷ [])
among_last x [] = inl refl
among_last x (y ∷ xs) = inr (among_last x xs)

letters_push : (xs : List (ℕ × List Letter)) (k : ℕ) (s : List Letter) →
    letters_in (xs ++ (k, s) ∷ []) ≡ letters_in xs + length s
letters_push [] k s = omega arith
letters_push (x ∷ xs) k s = omega (arith, letters_push xs k s)

hears_more : (places n : ℕ) (lists : List (List Entry)) (list : List Entry) (port : ℕ)
    (r : ReceiverView) (s : SenderView) (m : MailboxView) → Hears places (n + 1) lists port r →
    as_made s ≡ sender_made places n m → HasSent list port s →
    Hears places n (list ∷ lists) port (receiver_joined r s)
hears_more places n lists list port r s m hears made sent_so =
    let number : s.number ≡ n = ap (λ (x : SenderView). x.number) made in
    record {
      joined = (
        subst (λ (x : ℕ × List Letter). Among (n, letters_to port list) (r.joined ++ x ∷ []))
            (sym (ap (λ (k : ℕ). (k, s.sent)) number
            ∙ ap (λ (l : List Letter). (n, l)) sent_so.sent))
            (among_last (n, letters_to port list) r.joined),
        all_from_mapped (λ k l. Among (k, letters_to port l) r.joined)
            (λ k l. Among (k, letters_to port l) (r.joined ++ (s.number, s.sent) ∷ [])) (n + 1)
            lists
            (λ k l h. among_front (k, letters_to port l) r.joined ((s.number, s.sent) ∷ []) h)
            hears.joined,
      );
      count = omega (
        arith,
        letters_push r.joined s.number s.sent,
        hears.count,
        ap (λ (l : List Letter). length l) sent_so.sent,
        sum_by-cons (λ (l : List Entry). length (letters_to port l)) list lists,
      );
      full = omega (
        arith,
        hears.full,
        sent_so.full,
        sum_by-cons (λ (l : List Entry). lacking port
            l) list lists,
      );
      made = λ is_zero some.
          ap (λ k. if nat_eq k 0 then s.made else r.made) (number ∙ is_zero)
          ∙ ap (λ (x : SenderView). x.made) made
          ∙ ap (λ k. if nat_eq k 0 then places else 0) is_zero;
    }

-- and with times
mails_more : (places n : ℕ) (lists : List (List (Entry × ℕ))) (list : List (Entry × ℕ)) (port : ℕ)
    (r : ReceiverView) (s : SenderView) (m : MailboxView) →
    AllFrom (λ k l. Among (k, mails_to port l) r.mails) (n + 1) lists →
    as_made s ≡ sender_made places n m → s.mails ≡ mails_to port list →
    AllFrom (λ k l. Among (k, mails_to port l) (receiver_joined r s).mails) n (list ∷ lists)
mails_more places n lists list port r s m mails made sent_so = (
  subst (λ (x : ℕ × List Mail). Among (n, mails_to port list) (r.mails ++ x ∷ []))
      (sym (ap (λ (k : ℕ). (k, s.mails)) (ap (λ (x : SenderView). x.number) made)
      ∙ ap (λ (l : List Mail). (n, l)) sent_so))
      (among_last (n, mails_to port list) r.mails),
  all_from_mapped (λ k l. Among (k, mails_to port l) r.mails)
      (λ k l. Among (k, mails_to port l) (r.mails ++ (s.number, s.mails) ∷ [])) (n + 1) lists
      (λ k l h. among_front (k, mails_to port l) r.mails ((s.number, s.mails) ∷ []) h) mails,
)

pub hears_none : (places n port : ℕ) (r : ReceiverView) → r.joined ≡ [] → r.full ≡ 0 →
    Hears places n [] port r
hears_none places n port r none zero_is = record {
  joined = tt;
  count = ap letters_in none;
  full = zero_is;
  made = λ is_zero some. absurd (omega (arith, some));
}

-- ---- receivers, one by one

abbrev AreMade : BTreeMap ℕ MailboxView → ℕ → ℕ → BTreeMap ℕ SenderView → Type 0
AreMade mailboxes places n senders = (port : ℕ) →
    option_map as_made (get nat_cmp senders port)
    ≡ option_map (sender_made places n) (get nat_cmp mailboxes port)

module _ (mailboxes : BTreeMap ℕ MailboxView) (places n : ℕ) (senders : BTreeMap ℕ SenderView)
    (made : AreMade mailboxes places n senders) where
  one_made : (old new : PortReceiver) (m : ℕ) (lists : List (List Entry)) →
      HasMailbox mailboxes old → HearsAs places m lists old new →
      IsMade places n old.receiver.mailbox (get nat_cmp senders new.port)
  one_made old new m lists has hears =
      made_one places n old.receiver.mailbox (get nat_cmp senders new.port)
      (made new.port
      ∙ ap (λ port. option_map (sender_made places n) (get nat_cmp mailboxes port)) hears.port
      ∙ ap (option_map (sender_made places n)) has.mailbox)

  pub have_senders : (m : ℕ) (lists : List (List Entry)) (olds news : List PortReceiver) →
      Every (HasMailbox mailboxes) olds → AllZip (HearsAs places m lists) olds news →
      Every (HasSender mailboxes senders) news
  have_senders m lists [] [] has hears = tt
  have_senders m lists [] (q ∷ qs) has hears = absurd hears
  have_senders m lists (p ∷ ps) [] has hears = absurd hears
  have_senders m lists (p ∷ ps) (q ∷ qs) has hears =
      let one = one_made p q m lists has.0 hears.0 in (
        record {
          sender = one.sender;
          there = one.is;
          mailbox = ap (get nat_cmp mailboxes) hears.0.port ∙ has.0.mailbox
              ∙ ap (λ x. Some x) (sym hears.0.mailbox);
          same = ap (λ (x : SenderView). x.mailbox) one.made ∙ sym hears.0.mailbox;
        },
        have_senders m lists ps qs has.1 hears.1,
      )

  heard_more : (lists : List (List (Entry × ℕ))) (list : List (Entry × ℕ))
      (olds news : List PortReceiver) → AreNotified (untimed list) (senders_of senders) →
      AreMailed list (senders_of senders) → Every (HasMailbox mailboxes) olds →
      AllZip (HearsInTime places (n + 1) lists) olds news →
      AllZip (HearsInTime places n (list ∷ lists)) olds (map (with_its_sender senders) news)
  heard_more lists list [] [] notified mailed has hears = tt
  heard_more lists list [] (q ∷ qs) notified mailed has hears = absurd hears
  heard_more lists list (p ∷ ps) [] notified mailed has hears = absurd hears
  heard_more lists list (p ∷ ps) (q ∷ qs) notified mailed has hears =
      let plain = hears.0.plain in
      let one = one_made p q (n + 1) (map untimed lists) has.0 plain in
      let s = one.sender in
      let sent_so : HasSent (untimed list) q.port s =
      subst (λ (o : Option SenderView). IfSome o (HasSent (untimed list) q.port)) one.is
      (notified.each q.port) in
      let mailed_so : s.mails ≡ mails_to q.port list =
      subst (λ (o : Option SenderView).
      IfSome o (λ (x : SenderView). x.mails ≡ mails_to q.port list)) one.is (mailed q.port) in (
        subst (HearsInTime places n (list ∷ lists) p) (ap (with_sender q) (sym one.is))
            (record {
              plain = record {
                port = plain.port;
                received = plain.received;
                mailbox = plain.mailbox;
                hears = hears_more places n (map untimed lists) (untimed list) p.port q.receiver s
                    p.receiver.mailbox plain.hears one.made
                    (subst (λ k. HasSent (untimed list) k s) plain.port sent_so);
              };
              mails = mails_more places n lists list p.port q.receiver s p.receiver.mailbox
                  hears.0.mails one.made
                  (subst (λ k. s.mails ≡ mails_to k list) plain.port mailed_so);
            }),
        heard_more lists list ps qs notified mailed has.1 hears.1,
      )

abbrev is_one : ℕ → ℕ → ℕ
is_one port p = if nat_eq p port then 1 else 0

abbrev once : ℕ → PortReceiver → ℕ
once port p = is_one port p.port

times_kept : (places n port : ℕ) (lists : List (List Entry)) (olds news : List PortReceiver) →
    AllZip (HearsAs places n lists) olds news → times_in port news ≡ times_in port olds
times_kept places n port lists [] [] hears = refl
times_kept places n port lists [] (q ∷ qs) hears = absurd hears
times_kept places n port lists (p ∷ ps) [] hears = absurd hears
times_kept places n port lists (p ∷ ps) (q ∷ qs) hears =
    omega (
      arith,
      sum_by-cons (once port) q qs,
      sum_by-cons (once port) p ps,
      ap (is_one port) hears.0.port,
      times_kept places n port lists ps qs hears.1,
    )

pub times_few : (places n : ℕ) (lists : List (List Entry)) (olds news : List PortReceiver) →
    AllZip (HearsAs places n lists) olds news → ((port : ℕ) → times_in port olds ≤ 1) →
    (port : ℕ) → times_in port news ≤ 1
times_few places n lists olds news hears apart port =
    omega (arith, apart port, times_kept places n port lists olds news hears)

-- ---- the loop

-- all places from n on have ended
pub record PlacesLeft (places : ℕ) (us : List TimedKnown) (n : ℕ) (kept : Bool)
    (gathered : List Entry) (olds news : List PortReceiver) : Type 0 where
  pub lists : List (List (Entry × ℕ))
  pub count : n + length lists ≡ length us
  pub each : AllFrom (IsTimedListAt places us) n lists
  pub same : kept ≡ true → (queue : ℕ) →
      history queue gathered ≡ history queue (flat (map untimed lists))
  pub receivers : AllZip (HearsInTime places n lists) olds news
  pub heard : 0 < length lists → Every IsHeard news

hear_none : (mailboxes : BTreeMap ℕ MailboxView) (places n : ℕ) (ps : List PortReceiver) →
    Every (HasMailbox mailboxes) ps → AllZip (HearsInTime places n []) ps ps
hear_none mailboxes places n [] all = tt
hear_none mailboxes places n (p ∷ ps) all = (
  record {
    plain = record {
      port = refl;
      received = refl;
      mailbox = refl;
      hears = hears_none places n p.port p.receiver all.0.none_joined all.0.none_back;
    };
    mails = tt;
  },
  hear_none mailboxes places n ps all.1,
)

pub none_ended : (mailboxes : BTreeMap ℕ MailboxView) (places : ℕ) (us : List TimedKnown) (n : ℕ)
    (gathered : List Entry) (ps : List PortReceiver) → n ≡ length us → gathered ≡ [] →
    Every (HasMailbox mailboxes) ps → PlacesLeft places us n true gathered ps ps
none_ended mailboxes places us n gathered ps all none has = record {
  lists = [];
  count = omega (arith, all);
  each = tt;
  same = λ kept queue. ap (history queue) none;
  receivers = hear_none mailboxes places n ps has;
  heard = λ some. absurd (omega (arith, some));
}

pub here_all : (places : ℕ) (us : List Known) (n : ℕ) (lists : List (List Entry)) →
    AllFrom (IsListAt places us) n lists → AllFrom (AreHere places) n lists
here_all places us n lists =
    all_from_mapped (IsListAt places us) (AreHere places) n lists (λ k l is. is.here)

pub one_ended : (mailboxes : BTreeMap ℕ MailboxView) (places n : ℕ) (us : List TimedKnown)
    (kept still : Bool) (gathered more : List Entry) (olds news nexts : List PortReceiver)
    (es : List Entry) (list : List (Entry × ℕ)) (senders : BTreeMap ℕ SenderView) →
    PlacesLeft places us (n + 1) kept gathered olds news → untimed list ≡ es →
    IsTimedListAt places us n list → AreNotified es (senders_of senders) →
    AreMailed list (senders_of senders) → AreMade mailboxes places n senders →
    Every (HasMailbox mailboxes) olds → nexts ≡ map (with_its_sender senders) news →
    Every IsHeard nexts → (still ≡ true → (kept ≡ true) × (more ≡ gathered ++ es)) →
    PlacesLeft places us n still more olds nexts
one_ended mailboxes places n us kept still gathered more olds news nexts es list senders s es_are
    list_is notified mailed made has nexts_are nexts_heard kept_is =
    record {
      lists = list ∷ s.lists;
      count = omega (arith, s.count);
      each = (list_is, s.each);
      same = λ is_kept queue.
          let both = kept_is is_kept in
          let xs = untimed list in
          let xss = map untimed s.lists in
          let here = here_all places (known_of us) (n + 1) xss
          (plain_lists places us (n + 1) s.lists s.each) in
          ap (history queue) (both.1 ∙ ap (λ (l : List Entry). gathered ++ l) (sym es_are))
          ∙ filter-append (is_of queue) gathered xs
          ∙ ap (λ (h : List Entry). h ++ history queue xs) (s.same both.0 queue)
          ∙ either_end places n queue xs xss (list_is.plain.here, here)
          ∙ sym (filter-append (is_of queue) xs (flat xss));
      receivers = subst (AllZip (HearsInTime places n (list ∷ s.lists)) olds) (sym nexts_are)
          (heard_more mailboxes places n senders made s.lists list olds news
          (subst (λ (l : List Entry). AreNotified l (senders_of senders)) (sym es_are) notified)
          mailed has s.receivers);
      heard = λ some. nexts_heard;
    }

-- ---- the last lock and its pass

pub record LastOf {g : Ghosts LockedView (Entry × ℕ)} (named : ℕ → PlaceLabel)
    (all : List (Pass LockedView (Entry × ℕ) g)) (n m : ℕ) (lock : TurnLock LockedView (Entry × ℕ))
    (pass : Pass LockedView (Entry × ℕ) g) : Type 0 where
  pub many : n ≡ m
  pub of : IsPassOf label_of (named n) lock pass
  pub at : slice_get (map view_of all) n ≡ Some (view_of pass)

pub last_pass : {g : Ghosts LockedView (Entry × ℕ)} (named : ℕ → PlaceLabel)
    (all row front : List (Pass LockedView (Entry × ℕ) g))
    (every locks before : List (TurnLock LockedView (Entry × ℕ)))
    (lock : TurnLock LockedView (Entry × ℕ))
    (pass : Pass LockedView (Entry × ℕ) g) → ArePasses label_of named every all →
    IsPrefix locks every → IsPrefix row all → locks ≡ before ++ lock ∷ [] →
    row ≡ front ++ pass ∷ [] → length locks ≡ length row →
    LastOf named all (length before) (length front) lock pass
last_pass named all row front every locks before lock pass are locks_begin row_begins locks_are
    row_is as_many =
    let many : length before ≡ length front =
    omega (
      arith,
      ap length locks_are,
      ap length row_is,
      length-append before (lock ∷ []),
      length-append front (pass ∷ []),
      as_many,
    ) in
    let at = ap (slice_get all) many ∙ last_of all row front pass row_begins row_is in
    let is = pass_at label_of named every all (length before) pass are at in
    record {
      many = many;
      of = subst (λ l. IsPassOf label_of (named (length before)) l pass)
          (one_item is.lock lock
          (sym is.there ∙ last_of every locks before lock locks_begin locks_are))
          is.of;
      at = slice_get-map view_of all (length before) ∙ ap (option_map view_of) at;
    }

pub left_then : {X : Type 0} (places : ℕ) (us : List TimedKnown) (locks before : List X) (lock : X)
    (kept : Bool) (gathered : List Entry) (olds news : List PortReceiver) →
    locks ≡ before ++ lock ∷ [] →
    PlacesLeft places us (length locks) kept gathered olds news →
    PlacesLeft places us (length before + 1) kept gathered olds news
left_then places us locks before lock kept gathered olds news is left =
    subst (λ n. PlacesLeft places us n kept gathered olds news)
    (ap length is ∙ length-append before (lock ∷ [])) left

pub both_true : (a b : Bool) → (a && b) ≡ true → (a ≡ true) × (b ≡ true)
both_true true b h = (refl, h)
both_true false b h = absurd (cc h)
