-- Senders joined into receivers, port by port.
use Rattle.std.proofs.Common.{◌≡◌, ◌≢◌, ◌<◌, ◌≤◌, ◌+◌, ℕ, List, [], ◌∷◌, ◌++◌, length, refl, sym}
use Rattle.std.proofs.Common.{ap, ◌∙◌, subst, arith, append_assoc, append-nil}
use Rattle.std.specs.Prelude.{map, slice_get, slice_set, Some, get_or, nat_eq, if◌then◌else◌}
use Rattle.std.proofs.lemmas.List.{map-append, length-map, length-append}
use Rattle.std.proofs.lemmas.List.Sums.{sum_by-cons, sum_by_push, sum_by-append}
use Rattle.std.proofs.lemmas.Option.{slice_get_read}
use Rattle.std.proofs.lemmas.Bool.{eq-eqb}
use Rattle.std.specs.BTreeMap.{BTreeMap, get}
use Rattle.std.specs.Ordering.{nat_cmp}
use Rattle.mailbox.specs.Views.{MailboxView, SenderView}
use Rattle.place_rows.specs.declared.ending.PortReceiver.{PortReceiver}
use Rattle.place_rows.specs.Lists.{Every}
use Rattle.place_rows.specs.Hearing.{times_in, with_sender, with_its_sender, HasSender, IsHeard}
use Rattle.place_rows.proofs.Lists.{one_item, get_seam, set_seam, every_both, every_behind}

-- the senders of the first of them were joined
pub record SendersJoined (i : ℕ) (senders now : BTreeMap ℕ SenderView) (initial ports : List
    PortReceiver)
    : Type 0 where
  pub done : List PortReceiver
  pub rest : List PortReceiver
  pub split : initial ≡ done ++ rest
  pub is : ports ≡ map (with_its_sender senders) done ++ rest
  pub count : length done ≡ i
  pub heard : Every IsHeard (map (with_its_sender senders) done)
  pub others : (port : ℕ) → times_in port done ≡ 0 → get nat_cmp now port ≡ get nat_cmp senders port

pub none_sent : (senders : BTreeMap ℕ SenderView) (ps : List PortReceiver) →
    SendersJoined 0 senders senders ps ps
none_sent senders ps = record {
  done = [];
  rest = ps;
  split = refl;
  is = refl;
  count = refl;
  heard = tt;
  others = λ port none. refl;
}

abbrev once : PortReceiver → ℕ → ℕ
once p port = if nat_eq p.port port then 1 else 0

once_own : (p : PortReceiver) → once p p.port ≡ 1
once_own p = rw (eq-eqb p.port p.port refl) refl

once_other : (p : PortReceiver) (port : ℕ) → once p port ≡ 0 → port ≢ p.port
once_other p port zero_is same = cc (sym zero_is ∙ ap (once p) same ∙ once_own p)

module _ (mailboxes : BTreeMap ℕ MailboxView) (i : ℕ) (senders now : BTreeMap ℕ SenderView)
    (initial ports : List PortReceiver) (p : PortReceiver) where
  at_hand : SendersJoined i senders now initial ports → i < length ports → p ≡ get_or ports i p →
      (qs : List PortReceiver) × ((steps : SendersJoined i senders now initial ports) × (steps.rest
      ≡ p ∷ qs))
  at_hand s there is = inner s.rest refl
    where
      inner : (r : List PortReceiver) → s.rest ≡ r →
          (qs : List PortReceiver) × ((steps : SendersJoined i senders now initial ports) ×
          (steps.rest ≡ p ∷ qs))
      inner [] none =
          absurd (omega (
            arith,
            there,
            ap length (s.is
                ∙ ap (λ (l : List PortReceiver). map (with_its_sender senders) s.done ++ l) none
                ∙ append-nil (map (with_its_sender senders) s.done)),
            length-map s.done
                (with_its_sender senders),
            s.count,
          ))
      inner (q ∷ qs) some =
          let at : slice_get ports i ≡ Some q =
          ap (λ (l : List PortReceiver). slice_get l i) (s.is
          ∙ ap (λ (l : List PortReceiver). map (with_its_sender senders) s.done ++ l) some)
          ∙ ap (slice_get (map (with_its_sender senders) s.done ++ q ∷ qs)) (sym s.count
          ∙ sym (length-map s.done (with_its_sender senders)))
          ∙ get_seam (map (with_its_sender senders) s.done) q qs in
          let same : q ≡ p = one_item q p (sym at
          ∙ slice_get_read ports (length ports) i p refl there is) in
          (qs, (s, some ∙ ap (λ x. x ∷ qs) same))

  pub sender_there : SendersJoined i senders now initial ports → i < length ports →
      p ≡ get_or ports i p → ((port : ℕ) → times_in port initial ≤ 1) →
      Every (HasSender mailboxes senders) initial → HasSender mailboxes now p
  sender_there s there is apart all =
      let hand = at_hand s there is in
      let t = hand.1.0 in
      let split = t.split ∙ ap (λ (l : List PortReceiver). t.done ++ l) hand.1.1 in
      let has = (every_behind (HasSender mailboxes senders) t.done (p ∷ hand.0)
      (subst (Every (HasSender mailboxes senders)) split all)).0 in
      let alone : times_in p.port t.done ≡ 0 =
      omega (
        arith,
        apart p.port,
        ap (times_in p.port) split,
        sum_by-append (λ (q : PortReceiver). once q p.port) t.done (p ∷ hand.0),
        sum_by-cons (λ (q : PortReceiver). once q p.port) p hand.0,
        once_own p,
      ) in
      record {
        sender = has.sender;
        there = t.others p.port alone ∙ has.there;
        mailbox = has.mailbox;
        same = has.same;
      }

  pub sender_step : (after : BTreeMap ℕ SenderView) (q : PortReceiver) →
      SendersJoined i senders now initial ports → i < length ports →
      p ≡ get_or ports i p → ((port : ℕ) → times_in port initial ≤ 1) →
      q ≡ with_its_sender now p → IsHeard q →
      ((port : ℕ) → port ≢ p.port → get nat_cmp after port ≡ get nat_cmp now port) →
      SendersJoined (i + 1) senders after initial (slice_set ports i q)
  sender_step after q s there is apart new heard others =
      let hand = at_hand s there is in
      let qs = hand.0 in
      let t = hand.1.0 in
      let split = t.split ∙ ap (λ (l : List PortReceiver). t.done ++ l) hand.1.1 in
      let alone : times_in p.port t.done ≡ 0 =
      omega (
        arith,
        apart p.port,
        ap (times_in p.port) split,
        sum_by-append (λ (x : PortReceiver). once x p.port) t.done (p ∷ qs),
        sum_by-cons (λ (x : PortReceiver). once x p.port) p qs,
        once_own p,
      ) in
      let as_first : q ≡ with_its_sender senders p =
      new ∙ ap (with_sender p) (t.others p.port alone) in
      let f = with_its_sender senders in
      record {
        done = t.done ++ p ∷ [];
        rest = qs;
        split = split ∙ sym (append_assoc t.done (p ∷ []) qs);
        is = ap (λ (l : List PortReceiver). slice_set l i q)
            (t.is ∙ ap (λ (l : List PortReceiver). map f t.done ++ l) hand.1.1)
            ∙ ap (λ n. slice_set (map f t.done ++ p ∷ qs) n q) (sym t.count
            ∙ sym (length-map t.done f))
            ∙ set_seam (map f t.done) p q qs
            ∙ ap (λ (x : PortReceiver). map f t.done ++ x ∷ qs) as_first
            ∙ sym (append_assoc (map f t.done) (f p ∷ []) qs)
            ∙ ap (λ (l : List PortReceiver). l ++ qs) (sym (map-append f t.done (p ∷ [])));
        count = omega (arith, length-append t.done (p ∷ []), t.count);
        heard = subst (Every IsHeard) (sym (map-append f t.done (p ∷ [])))
            (every_both IsHeard (map f t.done) (f p ∷ []) t.heard (
              subst IsHeard as_first heard,
              tt,
            ));
        others = λ port none.
            others port (once_other p port (omega (
              arith,
              none,
              sum_by_push (λ (x : PortReceiver).
                  once x port) t.done p,
            )))
            ∙ t.others port (omega (
              arith,
              none,
              sum_by_push (λ (x : PortReceiver). once x port)
                  t.done p,
            ));
      }

pub record SendersDone (senders now : BTreeMap ℕ SenderView) (initial ports : List PortReceiver) :
    Type 0
  where
    pub is : ports ≡ map (with_its_sender senders) initial
    pub heard : Every IsHeard ports
    pub others : (port : ℕ) → times_in port initial ≡ 0 → get nat_cmp now port ≡ get nat_cmp
        senders port
