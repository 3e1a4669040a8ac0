-- Places that open, and senders that are dealt to them.
use Rattle.std.proofs.Common.{◌≡◌, ◌≢◌, ◌<◌, ◌≤◌, ◌+◌, ◌⊎◌, ⊎_elim, ℕ, zero, suc, List, [], ◌∷◌}
use Rattle.std.proofs.Common.{◌++◌}
use Rattle.std.proofs.Common.{length, refl, sym, ap, ◌∙◌, subst, arith, inl, inr, map, take, get_or}
use Rattle.std.specs.Prelude.{slice_get, slice_set, Option, Some, option_map, nat_eq}
use Rattle.std.specs.Prelude.{IfSome, IsSome}
use Rattle.std.specs.BTreeMap.{BTreeMap, get}
use Rattle.std.specs.Ordering.{nat_cmp}
use Rattle.std.proofs.lemmas.List.{length-set, map-append}
use Rattle.std.proofs.lemmas.Option.{slice_get_within, slice_get_read}
use Rattle.std.proofs.lemmas.Bool.{cases_Bool, eqb-true, eqb-false}
use Rattle.mailbox.specs.Roles.{AreDistinct, In}
use Rattle.mailbox.specs.Views.{MailboxView, SenderView, ReceiverView, opening_receiver}
use Rattle.place_rows.specs.declared.ending.PortReceiver.{PortReceiver}
use Rattle.place_rows.specs.declared.opening.Dealt.{Dealt}
use Rattle.place_rows.specs.Lists.{Every}
use Rattle.place_rows.specs.Rows.{sender_made}
use Rattle.place_rows.specs.Opening.{IsGiven, AreDealt, IsDealt, IsOpened}
use Rattle.place_rows.specs.Opening.{port_of, Holds}
use Rattle.place_rows.proofs.Lists.{one_item, item_at, get_same, get_other, every_both}

-- ---- senders of one port

-- a sender that isn't the first one knows of no other
pub made_other : (places n : ℕ) (mailbox : MailboxView) → 1 ≤ n →
    record { mailbox = mailbox; number = n; made = 0; sent = []; mails = []; full = 0 }
    ≡ sender_made places n mailbox
made_other places n mailbox least =
    elim (cases_Bool (nat_eq n 0)) [
      | inl h ↦ absurd (omega (arith, least, eqb-true n 0 h))
      | inr h ↦ rw h refl
    ]

-- the places from 1 up to n were dealt one each, and no other has changed
pub record DealtUpTo (places n port : ℕ) (mailbox : MailboxView)
    (olds news : List (BTreeMap ℕ SenderView)) : Type 0 where
  pub as_many : length news ≡ length olds
  pub done : (k : ℕ) (old new : BTreeMap ℕ SenderView) → 1 ≤ k → k < n →
      slice_get olds k ≡ Some old → slice_get news k ≡ Some new →
      IsGiven port (sender_made places k mailbox) old new
  pub rest : (k : ℕ) → (k ≡ 0) ⊎ (n ≤ k) → slice_get news k ≡ slice_get olds k

pub none_dealt : (places port : ℕ) (mailbox : MailboxView) (olds : List (BTreeMap ℕ SenderView)) →
    DealtUpTo places 1 port mailbox olds olds
none_dealt places port mailbox olds = record {
  as_many = refl;
  done = λ k old new least less at also. absurd (omega (arith, least, less));
  rest = λ k out. refl;
}

module _ (places port : ℕ) (mailbox : MailboxView) (olds news : List (BTreeMap ℕ SenderView))
    (n : ℕ) (row row' : BTreeMap ℕ SenderView) where
  pub one_dealt : DealtUpTo places n port mailbox olds news → 1 ≤ n → n < length news →
      row ≡ get_or news n row → IsGiven port (sender_made places n mailbox) row row' →
      DealtUpTo places (n + 1) port mailbox olds (slice_set news n row')
  one_dealt s least there is given = record {
    as_many = length-set news n row' ∙ s.as_many;
    done = λ k old new one less at also. elim (cases_Bool (nat_eq k n)) [
      | inl same ↦ (let e : k ≡ n = eqb-true k n same in
          let old_is : row ≡ old =
          one_item row old (sym (slice_get_read news (length news) n row refl there is)
          ∙ s.rest n (inr (omega arith)) ∙ ap (slice_get olds) (sym e) ∙ at) in
          let new_is : row' ≡ new =
          one_item row' new (sym (get_same news n row' there)
          ∙ ap (slice_get (slice_set news n row')) (sym e) ∙ also) in
          subst (λ (x : BTreeMap ℕ SenderView). IsGiven port (sender_made places k mailbox) old x)
          new_is
          (subst (λ (x : BTreeMap ℕ SenderView). IsGiven port (sender_made places k mailbox) x
          row') old_is
          (subst (λ j. IsGiven port (sender_made places j mailbox) row row') (sym e) given)))
      | inr other ↦ (let differ = eqb-false k n other in
          s.done k old new one (omega (arith, less, differ)) at
          (sym (get_other news n k row' differ) ∙ also))
    ];
    rest = λ k out.
        get_other news n k row' (λ e. ⊎_elim (λ (z : k ≡ 0). absurd (omega (arith, z, e, least)))
        (λ (m : n + 1 ≤ k). absurd (omega (arith, m, e))) out)
        ∙ s.rest k (⊎_elim (λ (z : k ≡ 0). inl z) (λ (m : n + 1 ≤ k). inr (omega (arith, m))) out);
  }

pub all_dealt : (places port n : ℕ) (mailbox : MailboxView)
    (olds news : List (BTreeMap ℕ SenderView)) (row row' : BTreeMap ℕ SenderView) →
    DealtUpTo places n port mailbox olds news → length olds ≤ n → 0 < length news →
    row ≡ get_or news 0 row → IsGiven port (sender_made places 0 mailbox) row row' →
    AreDealt places port mailbox olds (slice_set news 0 row')
all_dealt places port n mailbox olds news row row' s most there is given = record {
  as_many = length-set news 0 row' ∙ s.as_many;
  each = λ k old new at also. elim (cases_Bool (nat_eq k 0)) [
    | inl same ↦ (let e : k ≡ 0 = eqb-true k 0 same in
        let old_is : row ≡ old =
        one_item row old (sym (slice_get_read news (length news) 0 row refl there is)
        ∙ s.rest 0 (inl refl) ∙ ap (slice_get olds) (sym e) ∙ at) in
        let new_is : row' ≡ new =
        one_item row' new (sym (get_same news 0 row' there)
        ∙ ap (slice_get (slice_set news 0 row')) (sym e) ∙ also) in
        subst (λ (x : BTreeMap ℕ SenderView). IsGiven port (sender_made places k mailbox) old x)
        new_is
        (subst (λ (x : BTreeMap ℕ SenderView). IsGiven port (sender_made places k mailbox) x row')
        old_is
        (subst (λ j. IsGiven port (sender_made places j mailbox) row row') (sym e) given)))
    | inr other ↦ (let differ = eqb-false k 0 other in
        s.done k old new (omega (arith, differ)) (omega (
          arith,
          most,
          slice_get_within olds k old
              at,
        )) at
        (sym (get_other news 0 k row' differ) ∙ also))
  ];
}

-- ---- all ports

in_front : (k : ℕ) (xs ys : List ℕ) → In k xs → In k (xs ++ ys)
in_front k [] ys h = absurd h
in_front k (x ∷ xs) ys (inl e) = inl e
in_front k (x ∷ xs) ys (inr h) = inr (in_front k xs ys h)

in_behind : (k : ℕ) (xs ys : List ℕ) → In k ys → In k (xs ++ ys)
in_behind k [] ys h = h
in_behind k (x ∷ xs) ys h = inr (in_behind k xs ys h)

-- one port more has a mailbox, with a sender for each place
pub one_port_more : (places mail port : ℕ) (done : List ℕ) (old new : Dealt) (mailbox : MailboxView)
    (receiver : ReceiverView) → IsDealt places mail done old → (In port done → ⊥) →
    AreDealt places port mailbox old.senders.items new.senders.items →
    get nat_cmp new.mailboxes port ≡ Some mailbox →
    ((p : ℕ) → p ≢ port → get nat_cmp new.mailboxes p ≡ get nat_cmp old.mailboxes p) →
    new.receivers.items ≡ old.receivers.items ++ record { port = port; receiver = receiver } ∷ [] →
    receiver ≡ opening_receiver mailbox → mailbox.capacity ≡ mail →
    IsDealt places mail (done ++ port ∷ []) new
one_port_more places mail port done old new mailbox receiver was fresh dealt own others pushed opens
    holds = record {
      senders = record {
        as_many = dealt.as_many ∙ was.senders.as_many;
        each = λ k row at p.
            let before = item_at old.senders.items k
            (omega (arith, slice_get_within new.senders.items k row at, dealt.as_many)) in
            let given = dealt.each k before.0 row before.1 at in
            elim (cases_Bool (nat_eq p port)) [
              | inl same ↦ (let e : p ≡ port = eqb-true p port same in
                  ap (get nat_cmp row) e ∙ given.own
                  ∙ sym (ap (λ q. option_map (sender_made places k) (get nat_cmp new.mailboxes q)) e
                  ∙ ap (option_map (sender_made places k)) own))
              | inr other ↦ (let differ = eqb-false p port other in
                  given.others p differ ∙ was.senders.each k before.0 before.1 p
                  ∙ sym (ap (option_map (sender_made places k)) (others p differ)))
            ];
      };
      ports_are = ap (map port_of) pushed
          ∙ map-append port_of old.receivers.items (record { port = port; receiver = receiver } ∷
          [])
          ∙ ap (λ (l : List ℕ). l ++ port ∷ []) was.ports_are;
      opened = subst (Every (IsOpened mail new.mailboxes)) (sym pushed)
          (every_both (IsOpened mail new.mailboxes) old.receivers.items
          (record { port = port; receiver = receiver } ∷ [])
          (still old.receivers.items
          (subst (λ (l : List ℕ). In port l → ⊥) (sym was.ports_are) fresh) was.opened) (
            record {
              mailbox = own ∙ sym (ap (λ (r : ReceiverView). Some r.mailbox) opens);
              capacity = ap (λ (r : ReceiverView). r.mailbox.capacity) opens ∙ holds;
              nothing_yet = opens ∙ sym (ap (λ (r : ReceiverView). opening_receiver r.mailbox)
                  opens);
            },
            tt,
          ));
      holds = λ p. elim (cases_Bool (nat_eq p port)) [
        | inl same ↦ (let e : p ≡ port = eqb-true p port same in
            subst (λ (o : Option MailboxView). IfSome o (Holds mail))
            (sym (ap (get nat_cmp new.mailboxes) e ∙ own)) holds)
        | inr other ↦ (let differ = eqb-false p port other in
            subst (λ (o : Option MailboxView). IfSome o (Holds mail)) (sym (others p differ))
            (was.holds p))
      ];
      no_others = λ p some. elim (cases_Bool (nat_eq p port)) [
        | inl same ↦ in_behind p done (port ∷ []) (inl (eqb-true p port same))
        | inr other ↦ in_front p done (port ∷ [])
            (was.no_others p (subst (λ (o : Option MailboxView). IsSome o)
            (others p (eqb-false p port other)) some))
      ];
    }
  where
    still : (ps : List PortReceiver) → (In port (map port_of ps) → ⊥) →
        Every (IsOpened mail old.mailboxes) ps → Every (IsOpened mail new.mailboxes) ps
    still [] none all = tt
    still (p ∷ ps) none all = (
      record {
        mailbox = others p.port (λ e. none (inl (sym e))) ∙ all.0.mailbox;
        capacity = all.0.capacity;
        nothing_yet = all.0.nothing_yet;
      },
      still ps (λ h. none (inr h)) all.1,
    )

-- a port at this place is none of those before it
pub fresh_at : (ports : List ℕ) (i d : ℕ) → AreDistinct ports → i < length ports →
    In (get_or ports i d) (take i ports) → ⊥
fresh_at [] i d apart few h = omega (arith, few)
fresh_at (p ∷ ports) zero d apart few h = h
fresh_at (p ∷ ports) (suc i) d apart few (inl e) =
    apart.0 (subst (λ n. In n ports) e (among ports i d (omega (arith, few))))
  where
    among : (ps : List ℕ) (j d : ℕ) → j < length ps → In (get_or ps j d) ps
    among [] j d less = absurd (omega (arith, less))
    among (q ∷ ps) zero d less = inl refl
    among (q ∷ ps) (suc j) d less = inr (among ps j d (omega (arith, less)))
fresh_at (p ∷ ports) (suc i) d apart few (inr h) = fresh_at ports i d apart.1 (omega (arith, few)) h
