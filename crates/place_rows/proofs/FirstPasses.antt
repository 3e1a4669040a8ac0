-- Locks that are made one after the other, each with its first pass.
use Rattle.std.proofs.Common.{◌≡◌, ◌<◌, ℕ, zero, suc, List, [], ◌∷◌, ◌++◌, length}
use Rattle.std.proofs.Common.{refl, sym, ap, ◌∙◌, subst, arith, map, inl, inr}
use Rattle.std.specs.Prelude.{slice_get, Option, Some, None, option_map, IfSome, nat_eq}
use Rattle.std.specs.BTreeMap.{BTreeMap, get}
use Rattle.std.specs.Ordering.{nat_cmp}
use Rattle.std.proofs.Math.Path.{fun_ext}
use Rattle.std.proofs.lemmas.List.{length-map, length-append, map-append}
use Rattle.std.proofs.lemmas.Option.{slice_get_within}
use Rattle.std.proofs.lemmas.Bool.{cases_Bool, eqb-true, eqb-false}
use Rattle.mailbox.specs.Views.{MailboxView, SenderView}
use Rattle.glance.specs.Views.{WriterView, opening_writer}
use Rattle.turn_lock.specs.Parts.{Whole}
use Rattle.turn_lock.specs.Views as views
use Rattle.turn_lock.specs.declared.storied.Storied.{Ghosts}
use Rattle.turn_lock.specs.declared.pass.Pass.{Pass}
use Rattle.turn_lock.specs.declared.lock.TurnLock.{TurnLock}
use Rattle.turn_lock.specs.Passes.{view_of, IsOf}
use Rattle.histories.specs.declared.entry.Entry.{Entry}
use Rattle.locked_place.specs.declared.outlets.Outlets.{Outlets}
use Rattle.locked_place.specs.Views.{LockedView, PlaceLabel, label_of, as_made}
use Rattle.locked_place.specs.Passes.{IsPassOf}
use Rattle.place_rows.specs.Rows.{TimedKnown, ArePasses, IsKnown, label_at, sender_made, lock_of}
use Rattle.place_rows.specs.Rows.{id_of}
use Rattle.place_rows.specs.Opening.{IsFirst, AreFirst}
use Rattle.place_rows.proofs.Lists.{one_item, get_longer, get_seam}
use Rattle.place_rows.proofs.RowPasses.{known_pass}

-- a place as it is made
abbrev pub place_made : ℕ → ℕ → BTreeMap ℕ SenderView → WriterView → LockedView
place_made number places senders writer = record {
  number = number;
  places = places;
  senders = senders.entries;
  writer = writer;
  entries = [];
  times = [];
  latest = 0;
}

-- its label is the one that it is to have
pub label_made : (outlets : Outlets) (number places : ℕ) (senders : BTreeMap ℕ SenderView)
    (writer : WriterView) → outlets.board.places ≡ places →
    ((port : ℕ) → get nat_cmp senders port
    ≡ option_map (sender_made places number) (get nat_cmp outlets.mailboxes port)) →
    writer ≡ opening_writer outlets.board number →
    label_of (place_made number places senders writer) ≡ label_at outlets number
label_made outlets number places senders writer many are is =
    ap (λ (w : WriterView). label_of (place_made number places senders w)) is
    ∙ ap (λ (f : ℕ → Option SenderView). record (label_at outlets number) {
      places = places;
      senders = f;
    })
    (fun_ext (λ port. ap (option_map as_made) (are port)
    ∙ twice port (get nat_cmp outlets.mailboxes port)))
    ∙ sym (ap (λ n. record (label_at outlets number) {
      places = n;
      senders = λ port. option_map (sender_made n number) (get nat_cmp outlets.mailboxes port);
    }) many)
  where
    twice : (port : ℕ) (o : Option MailboxView) →
        option_map as_made (option_map (sender_made places number) o)
        ≡ option_map (sender_made places number) o
    twice port None = refl
    twice port (Some m) = refl

-- such a sender has sent nothing
pub none_sent : (places number : ℕ) (o : Option SenderView) (m : Option MailboxView) →
    o ≡ option_map (sender_made places number) m →
    IfSome o (λ (s : SenderView). (s.sent ≡ []) × (s.mails ≡ []) × (s.full ≡ 0))
none_sent places number o None is = rw is tt
none_sent places number o (Some m) is = rw is (refl, refl, refl)

-- the first pass of a lock that was made
pub first_of : {g : Ghosts LockedView (Entry × ℕ)} (lock : TurnLock LockedView (Entry × ℕ))
    (pass : Pass LockedView (Entry × ℕ) g) (place : LockedView) (named : PlaceLabel) →
    IsOf lock pass → view_of pass ≡ views.opening_view place → label_of place ≡ named →
    IsPassOf label_of named lock pass × IsFirst (view_of pass)
first_of lock pass place named of view is = (
  record {
    of = of;
    outside = ap (λ (v : TimedKnown). v.turn) view;
    named_so = ap (λ (v : TimedKnown). views.label_of label_of v) view ∙ ap (λ n. Some n) is;
  },
  record {
    none_seen = ap (λ (v : TimedKnown). v.seen) view;
    none_own = ap (λ (v : TimedKnown). v.own) view;
    whole = ap (λ (v : TimedKnown). v.part) view;
  },
)

-- ---- one lock more

module _ {g : Ghosts LockedView (Entry × ℕ)} (named : ℕ → PlaceLabel)
    (locks : List (TurnLock LockedView (Entry × ℕ)))
    (row : List (Pass LockedView (Entry × ℕ) g)) where
  pub row_long : ArePasses label_of named locks row → length row ≡ length locks
  row_long are = sym (length-map row lock_of) ∙ ap length are.locks_are ∙ length-map locks id_of

  pub one_lock_more : (lock : TurnLock LockedView (Entry × ℕ))
      (pass : Pass LockedView (Entry × ℕ) g) →
      ArePasses label_of named locks row → IsPassOf label_of (named (length locks)) lock pass →
      ArePasses label_of named (locks ++ lock ∷ []) (row ++ pass ∷ [])
  one_lock_more lock pass are is = record {
    locks_are = map-append lock_of row (pass ∷ [])
        ∙ ap (λ l. l ++ lock_of pass ∷ []) are.locks_are
        ∙ ap (λ i. map id_of locks ++ i ∷ []) is.of
        ∙ sym (map-append id_of locks (lock ∷ []));
    known = λ k v at.
        let there : slice_get (map view_of row ++ view_of pass ∷ []) k ≡ Some v =
        ap (λ (l : List TimedKnown). slice_get l k) (sym (map-append view_of row (pass ∷ [])))
        ∙ at in
        let long : length (map view_of row) ≡ length locks = length-map row view_of
        ∙ row_long are in
        elim (cases_Bool (nat_eq k (length locks))) [
          | inl same ↦ (let e : k ≡ length locks = eqb-true k (length locks) same in
              let v_is : view_of pass ≡ v =
              one_item (view_of pass) v (sym (get_seam (map view_of row) (view_of pass) [])
              ∙ ap (slice_get (map view_of row ++ view_of pass ∷ [])) (long ∙ sym e) ∙ there) in
              subst (IsKnown label_of (named k)) v_is
              (subst (λ n. IsKnown label_of (named n) (view_of pass)) (sym e)
              (known_pass label_of (named (length locks)) lock pass is)))
          | inr other ↦ (let few : k < length (map view_of row) =
              omega (
                arith,
                eqb-false k (length locks) other,
                long,
                slice_get_within (map view_of row ++ view_of pass ∷ []) k v there,
                length-append (map view_of row) (view_of pass ∷ []),
              ) in
              are.known k v (sym (get_longer (map view_of row) (view_of pass ∷ []) k few) ∙ there))
        ];
  }

-- the first passes have the whole of their locks
pub wholes : (known : List TimedKnown) → AreFirst known → (k : ℕ) (v : TimedKnown) →
    slice_get known k ≡ Some v → v.part ≡ Whole
wholes [] all k v at = absurd (cc at)
wholes (w ∷ known) all zero v at =
    ap (λ (x : TimedKnown). x.part) (sym (one_item w v at)) ∙ all.0.whole
wholes (w ∷ known) all (suc k) v at = wholes known all.1 k v at
