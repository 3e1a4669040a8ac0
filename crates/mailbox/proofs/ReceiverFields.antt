-- What the receiver's fields keep through a turn and a join.
use Rattle.std.proofs.Common.{◌≡◌, ℕ, ◌+◌, ◌<◌, ◌≤◌, [], ◌∷◌, ◌++◌, length}
use Rattle.std.proofs.Common.{sym, ap, ap₂, ◌∙◌, subst, arith}
use Rattle.atomic_table.specs.declared.shared.Seat.{Seat}
use Rattle.crossbeam_queue.specs.Passes.{Pass, view}
use Rattle.mailbox.specs.declared.view.Line.{Line}
use Rattle.mailbox.specs.declared.view.Post.{Post}
use Rattle.mailbox.specs.declared.view.Fill.{Fill}
use Rattle.mailbox.specs.Roles.{HasAll, joined_role}
use Rattle.mailbox.specs.Lines.{IsTold, got_line, joined_line, known_letters, known_numbers}
use Rattle.mailbox.specs.Fills.{empty_look, freeing, joined_fill}
use Rattle.mailbox.specs.Views.{bare_senders, letters_in, Wholes, mail_of, receiver_with}
use Rattle.mailbox.specs.Views.{receiver_empty}
use Rattle.mailbox.specs.Invariants.{IsReceiver, IsSender, receiver_of}
use Rattle.mailbox.proofs.BareLetters.{numbers_more, letters_in_more}

-- that all senders are joined, as the seat at the gauge knows it
pub has_in_seat : (p : Pass Post Line) (c : Seat ℕ Fill) → IsReceiver p c
    → HasAll (view p).role.made (known_numbers (view p))
    → HasAll c.me.0.role.made c.me.0.role.joined
has_in_seat p c i has =
    subst (λ r. HasAll r.made r.joined) (sym i.role)
    (subst (HasAll (view p).role.made) (sym i.names) has)

-- once all senders are joined, an empty mailbox is one from which all was received
pub whole_when_empty : (p : Pass Post Line) (c : Seat ℕ Fill) → IsReceiver p c
    → (HasAll c.me.0.role.made c.me.0.role.joined → c.me.0.claims ≡ c.me.0.freed)
    → HasAll (view p).role.made (known_numbers (view p)) → Wholes (view p).got (known_letters (view p))
whole_when_empty p c i same has =
    let e = same (has_in_seat p c i has) in
    let a = i.claims in
    let b = i.freed in i.told.whole has (omega arith)

-- once all senders are joined and one found the mailbox full, at least the capacity was sent
pub full_when_joined : (p : Pass Post Line) (c : Seat ℕ Fill) (cap : ℕ) → IsReceiver p c
    → c.me.0.capacity ≡ cap
    → (HasAll c.me.0.role.made c.me.0.role.joined → 0 < c.me.0.full
    → c.me.0.capacity ≤ c.me.0.claims)
    → HasAll (view p).role.made (known_numbers (view p)) → 0 < c.me.0.full
    → cap ≤ letters_in (known_letters (view p))
full_when_joined p c cap i own tells has full =
    let e = tells (has_in_seat p c i has) full in
    let a = i.claims in omega arith

-- the views after a turn
pub view_empty : (p : Pass Post Line) (c c' : Seat ℕ Fill) → c'.table_id ≡ c.table_id
    → c'.me ≡ (empty_look c.me.0, c.me.1) → receiver_of p c' ≡ receiver_empty (receiver_of p c)
view_empty p c c' t e i = record {
  mailbox = record {
    queue = p.table_id;
    gauge = t i;
    capacity = (e i).0.capacity;
  };
  received = (view p).got;
  empty = (e i).0.empty;
  joined = known_letters (view p);
  mails = (view p).known;
  made = (view p).role.made;
  full = (e i).0.full;
}

-- an attempt that took nothing shows nothing
pub view_same : (p p' : Pass Post Line) (c : Seat ℕ Fill) → p'.table_id ≡ p.table_id
    → view p' ≡ view p → receiver_of p' c ≡ receiver_of p c
view_same p p' c q v i = record {
  mailbox = record {
    queue = q i;
    gauge = c.table_id;
    capacity = c.me.0.capacity;
  };
  received = (v i).got;
  empty = c.me.0.empty;
  joined = known_letters (v i);
  mails = (v i).known;
  made = (v i).role.made;
  full = c.me.0.full;
}

pub view_got : (p p' : Pass Post Line) (c c' : Seat ℕ Fill) (post : Post) → p'.table_id ≡ p.table_id
    → c'.table_id ≡ c.table_id → view p' ≡ got_line (view p) post
    → c'.me ≡ (freeing c.me.0, c.me.1)
    → receiver_of p' c' ≡ receiver_with (receiver_of p c) post.from (mail_of post)
view_got p p' c c' post q t v e i = record {
  mailbox = record {
    queue = q i;
    gauge = t i;
    capacity = (e i).0.capacity;
  };
  received = (v i).got;
  empty = (e i).0.empty;
  joined = known_letters (v i);
  mails = (v i).known;
  made = (v i).role.made;
  full = (e i).0.full;
}

-- a sender was joined
pub keeps_joined : (p p' q : Pass Post Line) (c c' d : Seat ℕ Fill) (number made : ℕ)
    → IsReceiver p c → IsSender q d number made → p'.me.1 ≡ p.me.1
    → view p' ≡ joined_line (view p) (view q) → c'.me ≡ (joined_fill c.me.0 d.me.0, c.me.1)
    → IsTold (view p') → IsReceiver p' c'
keeps_joined p p' q c c' d number made i s clear v e told = record {
  clear = clear ∙ i.clear;
  free = ap (λ m. m.1) e ∙ i.free;
  role = ap (λ m. m.0.role) e
      ∙ (ap₂ joined_role i.role s.role ∙ sym (ap (λ l. l.role) v));
  sends = ap (λ l. l.role.sends) v ∙ i.sends;
  gets = ap (λ l. l.role.gets) v ∙ i.gets;
  names = ap (λ l. l.role.joined) v
      ∙ (ap (λ l. l ++ (view q).role.number ∷ []) i.names
      ∙ (sym (numbers_more (view p).known ((view q).role.number, (view q).put))
      ∙ sym (ap known_numbers v)));
  freed = ap (λ m. m.0.freed) e ∙ (i.freed ∙ sym (ap (λ l. length l.got) v));
  claims =
      let a = i.claims in
      let b = s.counted in
      let f : c'.me.0.claims ≡ c.me.0.claims + d.me.0.claims = ap (λ m. m.0.claims) e in
      let g = letters_in_more (view p).known ((view q).role.number, (view q).put) in
      let h : letters_in (known_letters (view p'))
      ≡ letters_in (bare_senders ((view p).known ++ ((view q).role.number, (view q).put) ∷ [])) =
      ap (λ l. letters_in (known_letters l)) v in omega arith;
  told = told;
}
