-- The ends keep their roles, through each change of them.
use Rattle.std.proofs.Common.{◌≡◌, ℕ, ◌+◌, ◌≢◌, ◌⊎◌, inl, inr, ⊎_elim, Bool, true, false}
use Rattle.std.proofs.Common.{List, [], ◌∷◌, ◌++◌, length, set, refl, sym, ap, ◌∙◌, subst, arith}
use Rattle.std.proofs.Common.{true≢false}
use Rattle.std.proofs.lemmas.Bool.{false_from_ne_true}
use mathlib.Core.Option.{some, some-injective}
use mathlib.Core.Logic.{dite}
use native.Mathlib.Decide.{ℕ_discrete}
use lib.ListN.{get_elem?}
use Rattle.mailbox.specs.declared.view.Role.{Role}
use Rattle.mailbox.specs.Roles.{In, HasAll, AreDistinct, Fits, Manned, IsSenderAt, first_role}
use Rattle.mailbox.specs.Roles.{sending_role}
use Rattle.mailbox.specs.Roles.{receiving_role, spent_role, parent_role, child_role, joined_role}
use Rattle.mailbox.specs.Roles.{made_known}
use Rattle.atomic_table.proofs.Lists.{set_else, at_longer, at_last}
use Rattle.table_seats.specs.Seats.{each_first, each_set, each_split, each_joined, set_there}
use Rattle.table_seats.specs.Numbered.{at_number, at_same, at_other}

pub in_append : (k n : ℕ) (xs : List ℕ) → In k (xs ++ n ∷ []) → In k xs ⊎ (k ≡ n)
in_append k n [] (inl e) = inr e
in_append k n [] (inr h) = absurd h
in_append k n (x ∷ xs) (inl e) = inl (inl e)
in_append k n (x ∷ xs) (inr h) = ⊎_elim (λ (l : In k xs). inl (inr l)) (λ (e : k ≡ n). inr e)
    (in_append k n xs h)

-- a number that isn't among distinct ones comes to them
pub distinct_more : (n : ℕ) (xs : List ℕ) → AreDistinct xs → (In n xs → ⊥)
    → AreDistinct (xs ++ n ∷ [])
distinct_more n [] d none = ((λ h. h), tt)
distinct_more n (x ∷ xs) d none = (
  λ h. ⊎_elim (λ (i : In x xs). d.0 i) (λ (e : x ≡ n). none (inl (sym e))) (in_append x n xs h),
  distinct_more n xs d.1 (λ i. none (inr i)),
)

-- what a number knows of how many were made, by whether it is number 0
pub known_zero : (n made before : ℕ) → n ≡ 0 → made_known n made before ≡ made
known_zero n made before e = at_same 0 n made (λ _. before) e

pub known_other : (n made before : ℕ) → n ≢ 0 → made_known n made before ≡ before
known_other n made before e = at_other 0 n made (λ _. before) e

-- who has ended still has when one more ends
pub still_ended : (n k : ℕ) (ended : ℕ → Bool) → ended k ≡ true → at_number n true ended k ≡ true
still_ended n k ended h = dite (ℕ_discrete k n) (λ e. at_same n k true ended e)
    (λ ne. at_other n k true ended ne ∙ h)

-- the opening
pub first_fits : Fits (λ _. 0) 0 1 (λ _. false) 0 first_role
first_fits = record {
  sender = λ _. (refl, omega arith, refl);
  zero = λ _ _. refl;
  receiver = λ _. (refl, λ k h. absurd h);
  all_made = λ _ h. absurd (true≢false (sym h));
  once = λ _. tt;
}

module _ {V : Type 0} (role : V → Role) where
  -- an end changes, and still sends under its number where it did
  pub sender_set : (vs : List V) (me id k : ℕ) (v w : V) → get_elem? vs me ≡ some v
      → (role w).sends ≡ (role v).sends → (role w).number ≡ (role v).number
      → IsSenderAt role vs id k → IsSenderAt role (set vs me w) id k
  sender_set vs me id k v w at sends number s =
      dite (ℕ_discrete id me)
      (λ e. let same : s.end ≡ v =
      some-injective s.end v (sym s.there ∙ (ap (get_elem? vs) e ∙ at)) in record {
        end = w;
        there = ap (get_elem? (set vs me w)) e ∙ set_there vs me v w at;
        sends = sends ∙ (ap (λ u. (role u).sends) (sym same) ∙ s.sends);
        numbered = number ∙ (ap (λ u. (role u).number) (sym same) ∙ s.numbered);
      })
      (λ ne. record {
        end = s.end;
        there = set_else vs me id w ne ∙ s.there;
        sends = s.sends;
        numbered = s.numbered;
      })

  -- a new end comes
  pub sender_stays : (vs : List V) (id k : ℕ) (w : V) → IsSenderAt role vs id k
      → IsSenderAt role (vs ++ w ∷ []) id k
  sender_stays vs id k w s = record {
    end = s.end;
    there = at_longer vs (w ∷ []) id s.end s.there;
    sends = s.sends;
    numbered = s.numbered;
  }

  abbrev pub opens : (v : V) → role v ≡ first_role → Manned role (v ∷ [])
  opens v is = record {
    seat = λ _. 0;
    reader = 0;
    made = 1;
    ended = λ _. false;
    started = omega arith;
    unmade = λ k h. refl;
    seated = λ k h _. record {
      end = v;
      there = refl;
      sends = ap (λ (r : Role). r.sends) is;
      numbered = ap (λ (r : Role). r.number) is ∙ omega arith;
    };
    fits = each_first (λ id u. Fits (λ _. 0) 0 1 (λ _. false) id (role u)) v
        (subst (Fits (λ _. 0) 0 1 (λ _. false) 0) (sym is) first_fits);
  }

  -- an end changes, and keeps its role
  abbrev pub stays : (vs : List V) (m : Manned role vs) (me : ℕ) (v w : V)
      → get_elem? vs me ≡ some v → role w ≡ role v → Manned role (set vs me w)
  stays vs m me v w at same = record {
    seat = m.seat;
    reader = m.reader;
    made = m.made;
    ended = m.ended;
    started = m.started;
    unmade = m.unmade;
    seated = λ k low still. sender_set vs me (m.seat k) k v w at (ap (λ (r : Role). r.sends) same)
        (ap (λ (r : Role). r.number) same) (m.seated k low still);
    fits = each_set (λ id u. Fits m.seat m.reader m.made m.ended id (role u)) vs me w
        (subst (Fits m.seat m.reader m.made m.ended me) (sym same) (m.fits me v at))
        (λ i u ne at_u. m.fits i u at_u);
  }

  -- no other end receives
  pub one_gets : (vs : List V) (m : Manned role vs) (me i : ℕ) (v u : V) → get_elem? vs me ≡ some v
      → get_elem? vs i ≡ some u → (role v).gets ≡ true → (role u).gets ≡ true → i ≢ me → ⊥
  one_gets vs m me i v u at at_u gets gets_u ne =
      ne (sym ((m.fits i u at_u).receiver gets_u).0 ∙ ((m.fits me v at).receiver gets).0)

  -- no two ends have one number
  pub one_number : (vs : List V) (m : Manned role vs) (me i : ℕ) (v u : V)
      → get_elem? vs me ≡ some v → get_elem? vs i ≡ some u → (role v).sends ≡ true
      → (role u).sends ≡ true → i ≢ me → (role u).number ≢ (role v).number
  one_number vs m me i v u at at_u sends sends_u ne e =
      ne (sym ((m.fits i u at_u).sender sends_u).0 ∙ ap m.seat e
      ∙ ((m.fits me v at).sender sends).0)

  -- the receiver's end is cut off
  abbrev pub cuts : (vs : List V) (m : Manned role vs) (me : ℕ) (v l r : V)
      → get_elem? vs me ≡ some v → role v ≡ first_role → role l ≡ sending_role
      → role r ≡ receiving_role → Manned role (set vs me l ++ r ∷ [])
  cuts vs m me v l r at is is_l is_r =
      let n : ℕ = length (set vs me l) in
      let F : ℕ → V → Type 0 = λ id u. Fits m.seat n m.made m.ended id (role u) in
      let old : Fits m.seat m.reader m.made m.ended me first_role =
      subst (Fits m.seat m.reader m.made m.ended me) is (m.fits me v at) in
      let gets_v : (role v).gets ≡ true = ap (λ (x : Role). x.gets) is in
      let left : Fits m.seat n m.made m.ended me sending_role = record {
        sender = old.sender;
        zero = old.zero;
        receiver = λ h. absurd (true≢false (sym h));
        all_made = λ h _. absurd (true≢false (sym h));
        once = λ _. tt;
      } in
      let right : Fits m.seat n m.made m.ended n receiving_role = record {
        sender = λ h. absurd (true≢false (sym h));
        zero = λ h _. absurd (true≢false (sym h));
        receiver = λ _. (refl, λ k h. absurd h);
        all_made = λ _ h. absurd (true≢false (sym h ∙ (old.sender refl).2));
        once = λ _. tt;
      } in record {
        seat = m.seat;
        reader = n;
        made = m.made;
        ended = m.ended;
        started = m.started;
        unmade = m.unmade;
        seated = λ k low still. sender_stays (set vs me l) (m.seat k) k r
            (sender_set vs me (m.seat k) k v l at
            (ap (λ (x : Role). x.sends) is_l ∙ ap (λ (x : Role). x.sends) (sym is))
            (ap (λ (x : Role). x.number) is_l ∙ ap (λ (x : Role). x.number) (sym is))
            (m.seated k low still));
        fits = each_split F vs me l r (subst (Fits m.seat n m.made m.ended me) (sym is_l) left)
            (subst (Fits m.seat n m.made m.ended n) (sym is_r) right)
            (λ i u ne at_u. let f = m.fits i u at_u in record {
              sender = f.sender;
              zero = f.zero;
              receiver = λ h. absurd (one_gets vs m me i v u at at_u gets_v h ne);
              all_made = λ h _. absurd (one_gets vs m me i v u at at_u gets_v h ne);
              once = f.once;
            });
      }

  -- the sender of number 0 makes another
  abbrev pub splits : (vs : List V) (m : Manned role vs) (me : ℕ) (v l r : V)
      → get_elem? vs me ≡ some v → (role v).sends ≡ true → (role v).gets ≡ false
      → (role v).number ≡ 0 → role l ≡ parent_role (role v) → role r ≡ child_role (role v)
      → Manned role (set vs me l ++ r ∷ [])
  splits vs m me v l r at sends gets is_zero is_l is_r =
      let n : ℕ = length (set vs me l) in
      let made : ℕ = (role v).made in
      let old = m.fits me v at in
      let same : made ≡ m.made = old.zero sends is_zero in
      let seat : ℕ → ℕ = at_number made n m.seat in
      let mine = old.sender sends in
      let low = mine.1 in
      let F : ℕ → V → Type 0 = λ id u. Fits seat m.reader (made + 1) m.ended id (role u) in
      let started = m.started in
      let left : Fits seat m.reader (made + 1) m.ended me (parent_role (role v)) = record {
        sender = λ _. (
          at_other made (role v).number n m.seat (λ e. omega arith) ∙ mine.0,
          omega arith,
          mine.2,
        );
        zero = λ _ _. refl;
        receiver = λ h. absurd (true≢false (sym h ∙ gets));
        all_made = λ h _. absurd (true≢false (sym h ∙ gets));
        once = λ h. absurd (true≢false (sym h ∙ gets));
      } in
      let right : Fits seat m.reader (made + 1) m.ended n (child_role (role v)) = record {
        sender = λ _. (
          at_same made made n m.seat refl,
          omega arith,
          m.unmade made (omega arith),
        );
        zero = λ _ e. absurd (omega arith);
        receiver = λ h. absurd (true≢false (sym h));
        all_made = λ h _. absurd (true≢false (sym h));
        once = λ h. absurd (true≢false (sym h));
      } in record {
        seat = seat;
        reader = m.reader;
        made = made + 1;
        ended = m.ended;
        started = omega arith;
        unmade = λ k h. m.unmade k (omega arith);
        seated = λ k below still. dite (ℕ_discrete k made)
            (λ e. record {
              end = r;
              there = ap (get_elem? (set vs me l ++ r ∷ [])) (at_same made k n m.seat e)
                  ∙ at_last (set vs me l) r n refl;
              sends = ap (λ (x : Role). x.sends) is_r;
              numbered = ap (λ (x : Role). x.number) is_r ∙ sym e;
            })
            (λ ne. subst (λ i. IsSenderAt role (set vs me l ++ r ∷ []) i k)
            (sym (at_other made k n m.seat ne))
            (sender_stays (set vs me l) (m.seat k) k r
            (sender_set vs me (m.seat k) k v l at (ap (λ (x : Role). x.sends) is_l)
            (ap (λ (x : Role). x.number) is_l) (m.seated k (omega arith) still))));
        fits = each_split F vs me l r
            (subst (Fits seat m.reader (made + 1) m.ended me) (sym is_l) left)
            (subst (Fits seat m.reader (made + 1) m.ended n) (sym is_r) right)
            (λ i u ne at_u. let f = m.fits i u at_u in record {
              sender = λ h. let t = f.sender h in let below = t.1 in (
                at_other made (role u).number n m.seat (λ e. omega arith) ∙ t.0,
                omega arith,
                t.2,
              );
              zero = λ h e. absurd (one_number vs m me i v u at at_u sends h ne
                  (e ∙ sym is_zero));
              receiver = f.receiver;
              all_made = λ _ h. absurd (true≢false (sym h ∙ ap m.ended (sym is_zero) ∙ mine.2));
              once = f.once;
            });
      }

  -- a sender is joined into the receiver
  abbrev pub joins : (vs : List V) (m : Manned role vs) (me o : ℕ) (v w b e : V)
      → get_elem? vs me ≡ some v → get_elem? vs o ≡ some w → ¬ (o ≡ me)
      → (role v).sends ≡ false → (role v).gets ≡ true → (role w).sends ≡ true
      → role b ≡ joined_role (role v) (role w) → role e ≡ spent_role
      → Manned role (set (set vs me b) o e)
  joins vs m me o v w b e at at_w ne sends gets sends_w is_b is_e =
      let n : ℕ = (role w).number in
      let ended : ℕ → Bool = at_number n true m.ended in
      let F : ℕ → V → Type 0 = λ id u. Fits m.seat m.reader m.made ended id (role u) in
      let old = m.fits me v at in
      let theirs = (m.fits o w at_w).sender sends_w in
      let low = theirs.1 in
      let taker : Fits m.seat m.reader m.made ended me (joined_role (role v) (role w)) = record {
        sender = λ h. absurd (true≢false (sym h ∙ sends));
        zero = λ h _. absurd (true≢false (sym h ∙ sends));
        receiver = λ _. (
          (old.receiver gets).0,
          λ k h. ⊎_elim
              (λ (i : In k (role v).joined). still_ended n k m.ended ((old.receiver gets).1 k i))
              (λ (i : k ≡ n). at_same n k true m.ended i) (in_append k n (role v).joined h),
        );
        all_made = λ _ h. dite (ℕ_discrete n 0)
            (λ z. known_zero n (role w).made (role v).made z
            ∙ (m.fits o w at_w).zero sends_w z)
            (λ nz. known_other n (role w).made (role v).made nz
            ∙ old.all_made gets
            (sym (at_other n 0 true m.ended (λ z. nz (sym z))) ∙ h));
        once = λ _. distinct_more n (role v).joined (old.once gets)
            (λ i. true≢false (sym ((old.receiver gets).1 n i) ∙ theirs.2));
      } in
      let gone : Fits m.seat m.reader m.made ended o spent_role = record {
        sender = λ h. absurd (true≢false (sym h));
        zero = λ h _. absurd (true≢false (sym h));
        receiver = λ h. absurd (true≢false (sym h));
        all_made = λ h _. absurd (true≢false (sym h));
        once = λ h. absurd (true≢false (sym h));
      } in record {
        seat = m.seat;
        reader = m.reader;
        made = m.made;
        ended = ended;
        started = m.started;
        unmade = λ k h. at_other n k true m.ended (λ z. omega arith) ∙ m.unmade k h;
        seated = λ k below still.
            let ne_n : k ≢ n = λ e. true≢false (sym (at_same n k true m.ended e) ∙ still) in
            let s = m.seated k below (sym (at_other n k true m.ended ne_n) ∙ still) in
            let ne_me : m.seat k ≢ me = λ e. true≢false (sym s.sends
            ∙ (ap (λ u. (role u).sends) (some-injective s.end v
            (sym s.there ∙ (ap (get_elem? vs) e ∙ at))) ∙ sends)) in
            let ne_o : m.seat k ≢ o = λ z. ne_n (sym s.numbered
            ∙ ap (λ u. (role u).number) (some-injective s.end w
            (sym s.there ∙ (ap (get_elem? vs) z ∙ at_w)))) in record {
              end = s.end;
              there = set_else (set vs me b) o (m.seat k) e ne_o
                  ∙ (set_else vs me (m.seat k) b ne_me ∙ s.there);
              sends = s.sends;
              numbered = s.numbered;
            };
        fits = each_joined F vs me o b e
            (subst (Fits m.seat m.reader m.made ended me) (sym is_b) taker)
            (subst (Fits m.seat m.reader m.made ended o) (sym is_e) gone)
            (λ i u ne_me ne_o at_u. let f = m.fits i u at_u in record {
              sender = λ h. let t = f.sender h in (
                t.0,
                t.1,
                at_other n (role u).number true m.ended
                    (one_number vs m o i w u at_w at_u sends_w h ne_o)
                    ∙ t.2,
              );
              zero = f.zero;
              receiver = λ h. absurd (one_gets vs m me i v u at at_u gets h ne_me);
              all_made = λ h _. absurd (one_gets vs m me i v u at at_u gets h ne_me);
              once = f.once;
            });
      }

  -- once all senders are joined, no other end sends or receives
  pub alone : (vs : List V) (m : Manned role vs) (me : ℕ) (v : V) → get_elem? vs me ≡ some v
      → (role v).gets ≡ true → HasAll (role v).made (role v).joined → (i : ℕ) (u : V) → i ≢ me
      → get_elem? vs i ≡ some u → ((role u).sends ≡ false) × ((role u).gets ≡ false)
  alone vs m me v at gets (zeroth, each) i u ne at_u =
      let old = m.fits me v at in
      let ends = (old.receiver gets).1 in
      let made : (role v).made ≡ m.made = old.all_made gets (ends 0 zeroth) in (
        false_from_ne_true (role u).sends (λ h. let t = (m.fits i u at_u).sender h in
            let low = t.1 in
            true≢false (sym (ends (role u).number (each (role u).number (omega arith))) ∙ t.2)),
        false_from_ne_true (role u).gets (λ h. one_gets vs m me i v u at at_u gets h ne),
      )
