-- Each kind of step keeps the rule of the lock, and tells what it says.
use Rattle.std.proofs.Common.{◌≡◌, ℕ, zero, suc, ◌+◌, ◌%◌, ◌<◌, ◌≤◌, ◌≢◌, inl, inr, ⊎_elim, ◌==◌}
use Rattle.std.proofs.Common.{true, false, List, [], ◌∷◌, ◌++◌, length, get_or, set, refl, sym, ap}
use Rattle.std.proofs.Common.{◌∙◌, subst, arith, Option, Some}
use mathlib.Core.Option.{none, some, some-injective, some-ne-none}
use mathlib.Core.Logic.{dite}
use mathlib.Core.List.{IsPrefix}
use native.Mathlib.Decide.{ℕ_discrete}
use lib.ListN.{get_elem?}
use lib.Seq.{set-get_or}
use prog.Atomic.{either}
use Rattle.std.specs.List.{range_with_len}
use Rattle.atomic_table.specs.Table.{State, Me, step, keeps, takes, gives, stepped, opening, Allows}
use Rattle.atomic_table.specs.Table.{Splits, Joins, Final, Seen}
use Rattle.atomic_table.proofs.Lists.{set_again, set_else, exchanged}
use Rattle.turn_lock.specs.declared.view.View.{View}
use Rattle.turn_lock.specs.declared.view.Turn.{Turn}
use Rattle.turn_lock.specs.declared.view.Turn.TheVariants.{Outside, Waits, Served, Joined}
use Rattle.turn_lock.specs.Parts.{Tree, Whole, void, Apart, kept, cut}
use Rattle.turn_lock.specs.Places.{In, longer, places_after}
use Rattle.turn_lock.specs.Turns.{HoldsTicket, IsServed, Fits, ticket_no, entered}
use Rattle.turn_lock.specs.Views.{opening_view, spent_view, with_turn, left_view, kept_view}
use Rattle.turn_lock.specs.Views.{split_view, joining_view, label_of}
use Rattle.turn_lock.specs.Rule.{IsUnspent, Somewhere, Differ, Stands, Homes, IsHome, IsAway, Kept}
use Rattle.turn_lock.specs.Steps.{Draws, Peeks, Looks, PassesOn, Tells}
use Rattle.turn_lock.proofs.Trees.{apart_sym, apart_union, apart_kept, apart_cut, apart_pieces}
use Rattle.turn_lock.proofs.Trees.{beside_whole, live_union, live_kept}
use Rattle.turn_lock.proofs.Lists.{prefix_self, prefix_trans, longer_of, in_append, in_front}
use Rattle.turn_lock.proofs.Lists.{in_back, in_merged, merged_in, merged_ascends, all_places}
use Rattle.turn_lock.proofs.Lists.{placed_longer, placed_after, appended_or_before, none_appended}
use Rattle.turn_lock.proofs.Seats.{set_there, one_there, each_set, two_set, some_set, each_new}
use Rattle.turn_lock.proofs.Seats.{two_new, some_new, each_joined, two_joined, some_joined}

-- ---- where a pass stands with its turn
module _ {E : Type 0} where
  -- whose ticket it is was drawn, and isn't served before
  drawn_ticket : (history : List E) (serving ticket k : ℕ) (t : Turn E) → Fits history serving
      ticket t → HoldsTicket k t → (serving ≤ k) × (k < ticket)
  drawn_ticket history serving ticket k Outside f h = absurd h
  drawn_ticket history serving ticket k (Waits n) f h = let a = f.0 in let b = f.1 in
      (omega arith, omega arith)
  drawn_ticket history serving ticket k (Served n list) f h = let a = f.0 in let b = f.1 in
      (omega arith, omega arith)
  drawn_ticket history serving ticket k (Joined a b c d) f h = absurd h

  -- one more ticket is drawn
  fits_more : (history : List E) (serving ticket ticket' : ℕ) (t : Turn E) → ticket ≤ ticket'
      → Fits history serving ticket t → Fits history serving ticket' t
  fits_more history serving ticket ticket' Outside l f = tt
  fits_more history serving ticket ticket' (Waits n) l f = let b = f.1 in (f.0, omega arith)
  fits_more history serving ticket ticket' (Served n list) l f = let b = f.1 in
      (f.0, omega arith, f.2)
  fits_more history serving ticket ticket' (Joined a b c d) l f = tt

  -- the next ticket is served, for a pass that doesn't hold the one before
  fits_next : (history history' : List E) (serving ticket : ℕ) (t : Turn E) → ¬ HoldsTicket serving
      t → Fits history serving ticket t → Fits history' (serving + 1) ticket t
  fits_next history history' serving ticket Outside other f = tt
  fits_next history history' serving ticket (Waits n) other f =
      let a = f.0 in
      let ne : serving ≢ n = other in (omega arith, f.1)
  fits_next history history' serving ticket (Served n list) other f = absurd (other (sym f.0))
  fits_next history history' serving ticket (Joined a b c d) other f = tt

  -- who is served holds the ticket that is being served
  served_ticket : (history : List E) (serving ticket : ℕ) (t : Turn E) → Fits history serving ticket
      t → IsServed t → HoldsTicket serving t
  served_ticket history serving ticket Outside f h = absurd h
  served_ticket history serving ticket (Waits n) f h = absurd h
  served_ticket history serving ticket (Served n list) f h = sym f.0
  served_ticket history serving ticket (Joined a b c d) f h = absurd h

module _ {E S : Type 0} where
  differ_sym : (v w : View E S) → Differ v w → Differ w v
  differ_sym v w d = record {
    parts = apart_sym v.part w.part d.parts;
    places = λ k h i. d.places k i h;
    tickets = λ k h i. d.tickets k i h;
  }

module _ {E S L : Type 0} (entries : S → List E) (label : S → L) (key : S) where
  abbrev Rule : State (Option S) (View E S) → Type 0
  Rule = Kept entries label key

  -- a step that changes nothing
  unmoved : (s : State (Option S) (View E S)) → Rule s → (i me : ℕ) (cs : List (ℕ × Option S))
      (v : View E S) → get_elem? s.views me ≡ some v
      → Rule (stepped s i (get_or s.words i 0) me cs v keeps)
  unmoved s r i me cs v at =
      subst (λ (ws : List ℕ). Rule record { words = ws; homes = s.homes; views = set s.views me v })
      (sym (set-get_or s.words i 0))
      (subst (λ (vs : List (View E S)). Rule record
      { words = s.words; homes = s.homes; views = vs }) (sym (set_again s.views me v at)) r)

  -- ---- a ticket is drawn
  drawn : (s : State (Option S) (View E S)) (r : Rule s) (me : ℕ) (cs : List (ℕ × Option S))
      (v : View E S) (t : ℕ) → get_elem? s.views me ≡ some v → IsUnspent v → v.turn ≡ Outside
      → t ≡ r.ticket → t < 18446744073709551615
      → Rule (stepped s 0 (t + 1) me cs (with_turn v (Waits t)) keeps)
  drawn s r me cs v t at live outside is room =
      let w : View E S = with_turn v (Waits t) in
      let ordered = r.ordered in
      let st = r.each me v at live in record {
        history = r.history;
        ticket = t + 1;
        serving = r.serving;
        words = ap (λ (ws : List ℕ). set ws 0 (t + 1)) r.words;
        fits = omega arith;
        ordered = omega arith;
        each = each_set (Stands label key r.history r.serving (t + 1)) s.views me w
            (λ _. record {
              begins = st.begins;
              named = st.named;
              placed = st.placed;
              turn =
                  (omega arith, omega arith);
              met = tt;
            })
            (λ i u ne at_u live_u. let o = r.each i u at_u live_u in
            record {
              begins = o.begins;
              named = o.named;
              placed = o.placed;
              turn = fits_more
                  r.history r.serving r.ticket (t + 1) u.turn (omega arith) o.turn;
              met = o.met;
            });
        two = two_set Differ differ_sym s.views me w r.two
            (λ _ i u ne at_u live_u. let d = r.two me i v u (λ e. ne (sym e)) at at_u live live_u in
            record {
              parts = d.parts;
              places = d.places;
              tickets = λ k (h : k ≡ t) o. let b = drawn_ticket r.history r.serving r.ticket k
                  u.turn (r.each i u at_u live_u).turn o in absurd (omega arith);
            });
        owned = λ k l. some_set (λ u. In k u.own) s.views me v w at (λ h. h) (λ h. h) (r.owned k l);
        out = λ k a b. dite (ℕ_discrete k t) (λ e. (me, w, set_there s.views me v w at, live, e))
            (λ ne. some_set (λ u. HoldsTicket k u.turn) s.views me v w at (λ h. h)
            (λ h. absurd (subst (HoldsTicket k) outside h)) (r.out k a (omega arith)));
        slot = ⊎_elim (λ (h : IsHome entries label key r.history s.homes). inl h)
            (λ (h : IsAway s.homes s.views). inr (
              h.0,
              some_set (λ u. IsServed u.turn) s.views me v w at (λ h. h)
                  (λ h. absurd (subst IsServed outside h)) h.1,
            )) r.slot;
      }

  pub draws : (slots id : ℕ) (m : Me (Option S) (View E S)) (from : ℕ) → IsUnspent m.0
      → m.0.turn ≡ Outside → from < 18446744073709551615
      → Allows Rule slots id m 0 (λ n. either (n == from) (from + 1) n)
      (Draws (step slots 0 from (from + 1) none) m)
  draws slots id m from live outside room s r _ at _ =
      let n : ℕ = get_or s.words 0 0 in
      let now : n ≡ r.ticket = ap (λ (ws : List ℕ). get_or ws 0 0) r.words in
      dite (ℕ_discrete n from)
      (λ hit. let w : View E S = with_turn m.0 (Waits from) in (
        w,
        keeps,
        tt,
        exchanged n from (from + 1) (λ (x : ℕ). Rule (stepped s 0 x id m.1 w keeps))
            (λ _. drawn s r id m.1 m.0 from at live outside (sym hit ∙ now) room)
            (λ miss. absurd (miss hit)),
        (λ e. ap (λ (k : ℕ). (with_turn m.0 (Waits k), m.1)) (sym e), λ miss. absurd (miss hit)),
      ))
      (λ miss. (
        m.0,
        keeps,
        tt,
        exchanged n from (from + 1) (λ (x : ℕ). Rule (stepped s 0 x id m.1 m.0 keeps))
            (λ hit. absurd (miss hit)) (λ _. unmoved s r 0 id m.1 m.0 at),
        (λ hit. absurd (miss hit), λ _. refl),
      ))

  -- ---- a look that changes nothing
  pub peeks : (slots id i : ℕ) (m : Me (Option S) (View E S)) → Allows Rule slots id m i (λ n. n)
      (Peeks (step slots i 0 0 none) m)
  peeks slots id i m s r _ at _ = (m.0, keeps, tt, unmoved s r i id m.1 m.0 at, refl)

  -- ---- a look at the ticket that is being served
  -- the state isn't out, where a pass that isn't served has the ticket that is
  not_away : (s : State (Option S) (View E S)) (r : Rule s) (me : ℕ) (v : View E S)
      → get_elem? s.views me ≡ some v → IsUnspent v → HoldsTicket r.serving v.turn
      → ¬ IsServed v.turn → ¬ IsAway s.homes s.views
  not_away s r me v at live mine unserved (_, (i, u, at_u, live_u, served)) =
      dite (ℕ_discrete i me)
      (λ e. let same : u ≡ v = one_there s.views me u v
      (subst (λ (k : ℕ). get_elem? s.views k ≡ some u) e at_u) at in
      unserved (subst (λ (x : View E S). IsServed x.turn) same served))
      (λ ne. let d = r.two i me u v ne at_u at live_u live in d.tickets r.serving
      (served_ticket r.history r.serving r.ticket u.turn (r.each i u at_u live_u).turn served)
      mine)

  looked : (s : State (Option S) (View E S)) (r : Rule s) (me : ℕ) (cs : List (ℕ × Option S))
      (v : View E S) (k n : ℕ) (x : S) → get_elem? s.views me ≡ some v → IsUnspent v
      → v.turn ≡ Waits k
      → n ≡ r.serving → n ≡ k → s.homes ≡ some (Some x) ∷ [] → entries x ≡ r.history
      → Rule (stepped s 1 n me cs (with_turn v (Served n (entries x))) (takes 0 (Some x)))
  looked s r me cs v k n x at live waits now hit home list =
      let w : View E S = with_turn v (Served n (entries x)) in
      let st = r.each me v at live in
      let fit : Fits r.history r.serving r.ticket (Waits k) = subst
      (Fits r.history r.serving r.ticket) waits st.turn in
      let drawn_k = fit.1 in
      let swap : (j : ℕ) → HoldsTicket j v.turn → j ≡ n = λ j h. subst (HoldsTicket j) waits h
      ∙ sym hit in
      let back : (j : ℕ) → j ≡ n → HoldsTicket j v.turn = λ j h. subst (HoldsTicket j) (sym waits)
      (h ∙ hit) in record {
        history = r.history;
        ticket = r.ticket;
        serving = r.serving;
        words = ap (λ (ws : List ℕ). set ws 1 n) r.words ∙ ap (λ (z : ℕ). r.ticket ∷ z ∷ []) now;
        fits = r.fits;
        ordered = r.ordered;
        each = each_set (Stands label key r.history r.serving r.ticket) s.views me w
            (λ _. record {
              begins = st.begins;
              named = st.named;
              placed = st.placed;
              turn =
                  (now, omega arith, list);
              met = tt;
            })
            (λ i u ne at_u live_u. r.each i u at_u live_u);
        two = two_set Differ differ_sym s.views me w r.two
            (λ _ i u ne at_u live_u. let d = r.two me i v u (λ e. ne (sym e)) at at_u live live_u in
            record {
              parts = d.parts;
              places = d.places;
              tickets = λ j h o. d.tickets j (back j h) o;
            });
        owned = λ j l. some_set (λ u. In j u.own) s.views me v w at (λ h. h) (λ h. h) (r.owned j l);
        out = λ j a b. some_set (λ u. HoldsTicket j u.turn) s.views me v w at (λ h. h) (swap j)
            (r.out j a b);
        slot = inr (
          ap (λ (hs : Homes S). set hs 0 none) home,
          (me, w, set_there s.views me v w at, live, tt),
        );
      }

  pub looks : (slots id : ℕ) (m : Me (Option S) (View E S)) (k : ℕ) → IsUnspent m.0
      → m.0.turn ≡ Waits k → Allows Rule slots id m 1 (λ n. n)
      (Looks entries label (step slots 1 0 0 none) m)
  looks slots id m k live waits s r _ at _ =
      let n : ℕ = get_or s.words 1 0 in
      let now : n ≡ r.serving = ap (λ (ws : List ℕ). get_or ws 1 0) r.words in
      let mine : ticket_no m.0.turn ≡ k = ap ticket_no waits in
      let st = r.each id m.0 at live in
      dite (ℕ_discrete n k)
      (λ hit. ⊎_elim
      (λ (h : IsHome entries label key r.history s.homes). let x : S = h.0 in (
        with_turn m.0 (Served n (entries x)),
        takes 0 (Some x),
        ap (λ (hs : Homes S). get_elem? hs 0) h.1,
        looked s r id m.1 m.0 k n x at live waits now hit h.1 h.2,
        (
          λ _. (
            x,
            refl,
            subst (IsPrefix m.0.seen) (sym h.2) st.begins,
            st.named
                ∙ ap Some (sym h.3),
          ),
          λ miss. absurd (miss (hit ∙ sym mine)),
        ),
      ))
      (λ (h : IsAway s.homes s.views). absurd
      (not_away s r id m.0 at live (subst (HoldsTicket r.serving) (sym waits) (sym now ∙ hit))
      (λ e. subst IsServed waits e) h)) r.slot)
      (λ miss. (
        m.0,
        keeps,
        tt,
        unmoved s r 1 id m.1 m.0 at,
        (λ hit. absurd (miss (hit ∙ mine)), λ _. refl),
      ))

  -- ---- the next ticket is served
  passed : (s : State (Option S) (View E S)) (r : Rule s) (me : ℕ) (cs : List (ℕ × Option S))
      (v : View E S) (k : ℕ) (h : List E) (x : S) → get_elem? s.views me ≡ some v → IsUnspent v
      → v.turn ≡ Served k h
      → IsPrefix h (entries x) → label_of label v ≡ Some (label x)
      → Rule (stepped s 1 ((get_or s.words 1 0 + 1) % 18446744073709551616) me
      ((0, Some x) ∷ cs) (left_view v (entries x)) gives)
  passed s r me cs v k h x at live served more name =
      let after : List E = entries x in
      let w : View E S = left_view v after in
      let n : ℕ = get_or s.words 1 0 in
      let now : n ≡ r.serving = ap (λ (ws : List ℕ). get_or ws 1 0) r.words in
      let st = r.each me v at live in
      let fit : Fits r.history r.serving r.ticket (Served k h) = subst
      (Fits r.history r.serving r.ticket) served st.turn in
      let mine : HoldsTicket r.serving v.turn = subst (HoldsTicket r.serving) (sym served)
      (sym fit.0) in
      let below_all = r.fits in
      let drawn_k = fit.1 in
      let is_k = fit.0 in
      let next : (n + 1) % 18446744073709551616 ≡ r.serving + 1 = omega arith in
      let before : List E = entered v.turn in
      let is_before : before ≡ r.history = ap entered served ∙ fit.2 in
      let begun : IsPrefix v.seen before = subst (IsPrefix v.seen) (sym is_before) st.begins in
      let goes_on : IsPrefix before after = subst (λ (l : List E). IsPrefix l after)
      (sym (ap entered served)) more in
      let beyond : IsPrefix r.history after = subst (λ (l : List E). IsPrefix l after) is_before
      goes_on in
      let apart_from : (i : ℕ) (u : View E S) → i ≢ me → get_elem? s.views i ≡ some u → IsUnspent u
      → Differ v u = λ i u ne at_u live_u. r.two me i v u (λ e. ne (sym e)) at at_u live live_u
      in record {
        history = after;
        ticket = r.ticket;
        serving = r.serving + 1;
        words = ap (λ (ws : List ℕ). set ws 1 ((n + 1) % 18446744073709551616)) r.words
            ∙ ap (λ (z : ℕ). r.ticket ∷ z ∷ []) next;
        fits = r.fits;
        ordered = omega arith;
        each = each_set (Stands label key after (r.serving + 1) r.ticket) s.views me w
            (λ _. record {
              begins = prefix_self after;
              named = st.named;
              placed = placed_after
                  v.seen before after v.own begun goes_on st.placed;
              turn = tt;
              met = tt;
            })
            (λ i u ne at_u live_u. let o = r.each i u at_u live_u in
            let d = apart_from i u ne at_u live_u in record {
              begins = prefix_trans u.seen r.history after o.begins beyond;
              named = o.named;
              placed = o.placed;
              turn = fits_next r.history after r.serving r.ticket u.turn (d.tickets r.serving mine)
                  o.turn;
              met = o.met;
            });
        two = two_set Differ differ_sym s.views me w r.two
            (λ _ i u ne at_u live_u. let o = r.each i u at_u live_u in
            let d = apart_from i u ne at_u live_u in record {
              parts = d.parts;
              places = λ j a b. ⊎_elim (λ (l : In j v.own). d.places j l b)
                  (λ (l : In j (places_after before after)). none_appended u.seen before after u.own
                  j (subst (IsPrefix u.seen) (sym is_before) o.begins) o.placed l b)
                  (in_append j v.own (places_after before after) a);
              tickets = λ j a b. a;
            });
        owned = λ j l. ⊎_elim
            (λ (b : j < length before). some_set (λ u. In j u.own) s.views me v w at (λ q. q)
            (in_front j v.own (places_after before after))
            (r.owned j (subst (λ (z : List E). j < length z) is_before b)))
            (λ (b : In j (places_after before after)). (
              me,
              w,
              set_there s.views me v w at,
              live,
              in_back j v.own
                  (places_after before after) b,
            )) (appended_or_before before after j l);
        out = λ j a b. some_set (λ u. HoldsTicket j u.turn) s.views me v w at (λ q. q)
            (λ q. let e : j ≡ k = subst (HoldsTicket j) served q in absurd (omega arith))
            (r.out j (omega arith) b);
        slot = inl (
          x,
          ⊎_elim (λ (q : IsHome entries label key r.history s.homes). ap
              (λ (hs : Homes S). set hs 0 (some (Some x))) q.1)
              (λ (q : IsAway s.homes s.views). ap
              (λ (hs : Homes S). set hs 0 (some (Some x)))
              q.0) r.slot,
          refl,
          cc (name, st.named),
        );
      }

  pub passes : (slots id : ℕ) (v : View E S) (cs : List (ℕ × Option S)) (k : ℕ) (h : List E) (x : S)
      → IsUnspent v → v.turn ≡ Served k h → IsPrefix h (entries x) → label_of label v ≡ Some
      (label x)
      → Allows Rule slots id (v, (0, Some x) ∷ cs) 1 (λ n. (n + 1) % 18446744073709551616)
      (PassesOn entries (step slots 1 1 0 none) (v, (0, Some x) ∷ cs))
  passes slots id v cs k h x live served more name s r _ at _ =
      let w : View E S = left_view v (entries x) in
      let after = passed s r id cs v k h x at live served more name in
      (w, gives, tt, after, (refl, (after.each id w (set_there s.views id v w at) live).placed))

  -- the same at a seat that is known by an equation
  pub passes_at : (slots id : ℕ) (m : Me (Option S) (View E S)) (v : View E S)
      (cs : List (ℕ × Option S)) (k : ℕ) (h : List E) (x : S) → m ≡ (v, (0, Some x) ∷ cs)
      → IsUnspent v → v.turn ≡ Served k h → IsPrefix h (entries x)
      → label_of label v ≡ Some (label x) → Allows Rule slots id m 1
      (λ n. (n + 1) % 18446744073709551616) (PassesOn entries (step slots 1 1 0 none) m)
  passes_at slots id m v cs k h x e live served more name =
      subst (λ (m : Me (Option S) (View E S)). Allows Rule slots id m 1
      (λ n. (n + 1) % 18446744073709551616) (PassesOn entries (step slots 1 1 0 none) m))
      (sym e) (passes slots id v cs k h x live served more name)

  -- ---- a pass is split
  pub splits : (id : ℕ) (v : View E S) → IsUnspent v → Splits Rule id v (kept_view v) (split_view v)
  splits id v live s r at =
      let left : View E S = kept_view v in
      let right : View E S = split_view v in
      let vs : List (View E S) = set s.views id left in
      let here : get_elem? vs id ≡ some left = set_there s.views id v left at in
      let st = r.each id v at live in
      let apart_from : (i : ℕ) (u : View E S) → i ≢ id → get_elem? s.views i ≡ some u → IsUnspent u
      → Differ v u = λ i u ne at_u live_u. r.two id i v u (λ e. ne (sym e)) at at_u live live_u
      in
      let keeps_some : (P : View E S → Type 0) → (P v → P left) → Somewhere P s.views → Somewhere P
      (vs ++ right ∷ []) = λ P f w. some_new P vs right
      (some_set P s.views id v left at (λ _. live_kept v.part live) f w) in record {
        history = r.history;
        ticket = r.ticket;
        serving = r.serving;
        words = r.words;
        fits = r.fits;
        ordered = r.ordered;
        each = each_new (Stands label key r.history r.serving r.ticket) vs right
            (each_set (Stands label key r.history r.serving r.ticket) s.views id left
            (λ _. record {
              begins = st.begins;
              named = st.named;
              placed = st.placed;
              turn = st.turn;
              met = st.met;
            })
            (λ i u ne at_u live_u. r.each i u at_u live_u))
            record { begins = st.begins; named = st.named; placed = tt; turn = tt; met = tt };
        two = two_new Differ differ_sym vs right
            (two_set Differ differ_sym s.views id left r.two
            (λ _ i u ne at_u live_u. let d = apart_from i u ne at_u live_u in record {
              parts = apart_kept v.part u.part d.parts;
              places = d.places;
              tickets = d.tickets;
            }))
            (each_set (Differ right) s.views id left
            (λ _. record {
              parts = apart_sym (kept v.part) (cut v.part) (apart_pieces v.part);
              places = λ k a b. a;
              tickets = λ k a b. a;
            })
            (λ i u ne at_u live_u. let d = apart_from i u ne at_u live_u in record {
              parts = apart_cut v.part u.part d.parts;
              places = λ k a b. a;
              tickets = λ k a b. a;
            }));
        owned = λ k l. keeps_some (λ u. In k u.own) (λ h. h) (r.owned k l);
        out = λ k a b. keeps_some (λ u. HoldsTicket k u.turn) (λ h. h) (r.out k a b);
        slot = ⊎_elim (λ (h : IsHome entries label key r.history s.homes). inl h)
            (λ (h : IsAway s.homes s.views). inr
            (h.0, keeps_some (λ u. IsServed u.turn) (λ q. q) h.1)) r.slot;
      }

  -- ---- a pass is joined into another
  pub joins : (id : ℕ) (v : View E S) (o : ℕ) (w : View E S) → IsUnspent v → IsUnspent w
      → v.turn ≡ Outside → w.turn ≡ Outside → Joins Rule id v o w (joining_view v w) spent_view
  joins id v o w live live_w outside outside_w s r at ne at_o =
      let b : View E S = joining_view v w in
      let e : View E S = spent_view in
      let there : get_elem? s.views o ≡ some w = sym (set_else s.views id o b ne) ∙ at_o in
      let spent : ¬ IsUnspent e = λ (h : true ≡ false). absurd cc in
      let st = r.each id v at live in
      let st_w = r.each o w there live_w in
      let d = r.two id o v w (λ q. ne (sym q)) at there live live_w in
      let long = longer_of v.seen w.seen r.history st.begins st_w.begins in
      let keeps_some : (P : View E S → Type 0) → (P v → P b) → (P w → P b) → Somewhere P s.views
      → Somewhere P (set (set s.views id b) o e) =
      λ P f g q. some_joined P s.views id o v w b e at there ne (live_union v.part w.part live) f g
      q in record {
        history = r.history;
        ticket = r.ticket;
        serving = r.serving;
        words = r.words;
        fits = r.fits;
        ordered = r.ordered;
        each = each_joined (Stands label key r.history r.serving r.ticket) s.views id o b e spent
            r.each record {
              begins = long.0;
              named = st.named;
              placed = merged_ascends 0 (length (longer v.seen w.seen)) v.own w.own
                  (placed_longer v.seen (longer v.seen w.seen) v.own long.1 st.placed)
                  (placed_longer w.seen (longer v.seen w.seen) w.own long.2 st_w.placed) d.places;
              turn = tt;
              met = (long.1, long.2, d.places);
            };
        two = two_joined Differ differ_sym s.views id o b e spent r.two
            (λ i u ne_id ne_o at_u live_u.
            let d_v = r.two id i v u (λ q. ne_id (sym q)) at at_u live live_u in
            let d_w = r.two o i w u (λ q. ne_o (sym q)) there at_u live_w live_u in record {
              parts = apart_union v.part w.part u.part d_v.parts d_w.parts;
              places = λ k p q. ⊎_elim (λ (l : In k v.own). d_v.places k l q)
                  (λ (l : In k w.own). d_w.places k l q) (in_merged k v.own w.own p);
              tickets = λ k p q. p;
            });
        owned = λ k l. keeps_some (λ u. In k u.own) (λ h. merged_in k v.own w.own (inl h))
            (λ h. merged_in k v.own w.own (inr h)) (r.owned k l);
        out = λ k a l. keeps_some (λ u. HoldsTicket k u.turn)
            (λ h. absurd (subst (HoldsTicket k) outside h))
            (λ h. absurd (subst (HoldsTicket k) outside_w h)) (r.out k a l);
        slot = ⊎_elim (λ (h : IsHome entries label key r.history s.homes). inl h)
            (λ (h : IsAway s.homes s.views). inr (
              h.0,
              keeps_some (λ u. IsServed u.turn) (λ q. absurd (subst IsServed outside q))
                  (λ q. absurd (subst IsServed outside_w q)) h.1,
            )) r.slot;
      }

  -- ---- what a join tells
  told : (s : State (Option S) (View E S)) (r : Rule s) (me : ℕ) (cs : List (ℕ × Option S))
      (v : View E S) (a b : List E) (c d : List ℕ) → get_elem? s.views me ≡ some v → IsUnspent v
      → v.turn ≡ Joined a b c d
      → Rule (stepped s 0 (get_or s.words 0 0) me cs (with_turn v Outside) keeps)
  told s r me cs v a b c d at live joined =
      let w : View E S = with_turn v Outside in
      let st = r.each me v at live in record {
        history = r.history;
        ticket = r.ticket;
        serving = r.serving;
        words = sym (sym r.words ∙ sym (set-get_or s.words 0 0));
        fits = r.fits;
        ordered = r.ordered;
        each = each_set (Stands label key r.history r.serving r.ticket) s.views me w
            (λ _. record {
              begins = st.begins;
              named = st.named;
              placed = st.placed;
              turn = tt;
              met
                  = tt;
            })
            (λ i u ne at_u live_u. r.each i u at_u live_u);
        two = two_set Differ differ_sym s.views me w r.two
            (λ _ i u ne at_u live_u. let o = r.two me i v u (λ e. ne (sym e)) at at_u live live_u in
            record { parts = o.parts; places = o.places; tickets = λ k p q. p });
        owned = λ k l. some_set (λ u. In k u.own) s.views me v w at (λ h. h) (λ h. h) (r.owned k l);
        out = λ k p q. some_set (λ u. HoldsTicket k u.turn) s.views me v w at (λ h. h)
            (λ h. absurd (subst (HoldsTicket k) joined h)) (r.out k p q);
        slot = ⊎_elim (λ (h : IsHome entries label key r.history s.homes). inl h)
            (λ (h : IsAway s.homes s.views). inr (
              h.0,
              some_set (λ u. IsServed u.turn) s.views me v w at (λ q. q)
                  (λ q. absurd (subst IsServed joined q)) h.1,
            )) r.slot;
      }

  pub tells : (slots id : ℕ) (m : Me (Option S) (View E S)) (a b : List E) (c d : List ℕ)
      → IsUnspent m.0 → m.0.turn ≡ Joined a b c d → Allows Rule slots id m 0 (λ n. n)
      (Tells (step slots 0 0 0 none) m)
  tells slots id m a b c d live joined s r _ at _ = (
    with_turn m.0 Outside,
    keeps,
    tt,
    told s r id m.1 m.0 a b c d at live joined,
    (refl, (r.each id m.0 at live).met),
  )

  -- ---- the lock is opened
  pub opens : entries key ≡ [] → Rule (opening (0 ∷ 0 ∷ []) (Some key ∷ []) (opening_view key))
  opens none_yet = record {
    history = [];
    ticket = 0;
    serving = 0;
    words = refl;
    fits = omega arith;
    ordered = omega arith;
    each = λ i v at live. subst (Stands label key [] 0 0) (only i v at).1 record
        { begins = prefix_self []; named = refl; placed = tt; turn = tt; met = tt };
    two = λ i j v w ne at_v at_w _ _. absurd (ne ((only i v at_v).0 ∙ sym (only j w at_w).0));
    owned = λ k l. absurd (omega arith);
    out = λ k a b. absurd (omega arith);
    slot = inl (key, refl, none_yet, refl);
  }
    where
      only : (i : ℕ) (v : View E S) → get_elem? (opening_view {E = E} key ∷ []) i ≡ some v
          → (i ≡ 0) × (opening_view key ≡ v)
      only zero v at = (refl, some-injective (opening_view key) v at)
      only (suc i) v at = absurd (some-ne-none v (sym at))

  -- ---- the lock is closed
  pub record Closes (v : View E S) (x : S) : Type 0 where
    pub begins : IsPrefix v.seen (entries x)
    pub own : v.own ≡ range_with_len 0 (length (entries x))
    pub named : label_of label v ≡ Some (label x)

  -- by a pass that has the whole and is outside: the state is at home, and each place is its own
  pub closes : (id : ℕ) (v : View E S) (ws : List ℕ) (xs : List (Option S)) → v.part ≡ Whole
      → v.turn ≡ Outside → Final (Seen Rule id v) ws xs → (x : S) × (get_elem? xs 0 ≡ some (Some x))
      × Closes v x
  closes id v ws xs whole outside (s, (r, at), _, _, homes) =
      let live : IsUnspent v = ap void whole in
      let st = r.each id v at live in
      let alone : (P : View E S → Type 0) → Somewhere P s.views → P v = λ P (i, u, at_u, live_u, p).
      dite (ℕ_discrete i id)
      (λ e. subst P (one_there s.views id u v
      (subst (λ (k : ℕ). get_elem? s.views k ≡ some u) e at_u) at) p)
      (λ ne. absurd (beside_whole u.part
      (subst (λ (t : Tree). Apart t u.part) whole
      (r.two id i v u (λ e. ne (sym e)) at at_u live live_u).parts) live_u)) in
      ⊎_elim
      (λ (h : IsHome entries label key r.history s.homes). let x : S = h.0 in (
        x,
        homes 0 (Some x) (ap (λ (hs : Homes S). get_elem? hs 0)
            h.1),
        record {
          begins = subst (IsPrefix v.seen) (sym h.2) st.begins;
          own = all_places 0 (length (entries x)) (length (entries x)) v.own (omega arith)
              (placed_longer v.seen (entries x) v.own (subst (IsPrefix v.seen) (sym h.2) st.begins)
              st.placed)
              (λ k _ l. alone (λ u. In k u.own)
              (r.owned k (subst (λ (z : List E). k < length z) h.2 l)));
          named = st.named ∙ ap Some (sym h.3);
        },
      ))
      (λ (h : IsAway s.homes s.views). absurd
      (subst IsServed outside (alone (λ u. IsServed u.turn) h.1))) r.slot

  -- the same of what was taken out of the slot
  pub closes_at : (id : ℕ) (v : View E S) (ws : List ℕ) (xs : List (Option S)) (slot : Option S)
      (y : S) → v.part ≡ Whole → v.turn ≡ Outside → Final (Seen Rule id v) ws xs
      → get_elem? xs 0 ≡ some slot → slot ≡ Some y → Closes v y
  closes_at id v ws xs slot y whole outside last there is =
      let h = closes id v ws xs whole outside last in
      let e : Some h.0 ≡ Some y = some-injective (Some h.0) slot (sym h.1 ∙ there) ∙ is in
      let same : h.0 ≡ y = cc in subst (Closes v) same h.2
