-- What is ready is taken, again and again. If all is taken so, that is one order; and where there
-- is one, all is taken.
use Rattle.std.proofs.Common.{◌≡◌, ℕ, zero, suc, ◌≤◌, Bool, true, false, List, [], ◌∷◌, ◌++◌}
use Rattle.std.proofs.Common.{refl, sym, ap, subst, ◌∙◌, arith, ◌==◌, not, ◌&&◌, length}
use Rattle.std.proofs.Common.{if◌then◌else◌, append-nil, append_assoc, Option, Some, None}
use Rattle.std.proofs.Common.{length-append, ◌↔◌}
use Rattle.std.specs.List.{list_all, list_any}
use Rattle.std.proofs.lemmas.Bool.Decides.{nat_tests}
use Rattle.std.proofs.lemmas.List.Elements.{filter-append}
use mathlib.Core.List.{IsPrefix}
use Rattle.total_order.specs.Orders.{EachIs, Pairs, part, GoesOn, AreCaused, HasOrder}
use Rattle.total_order.specs.Ready.{is_none, is_ready, first_ready, takes, takes_in, takes_all}
use Rattle.total_order.proofs.Lists.{each_front, pairs_drop}
use Rattle.total_order.proofs.Parts.{prefix_self}

module _ {A : Type 0} where
  -- what no element passes, and what each fails
  none_any : (test : A → Bool) (xs : List A) → list_any test xs ≡ false →
      EachIs (λ x. test x ≡ false) xs
  none_any test [] e = tt
  none_any test (x ∷ xs) e = by (test x) refl (λ f. none_any test xs f) e
    where
      by : (b : Bool) → test x ≡ b → (list_any test xs ≡ false →
          EachIs (λ y. test y ≡ false) xs) → list_any test (x ∷ xs) ≡ false →
          EachIs (λ y. test y ≡ false) (x ∷ xs)
      by true t rest e = absurd (cc (rw t at e))
      by false t rest e = (t, rest (rw t at e))

  any_none : (test : A → Bool) (xs : List A) → EachIs (λ x. test x ≡ false) xs →
      list_any test xs ≡ false
  any_none test [] h = refl
  any_none test (x ∷ xs) h = rw h.0 (any_none test xs h.1)

  -- what all elements pass, and what each passes
  each_all : (test : A → Bool) (xs : List A) → list_all test xs ≡ true →
      EachIs (λ x. test x ≡ true) xs
  each_all test [] e = tt
  each_all test (x ∷ xs) e = by (test x) refl (λ f. each_all test xs f) e
    where
      by : (b : Bool) → test x ≡ b → (list_all test xs ≡ true →
          EachIs (λ y. test y ≡ true) xs) → list_all test (x ∷ xs) ≡ true →
          EachIs (λ y. test y ≡ true) (x ∷ xs)
      by false t rest e = absurd (cc (rw t at e))
      by true t rest e = (t, rest (rw t at e))

  all_each : (test : A → Bool) (xs : List A) → EachIs (λ x. test x ≡ true) xs →
      list_all test xs ≡ true
  all_each test [] h = refl
  all_each test (x ∷ xs) h = rw h.0 (all_each test xs h.1)

module _ {E : Type 0} (place : E → ℕ) where
  -- what holds of each place's part holds of all
  each_parts : (P : E → Type 0) (ys : List E) → ((p : ℕ) → EachIs P (part place p ys)) →
      EachIs P ys
  each_parts P [] h = tt
  each_parts P (y ∷ ys) h = (first, each_parts P ys others)
    where
      here : (place y == place y) ≡ true
      here = grind (arith, nat_tests)

      at : EachIs P (if place y == place y then y ∷ part place (place y) ys
          else part place (place y) ys)
      at = h (place y)

      first : P y
      first = (subst (λ b. EachIs P (if b then y ∷ part place (place y) ys
          else part place (place y) ys)) here at).0

      others : (p : ℕ) → EachIs P (part place p ys)
      others p = by (place y == p) (h p)
        where
          by : (b : Bool) → EachIs P (if b then y ∷ part place p ys else part place p ys) →
              EachIs P (part place p ys)
          by true k = k.1
          by false k = k

  each_part : (P : E → Type 0) (p : ℕ) (xs : List E) → EachIs P xs → EachIs P (part place p xs)
  each_part P p [] h = tt
  each_part P p (x ∷ xs) h = by (each_part P p xs h.1) (place x == p)
    where
      by : EachIs P (part place p xs) → (b : Bool) →
          EachIs P (if b then x ∷ part place p xs else part place p xs)
      by rest true = (h.0, rest)
      by rest false = rest

  each_moved : (P : E → Type 0) (xs ys : List E) → ((p : ℕ) → part place p ys ≡ part place p xs) →
      EachIs P xs → EachIs P ys
  each_moved P xs ys same h = each_parts P ys
      (λ p. subst (λ zs. EachIs P zs) (sym (same p)) (each_part P p xs h))

  -- none of these is at the place
  abbrev Away : ℕ → List E → Type 0
  Away p xs = EachIs (λ x. (place x == p) ≡ false) xs

  away_part : (p : ℕ) (xs : List E) → Away p xs → part place p xs ≡ []
  away_part p [] h = refl
  away_part p (x ∷ xs) h = rw h.0 (away_part p xs h.1)

  -- the first of a place's part, in the whole
  record First (all : List E) (s : E) : Type 0 where
    front : List E
    back : List E
    whole : all ≡ front ++ s ∷ back
    away : Away (place s) front

  first_of : (p : ℕ) (all : List E) (s : E) (zs : List E) → place s ≡ p →
      part place p all ≡ s ∷ zs → First all s
  first_of p [] s zs at e = absurd (cc e)
  first_of p (x ∷ xs) s zs at e = by (place x == p) refl (λ f. first_of p xs s zs at f) e
    where
      by : (b : Bool) → (place x == p) ≡ b → (part place p xs ≡ s ∷ zs → First xs s) →
          (if b then x ∷ part place p xs else part place p xs) ≡ s ∷ zs → First (x ∷ xs) s
      by true t rest e = record {
        front = [];
        back = xs;
        whole = ap (λ y. y ∷ xs) (cc e);
        away = tt;
      }
      by false t rest e =
          let r = rest e in
          record {
            front = x ∷ r.front;
            back = r.back;
            whole = ap (λ ys. x ∷ ys) r.whole;
            away = (subst (λ q. (place x == q) ≡ false) (sym at) t, r.away);
          }

  part_append : (p : ℕ) (xs ys : List E) →
      part place p (xs ++ ys) ≡ part place p xs ++ part place p ys
  part_append p xs ys = filter-append (λ e. place e == p) xs ys

  -- a thing goes before those of other places
  part_moved : (p : ℕ) (xs ys : List E) (s : E) → Away (place s) xs →
      part place p (xs ++ s ∷ ys) ≡ part place p (s ∷ xs ++ ys)
  part_moved p [] ys s away = refl
  part_moved p (x ∷ xs) ys s away =
      by (part_moved p xs ys s away.1) (place x == p) (place s == p) refl refl
    where
      by : part place p (xs ++ s ∷ ys) ≡ part place p (s ∷ xs ++ ys) → (b c : Bool) →
          (place x == p) ≡ b → (place s == p) ≡ c →
          (if b then x ∷ part place p (xs ++ s ∷ ys) else part place p (xs ++ s ∷ ys))
          ≡ (if c then s ∷ (if b then x ∷ part place p (xs ++ ys) else part place p (xs ++ ys))
          else (if b then x ∷ part place p (xs ++ ys) else part place p (xs ++ ys)))
      by rest true true e f =
          let off = away.0 in absurd (grind (arith, nat_tests))
      by rest true false e f = ap (λ zs. x ∷ zs) (rest ∙ rw f refl)
      by rest false true e f = rest ∙ rw f refl
      by rest false false e f = rest ∙ rw f refl

module _ {E : Type 0} (place : E → ℕ) (Caused : List E → E → Type 0)
    (persists : (e : E) (es fs : List E) → GoesOn place es fs → Caused es e → Caused fs e) where
  caused_front : (before xs ys : List E) → AreCaused Caused before (xs ++ ys) →
      AreCaused Caused before xs
  caused_front before [] ys h = tt
  caused_front before (x ∷ xs) ys h = (h.0, caused_front (before ++ x ∷ []) xs ys h.1)

  caused_back : (before xs ys : List E) → AreCaused Caused before (xs ++ ys) →
      AreCaused Caused (before ++ xs) ys
  caused_back before [] ys h = subst (λ l. AreCaused Caused l ys) (sym (append-nil before)) h
  caused_back before (x ∷ xs) ys h = subst (λ l. AreCaused Caused l ys)
      (append_assoc before (x ∷ []) xs) (caused_back (before ++ x ∷ []) xs ys h.1)

  caused_both : (before xs ys : List E) → AreCaused Caused before xs →
      AreCaused Caused (before ++ xs) ys → AreCaused Caused before (xs ++ ys)
  caused_both before [] ys h k = subst (λ l. AreCaused Caused l ys) (append-nil before) k
  caused_both before (x ∷ xs) ys h k = (
    h.0,
    caused_both (before ++ x ∷ []) xs ys h.1
        (subst (λ l. AreCaused Caused l ys) (sym (append_assoc before (x ∷ []) xs)) k),
  )

  -- they are caused as well after others, of which each place's part is the same or longer
  caused_on : (one other xs : List E) → ((p : ℕ) (zs : List E) (ys : List E) → xs ≡ zs ++ ys →
      IsPrefix (part place p (one ++ zs)) (part place p (other ++ zs))) →
      AreCaused Caused one xs → AreCaused Caused other xs
  caused_on one other [] on h = tt
  caused_on one other (x ∷ xs) on h = (
    persists x one other (λ p. subst (λ l. IsPrefix (part place p l) (part place p other))
        (append-nil one) (subst (λ l. IsPrefix (part place p (one ++ [])) (part place p l))
        (append-nil other) (on p [] (x ∷ xs) refl))) h.0,
    caused_on (one ++ x ∷ []) (other ++ x ∷ []) xs
        (λ p zs ys e. subst (λ l. IsPrefix (part place p l)
        (part place p ((other ++ x ∷ []) ++ zs))) (sym (append_assoc one (x ∷ []) zs))
        (subst (λ l. IsPrefix (part place p (one ++ x ∷ zs)) (part place p l))
        (sym (append_assoc other (x ∷ []) zs)) (on p (x ∷ zs) ys (ap (λ l. x ∷ l) e)))) h.1,
  )

module _ {E : Type 0} (place : E → ℕ) (can : List E → E → Bool) (may : E → E → Bool)
    (persists : (e : E) (es fs : List E) → GoesOn place es fs → can es e ≡ true → can fs e ≡ true)
  where
    abbrev Can : List E → E → Type 0
    Can before e = can before e ≡ true

    abbrev May : E → E → Type 0
    May x y = may x y ≡ true

    -- an order of what is left, after what was taken
    record Left (before rest : List E) : Type 0 where
      all : List E
      same : (p : ℕ) → part place p all ≡ part place p rest
      caused : AreCaused Can before all
      kept : Pairs May all

    record Ready (before us : List E) (s : E) (vs : List E) : Type 0 where
      away : Away place (place s) us
      able : can before s ≡ true
      first : EachIs (May s) (us ++ vs)

    ready : (before us : List E) (s : E) (vs : List E) →
        is_ready place can may before us s vs ≡ true → Ready before us s vs
    ready before us s vs e =
        by (list_any (λ u. place u == place s) us) (can before s)
        (list_all (λ r. may s r) (us ++ vs)) refl refl refl e
      where
        by : (a b c : Bool) → list_any (λ u. place u == place s) us ≡ a → can before s ≡ b →
            list_all (λ r. may s r) (us ++ vs) ≡ c → (not a && (b && c)) ≡ true →
            Ready before us s vs
        by false true true x y z e = record {
          away = none_any (λ u. place u == place s) us x;
          able = y;
          first = each_all (λ r. may s r) (us ++ vs) z;
        }
        by true b c x y z e = absurd (cc e)
        by false false c x y z e = absurd (cc e)
        by false true false x y z e = absurd (cc e)

    is_so : (before us : List E) (s : E) (vs : List E) → Ready before us s vs →
        is_ready place can may before us s vs ≡ true
    is_so before us s vs r =
        rw (any_none (λ u. place u == place s) us r.away)
        (rw r.able (rw (all_each (λ q. may s q) (us ++ vs) r.first) refl))

    abbrev thing_or : E → Option (E × List E) → E
    thing_or d None = d
    thing_or d (Some (x, ys)) = x

    abbrev others_or : List E → Option (E × List E) → List E
    others_or d None = d
    others_or d (Some (x, ys)) = ys

    -- what was taken of `vs`, after `us`
    record Took (before us vs : List E) (s : E) (others : List E) : Type 0 where
      front : List E
      back : List E
      whole : vs ≡ front ++ s ∷ back
      able : Ready before (us ++ front) s back
      left : others ≡ (us ++ front) ++ back

    took : (before us vs : List E) (s : E) (others : List E) →
        first_ready place can may before us vs ≡ Some (s, others) → Took before us vs s others
    took before us [] s others e = absurd (cc e)
    took before us (v ∷ vs) s others e =
        by (is_ready place can may before us v vs) refl
        (λ f. took before (us ++ v ∷ []) vs s others f) e
      where
        by : (b : Bool) → is_ready place can may before us v vs ≡ b →
            (first_ready place can may before (us ++ v ∷ []) vs ≡ Some (s, others) →
            Took before (us ++ v ∷ []) vs s others) →
            (if b then Some (v, us ++ vs) else first_ready place can may before (us ++ v ∷ []) vs)
            ≡ Some (s, others) → Took before us (v ∷ vs) s others
        by true t rest f =
            let r = ready before us v vs t in
            let same : v ≡ s = ap (thing_or v) f in
            let left : us ++ vs ≡ others = ap (others_or us) f in
            record {
              front = [];
              back = vs;
              whole = ap (λ x. x ∷ vs) same;
              able = subst (λ x. Ready before (us ++ []) x vs) same
                  (subst (λ l. Ready before l v vs) (sym (append-nil us)) r);
              left = sym left ∙ ap (λ l. l ++ vs) (sym (append-nil us));
            }
        by false t rest f =
            let k = rest f in
            record {
              front = v ∷ k.front;
              back = k.back;
              whole = ap (λ l. v ∷ l) k.whole;
              able = subst (λ l. Ready before l s k.back) (append_assoc us (v ∷ []) k.front) k.able;
              left = k.left ∙ ap (λ l. l ++ k.back) (append_assoc us (v ∷ []) k.front);
            }

    took_none : (before us vs front : List E) (s : E) (back : List E) →
        first_ready place can may before us vs ≡ None → vs ≡ front ++ s ∷ back →
        Ready before (us ++ front) s back → ⊥
    took_none before us [] [] s back e w r = absurd (cc w)
    took_none before us [] (f ∷ front) s back e w r = absurd (cc w)
    took_none before us (v ∷ vs) front s back e w r =
        by (is_ready place can may before us v vs) refl
        (λ g fs w' r'. took_none before (us ++ v ∷ []) vs fs s back g w' r') front w r e
      where
        by : (b : Bool) → is_ready place can may before us v vs ≡ b →
            (first_ready place can may before (us ++ v ∷ []) vs ≡ None → (fs : List E) →
            vs ≡ fs ++ s ∷ back → Ready before ((us ++ v ∷ []) ++ fs) s back → ⊥) →
            (fs : List E) → v ∷ vs ≡ fs ++ s ∷ back → Ready before (us ++ fs) s back →
            (if b then Some (v, us ++ vs) else first_ready place can may before (us ++ v ∷ []) vs)
            ≡ None → ⊥
        by true t rest fs w r e = absurd (cc e)
        by false t rest [] w r e =
            let head : v ≡ s = cc w in
            let tail : vs ≡ back = cc w in
            let so : is_ready place can may before us v vs ≡ true =
            subst (λ x. is_ready place can may before us x vs ≡ true) (sym head)
            (subst (λ l. is_ready place can may before us s l ≡ true) (sym tail)
            (is_so before us s back (subst (λ l. Ready before l s back) (append-nil us) r))) in
            absurd (cc (so, t))
        by false t rest (f ∷ fs) w r e =
            let head : v ≡ f = cc w in
            rest e fs (cc w)
            (subst (λ l. Ready before l s back) (sym (append_assoc us (v ∷ []) fs))
            (subst (λ x. Ready before (us ++ x ∷ fs) s back) (sym head) r))

    cancel : (p : ℕ) (s : E) (us vs : List E) → part place p (s ∷ us) ≡ part place p (s ∷ vs) →
        part place p us ≡ part place p vs
    cancel p s us vs e = by (place s == p) e
      where
        by : (b : Bool) → (if b then s ∷ part place p us else part place p us)
            ≡ (if b then s ∷ part place p vs else part place p vs) →
            part place p us ≡ part place p vs
        by true e = cc e
        by false e = e

    head_of : (s : E) (us : List E) → part place (place s) (s ∷ us) ≡ s ∷ part place (place s) us
    head_of s us =
        let here : (place s == place s) ≡ true = grind (arith, nat_tests) in rw here refl

    -- another goes first
    exchanged : (before front back : List E) (s : E) → Ready before front s back →
        Left before (front ++ s ∷ back) → Left (before ++ s ∷ []) (front ++ back)
    exchanged before front back s r g = record {
      all = f.front ++ f.back;
      same = λ p. cancel p s (f.front ++ f.back) (front ++ back)
          (sym (part_moved place p f.front f.back s f.away)
          ∙ ap (λ l. part place p l) (sym f.whole) ∙ g.same p
          ∙ part_moved place p front back s r.away);
      caused = caused_both place Can persists (before ++ s ∷ []) f.front f.back
          (caused_on place Can persists before (before ++ s ∷ []) f.front longer
          (caused_front place Can persists before f.front (s ∷ f.back) caused))
          (caused_on place Can persists ((before ++ f.front) ++ s ∷ [])
          ((before ++ s ∷ []) ++ f.front) f.back
          (λ p zs ys e.
          subst (λ l. IsPrefix (part place p (((before ++ f.front) ++ s ∷ []) ++ zs)) l)
          (moved p zs) (prefix_self (part place p (((before ++ f.front) ++ s ∷ []) ++ zs))))
          (caused_back place Can persists before f.front (s ∷ f.back) caused).1);
      kept = pairs_drop May f.front f.back s
          (subst (λ l. Pairs May l) f.whole g.kept);
    }
      where
        f : First place g.all s
        f = first_of place (place s) g.all s (part place (place s) (front ++ back)) refl
            (g.same (place s) ∙ part_moved place (place s) front back s r.away
            ∙ head_of s (front ++ back))

        caused : AreCaused Can before (f.front ++ s ∷ f.back)
        caused = subst (λ l. AreCaused Can before l) f.whole g.caused

        moved : (p : ℕ) (zs : List E) → part place p (((before ++ f.front) ++ s ∷ []) ++ zs)
            ≡ part place p (((before ++ s ∷ []) ++ f.front) ++ zs)
        moved p zs = ap (λ l. part place p l) (append_assoc (before ++ f.front) (s ∷ []) zs
            ∙ append_assoc before f.front (s ∷ zs))
            ∙ part_append place p before (f.front ++ s ∷ zs)
            ∙ ap (λ l. part place p before ++ l) (part_moved place p f.front zs s f.away)
            ∙ sym (part_append place p before (s ∷ f.front ++ zs))
            ∙ ap (λ l. part place p l) (sym (append_assoc (before ++ s ∷ []) f.front zs
            ∙ append_assoc before (s ∷ []) (f.front ++ zs)))

        longer : (p : ℕ) (zs ys : List E) → f.front ≡ zs ++ ys →
            IsPrefix (part place p (before ++ zs)) (part place p ((before ++ s ∷ []) ++ zs))
        longer p zs ys e = subst (λ l. IsPrefix l (part place p ((before ++ s ∷ []) ++ zs)))
            (sym (part_append place p before zs))
            (subst (λ l. IsPrefix (part place p before ++ part place p zs) l)
            (sym (ap (λ l. part place p l) (append_assoc before (s ∷ []) zs)
            ∙ part_append place p before (s ∷ zs))) (by (place s == p) refl))
          where
            by : (b : Bool) → (place s == p) ≡ b →
                IsPrefix (part place p before ++ part place p zs)
                (part place p before ++ (if b then s ∷ part place p zs else part place p zs))
            by false t = prefix_self (part place p before ++ part place p zs)
            by true t =
                let at : place s ≡ p = grind (arith, nat_tests) in
                let none : part place p zs ≡ [] = away_part place p zs
                (each_front (λ x. (place x == p) ≡ false) zs ys
                (subst (λ l. Away place p l) e
                (subst (λ q. Away place q f.front) at f.away))) in
                subst (λ l. IsPrefix l (part place p before ++ s ∷ part place p zs))
                (sym (ap (λ l. part place p before ++ l) none ∙ append-nil (part place p before)))
                (s ∷ part place p zs, refl)

    sound : (n : ℕ) (before rest : List E) → takes_in place can may n before rest ≡ true →
        Left before rest
    sound zero before [] e = record { all = []; same = λ p. refl; caused = tt; kept = tt }
    sound zero before (r ∷ rest) e = absurd (cc e)
    sound (suc n) before rest e =
        by (first_ready place can may before [] rest) refl (λ b others f. sound n b others f) e
      where
        nil : (us : List E) → is_none us ≡ true → Left before us
        nil [] f = record { all = []; same = λ p. refl; caused = tt; kept = tt }
        nil (u ∷ us) f = absurd (cc f)

        by : (o : Option (E × List E)) → first_ready place can may before [] rest ≡ o →
            ((b others : List E) → takes_in place can may n b others ≡ true → Left b others) →
            takes place can may (takes_in place can may n) before rest o ≡ true → Left before rest
        by None o on f = nil rest f
        by (Some (s, others)) o on f =
            let t = took before [] rest s others o in
            let g = on (before ++ s ∷ []) others f in
            record {
              all = s ∷ g.all;
              same = λ p. cons p s g.all others (g.same p)
                  ∙ ap (λ l. part place p (s ∷ l)) t.left
                  ∙ sym (part_moved place p t.front t.back s t.able.away)
                  ∙ ap (λ l. part place p l) (sym t.whole);
              caused = (t.able.able, g.caused);
              kept = (
                each_moved place (May s) others g.all g.same
                    (subst (λ l. EachIs (May s) l) (sym t.left) t.able.first),
                g.kept,
              );
            }
          where
            cons : (p : ℕ) (s : E) (us vs : List E) → part place p us ≡ part place p vs →
                part place p (s ∷ us) ≡ part place p (s ∷ vs)
            cons p s us vs e = ap (λ l. if place s == p then s ∷ l else l) e

    complete : (n : ℕ) (before rest : List E) → length rest ≤ n → Left before rest →
        takes_in place can may n before rest ≡ true
    complete zero before [] l g = refl
    complete zero before (r ∷ rest) l g = absurd (omega arith)
    complete (suc n) before rest l g =
        by (first_ready place can may before [] rest) refl
        (λ b others m h. complete n b others m h)
      where
        empty : (all us : List E) → us ≡ rest → g.all ≡ all →
            first_ready place can may before [] rest ≡ None → is_none us ≡ true
        empty all [] u w e = refl
        empty [] (r ∷ us) u w e =
            absurd (each_parts place (λ x. ⊥) (r ∷ us)
            (λ p. subst (λ l. EachIs (λ x. ⊥) l)
            (ap (λ l. part place p l) (sym w) ∙ g.same p ∙ ap (λ l. part place p l) (sym u)) tt)).0
        empty (a ∷ all) (r ∷ us) u w e =
            let same : (p : ℕ) → part place p (a ∷ all) ≡ part place p rest =
            λ p. ap (λ l. part place p l) (sym w) ∙ g.same p in
            let f = first_of place (place a) rest a (part place (place a) all) refl
            (sym (same (place a)) ∙ head_of a all) in
            let caused = subst (λ l. AreCaused Can before l) w g.caused in
            let kept = subst (λ l. Pairs May l) w g.kept in
            absurd (took_none before [] rest f.front a f.back e f.whole (record {
              away = f.away;
              able = caused.0;
              first = each_moved place (May a) all (f.front ++ f.back)
                  (λ p. cancel p a (f.front ++ f.back) all
                  (sym (part_moved place p f.front f.back a f.away)
                  ∙ ap (λ l. part place p l) (sym f.whole) ∙ sym (same p))) kept.0;
            }))

        by : (o : Option (E × List E)) → first_ready place can may before [] rest ≡ o →
            ((b others : List E) → length others ≤ n → Left b others →
            takes_in place can may n b others ≡ true) →
            takes place can may (takes_in place can may n) before rest o ≡ true
        by None o on = empty g.all rest refl refl o
        by (Some (s, others)) o on =
            let t = took before [] rest s others o in
            let h = exchanged before t.front t.back s t.able
            (subst (λ l. Left before l) t.whole g) in
            on (before ++ s ∷ []) others
            (let a = ap length t.whole in let b = ap length t.left in
            omega (arith, a, b, length-append t.front (s ∷ t.back), length-append t.front t.back))
            (subst (λ l. Left (before ++ s ∷ []) l) (sym t.left) h)

    pub decided : (es : List E) →
        (takes_all place can may es ≡ true) ↔ HasOrder place Can May es
    decided es = (
      (λ e. let g = sound (length es) [] es e in
          (g.all, record { same = g.same; caused = g.caused; kept = g.kept })),
      (λ h. complete (length es) [] es (omega arith)
          (record { all = h.0; same = h.1.same; caused = h.1.caused; kept = h.1.kept })),
    )
