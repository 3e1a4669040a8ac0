-- What was read off a list of totals, when the list or what was read grows.
use Rattle.std.proofs.Common.{◌≡◌, ℕ, ◌≤◌, ◌≢◌, List, [], ◌∷◌, ◌++◌, map, refl, sym}
use Rattle.std.proofs.Common.{Bool, true, false, ap, ◌∙◌, subst, arith, nat_eq, if◌then◌else◌}
use Rattle.std.proofs.Common.{append_assoc, append-nil, le_refl}
use Rattle.std.proofs.lemmas.List.{append_cancel_left, map-append}
use mathlib.Core.List.{IsPrefix}
use borrow.Author.Tests.{eq-eqb, ne_eqb}
use Rattle.glance.specs.declared.totals.Totals.{Totals}
use Rattle.glance.specs.declared.view.Reading.{Reading}
use Rattle.glance.specs.Views.{opening, last_of, latest, Rise, ReadOff, readings_of, shown_of}
use Rattle.glance.specs.Views.{GrowTo, AreBeginnings}

-- the last of a list stands in it
ends_with : (t : Totals) (ps : List Totals)
    → (front : List Totals) × (t ∷ ps ≡ front ++ last_of t ps ∷ [])
ends_with t [] = ([], refl)
ends_with t (p ∷ ps) = let h = ends_with p ps in (t ∷ h.0, ap (λ (xs : List Totals). t ∷ xs) h.1)

-- from a place of a list that rises on it still does
rise_at : (low : ℕ) (front : List Totals) (r : Totals) (back : List Totals)
    → Rise low (front ++ r ∷ back) → (low ≤ r.events) × Rise r.events back
rise_at low [] r back h = h
rise_at low (x ∷ xs) r back h =
    let i = rise_at x.events xs r back h.1 in
    let a = h.0 in
    let b = i.0 in (omega arith, i.1)

-- what is read off a list that rises does too
pub read_rise : (low : ℕ) (ps rs : List Totals) → Rise low ps → ReadOff ps rs → Rise low rs
read_rise low ps [] rise h = tt
read_rise low ps (r ∷ rs) rise h =
    let i = rise_at low h.0 r h.1 (subst (Rise low) h.2 rise) in
    (i.0, read_rise r.events (r ∷ h.1) rs (le_refl r.events, i.1) h.3)

-- a list that rises, and totals more behind it
pub rise_longer : (d : Totals) (ps : List Totals) (p : Totals) → Rise d.events ps
    → (last_of d ps).events ≤ p.events → Rise d.events (ps ++ p ∷ [])
rise_longer d [] p h le = (le, tt)
rise_longer d (x ∷ xs) p h le = (h.0, rise_longer x xs p h.1 le)

pub last_longer : (d : Totals) (ps : List Totals) (p : Totals) → last_of d (ps ++ p ∷ []) ≡ p
last_longer d [] p = refl
last_longer d (x ∷ xs) p = last_longer x xs p

abbrev pub reading : ℕ → List Totals → Reading
reading k published = record { place = k; published = published }

behind_head : {A : Type 0} (b : Bool) (x : A) (xs : List A) (t : A)
    → (if b then x ∷ (xs ++ t ∷ []) else (xs ++ t ∷ []))
    ≡ (if b then x ∷ xs else xs) ++ t ∷ []
behind_head true x xs t = refl
behind_head false x xs t = refl

-- a reading more, of this place or of another
pub one_more : (k : ℕ) (rs : List Reading) (n : ℕ) (ps : List Totals) → n ≡ k
    → shown_of k (rs ++ reading n ps ∷ []) ≡ shown_of k rs ++ ps ∷ []
one_more k [] n ps e = ap (λ b. if b then ps ∷ [] else []) (eq-eqb n k e)
one_more k (r ∷ rs) n ps e =
    ap (λ (xs : List (List Totals)). if nat_eq r.place k then r.published ∷ xs else xs)
    (one_more k rs n ps e)
    ∙ behind_head (nat_eq r.place k) r.published (shown_of k rs) ps

pub none_more : (k : ℕ) (rs : List Reading) (n : ℕ) (ps : List Totals) → n ≢ k
    → shown_of k (rs ++ reading n ps ∷ []) ≡ shown_of k rs
none_more k [] n ps e = ap (λ b. if b then ps ∷ [] else []) (ne_eqb n k e)
none_more k (r ∷ rs) n ps e =
    ap (λ (xs : List (List Totals)). if nat_eq r.place k then r.published ∷ xs else xs)
    (none_more k rs n ps e)

-- what was read of it
pub read_more : (k : ℕ) (rs : List Reading) (n : ℕ) (ps : List Totals) → n ≡ k
    → readings_of k (rs ++ reading n ps ∷ []) ≡ readings_of k rs ++ latest ps ∷ []
read_more k rs n ps e =
    ap (map latest) (one_more k rs n ps e) ∙ map-append latest (shown_of k rs) (ps ∷ [])

pub unread_more : (k : ℕ) (rs : List Reading) (n : ℕ) (ps : List Totals) → n ≢ k
    → readings_of k (rs ++ reading n ps ∷ []) ≡ readings_of k rs
unread_more k rs n ps e = ap (map latest) (none_more k rs n ps e)

-- ---- lists that grow
pub prefix_self : {A : Type 0} (xs : List A) → IsPrefix xs xs
prefix_self xs = ([], append-nil xs)

prefix_trans : {A : Type 0} (xs ys zs : List A) → IsPrefix xs ys → IsPrefix ys zs
    → IsPrefix xs zs
prefix_trans {A = A} xs ys zs p q = (
  p.0 ++ q.0,
  sym (append_assoc xs p.0 q.0) ∙ (ap (λ (l : List A). l ++ q.0) p.1 ∙ q.1),
)

-- the first of lists that grow begins the last
grown_begins : (all before : List Totals) (lists : List (List Totals)) → GrowTo all before lists
    → IsPrefix before all
grown_begins all before [] h = h
grown_begins all before (l ∷ ls) h = prefix_trans before l all h.0 (grown_begins all l ls h.1)

-- totals more are published
pub grown_longer : (all before : List Totals) (lists : List (List Totals)) (t : Totals)
    → GrowTo all before lists → GrowTo (all ++ t ∷ []) before lists
grown_longer all before [] t h = prefix_trans before all (all ++ t ∷ []) h (t ∷ [], refl)
grown_longer all before (l ∷ ls) t h = (h.0, grown_longer all l ls t h.1)

-- all that was published is read
pub grown_more : (all before : List Totals) (lists : List (List Totals)) → GrowTo all before lists
    → GrowTo all before (lists ++ all ∷ [])
grown_more all before [] h = (h, prefix_self all)
grown_more all before (l ∷ ls) h = (h.0, grown_more all l ls h.1)

last_append : (t : Totals) (xs ys : List Totals) → last_of t (xs ++ ys) ≡ last_of (last_of t xs) ys
last_append t [] ys = refl
last_append t (x ∷ xs) ys = last_append x xs ys

-- the last of each of lists that grow is read off the last list
read_off_grown : (before back : List Totals) (lists : List (List Totals))
    → GrowTo (before ++ back) before lists → ReadOff (latest before ∷ back) (map latest lists)
read_off_grown before back [] h = tt
read_off_grown before back (l ∷ ls) h =
    let mid = h.0.0 in
    let rest = grown_begins (before ++ back) l ls h.1 in
    let back_is : mid ++ rest.0 ≡ back =
    append_cancel_left before (mid ++ rest.0) back
    (sym (append_assoc before mid rest.0) ∙ (ap (λ (x : List Totals). x ++ rest.0) h.0.1 ∙ rest.1))
    in
    let e = ends_with (latest before) mid in
    let last_is : last_of (latest before) mid ≡ latest l =
    sym (last_append opening before mid) ∙ ap latest h.0.1 in (
      e.0,
      rest.0,
      ap (λ (x : List Totals). latest before ∷ x) (sym back_is)
          ∙ (ap (λ (x : List Totals). x ++ rest.0) e.1
          ∙ (append_assoc e.0 (last_of (latest before) mid ∷ []) rest.0
          ∙ ap (λ (x : Totals). e.0 ++ x ∷ rest.0) last_is)),
      read_off_grown l rest.0 ls
          (subst (λ (x : List Totals). GrowTo x l ls) (sym rest.1) h.1),
    )

pub read_off_beginnings : (all : List Totals) (lists : List (List Totals))
    → AreBeginnings lists all → ReadOff (opening ∷ all) (map latest lists)
read_off_beginnings all lists h = read_off_grown [] all lists h
