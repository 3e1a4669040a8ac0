-- The entries that are left of each queue's history, by their places.
use Rattle.std.proofs.Common.{◌≡◌, ℕ, zero, suc, ◌+◌, List, [], ◌∷◌, ◌++◌, take, refl, sym, ap}
use Rattle.std.proofs.Common.{subst, ◌∙◌, Some, None, arith, drop, append_assoc, append-nil}
use Rattle.std.specs.Prelude.{slice_get}
use Rattle.histories.specs.declared.entry.Entry.{Entry}
use Rattle.histories.specs.History.{history}
use Rattle.histories.specs.NumberKeys.{not_of, each_number}
use Rattle.histories.specs.QueueHistories.{own_last, others_last}
use Rattle.order_audit.specs.Rows.{RowMap, places_in, places_of, AreAt, first_in, entry_at}
use Rattle.order_audit.specs.Rows.{Lengthens}

-- ---- places

-- a place and its entry more
are_more : (es : List Entry) (queue : ℕ) (before : List Entry) (ps : List ℕ) (hs : List Entry)
    (p : ℕ) (h : Entry) → AreAt es queue before ps hs → slice_get es p ≡ Some h →
    history queue (take p es) ≡ before ++ hs → AreAt es queue before (ps ++ p ∷ []) (hs ++ h ∷ [])
are_more es queue before [] [] p h are there so_far = (there, so_far ∙ append-nil before, tt)
are_more es queue before [] (g ∷ hs) p h are there so_far = absurd are
are_more es queue before (o ∷ ps) [] p h are there so_far = absurd are
are_more es queue before (o ∷ ps) (g ∷ hs) p h are there so_far = (
  are.0,
  are.1,
  are_more es queue (before ++ g ∷ []) ps hs p h are.2 there
      (so_far ∙ sym (append_assoc before (g ∷ []) hs)),
)

-- entries are those before a place, the one there, and those after it
pub cut_at : (es : List Entry) (p : ℕ) (e : Entry) → slice_get es p ≡ Some e →
    es ≡ take p es ++ e ∷ drop (suc p) es
cut_at [] p e there = absurd (cc there)
cut_at (d ∷ es) zero e there = let same : d ≡ e = (cc there) in ap (λ x. x ∷ es) same
cut_at (d ∷ es) (suc p) e there = ap (λ xs. d ∷ xs) (cut_at es p e there)

take_more : (es : List Entry) (p : ℕ) (e : Entry) → slice_get es p ≡ Some e →
    take (suc p) es ≡ take p es ++ e ∷ []
take_more [] p e there = absurd (cc there)
take_more (d ∷ es) zero e there = let same : d ≡ e = (cc there) in ap (λ x. x ∷ []) same
take_more (d ∷ es) (suc p) e there = ap (λ xs. d ∷ xs) (take_more es p e there)

-- the places of each queue have its history
abbrev pub AreRows : List Entry → RowMap → List Entry → Type 0
AreRows es rows front =
    (queue : ℕ) → AreAt es queue [] (places_of rows queue) (history queue front)

-- a place more
pub one_more : (es : List Entry) (old new : RowMap) (p q : ℕ) (e : Entry) →
    slice_get es p ≡ Some e → q ≡ p + 1 → AreRows es old (take p es) →
    Lengthens old new e.queue p → AreRows es new (take q es)
one_more es old new p q e there next are longer =
    let count : q ≡ suc p = omega arith in
    subst (λ n. AreRows es new (take n es)) (sym count)
    (subst (AreRows es new) (sym (take_more es p e there))
    (each_number (λ q. AreAt es q [] (places_of new q) (history q (take p es ++ e ∷ []))) e.queue
    (subst (λ ps. AreAt es e.queue [] ps (history e.queue (take p es ++ e ∷ [])))
    (sym longer.own)
    (subst (AreAt es e.queue [] (places_of old e.queue ++ p ∷ []))
    (sym (own_last (take p es) e))
    (are_more es e.queue [] (places_of old e.queue) (history e.queue (take p es)) p e
    (are e.queue) there refl)))
    (λ q other. subst (λ o. AreAt es q [] (places_in o) (history q (take p es ++ e ∷ [])))
    (sym (longer.others q other))
    (subst (AreAt es q [] (places_of old q))
    (sym (others_last (take p es) e q (not_of e.queue q other))) (are q)))))

-- ---- the first of what is left

module _ (es : List Entry) (queue : ℕ) (before : List Entry) where
  -- where nothing is left, nothing is first
  pub first_none : (ps : List ℕ) → AreAt es queue before ps [] → first_in ps ≡ None
  first_none [] are = refl
  first_none (p ∷ ps) are = absurd are

  -- what is left first is first
  pub first_some : (ps : List ℕ) (h : Entry) (hs : List Entry) →
      AreAt es queue before ps (h ∷ hs) → entry_at es (first_in ps) ≡ Some h
  first_some [] h hs are = absurd are
  first_some (p ∷ ps) h hs are = are.0

  -- an entry at its place, and those that are left behind it
  pub record IsFirst (ps : List ℕ) (hs : List Entry) (p : ℕ) (e : Entry) : Type 0 where
    pub places : List ℕ
    pub others : List Entry
    pub there : ps ≡ p ∷ places
    pub front : hs ≡ e ∷ others
    pub so_far : history queue (take p es) ≡ before
    pub rest : AreAt es queue (before ++ e ∷ []) places others

  -- what is first is left first
  pub some_first : (ps : List ℕ) (hs : List Entry) (p : ℕ) (e : Entry) →
      AreAt es queue before ps hs → first_in ps ≡ Some p → slice_get es p ≡ Some e →
      IsFirst ps hs p e
  some_first [] hs p e are first is = absurd (cc first)
  some_first (o ∷ ps) [] p e are first is = absurd are
  some_first (o ∷ ps) (h ∷ hs) p e are first is =
      let place : o ≡ p = (cc first) in
      let both : Some h ≡ Some e = sym are.0 ∙ ap (slice_get es) place ∙ is in
      let same : h ≡ e = (cc both) in record {
        places = ps;
        others = hs;
        there = ap (λ n. n ∷ ps) place;
        front = ap (λ x. x ∷ hs) same;
        so_far = ap (λ n. history queue (take n es)) (sym place) ∙ are.1;
        rest = subst (λ x. AreAt es queue (before ++ x ∷ []) ps hs) same are.2;
      }
