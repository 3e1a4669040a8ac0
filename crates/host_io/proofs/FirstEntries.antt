-- The first entry of a name, by its place.
use Rattle.std.proofs.Common.{◌≡◌, ℕ, zero, suc, ◌<◌, ◌≤◌, List, [], ◌∷◌, ◌++◌, length, get_or, set}
use Rattle.std.proofs.Common.{arith, refl, sym, ap, ◌∙◌, Some, None, true, false, cond}
use Rattle.std.specs.List.{find, position, position_or_len, slice_get}
use Rattle.std.proofs.lemmas.Bool.Decides.{nat_tests}
use Rattle.std.proofs.lemmas.List.Folds.{find_at}
use Rattle.std.proofs.lemmas.List.Quantifiers.{position-Some}
use Rattle.std.proofs.lemmas.List.Sums.{position_or_len_is}
use Rattle.std.proofs.lemmas.Option.{slice_get_past, slice_get-get_or}
use Rattle.host_io.specs.Machine.{Entry, is_named, changed, changed_or_new}

pub find-nowhere : (entries : List Entry) (name : List ℕ) →
    position (is_named name) entries ≡ None → find (is_named name) entries ≡ None
find-nowhere entries name none =
    let past : length entries ≤ position_or_len (is_named name) entries =
    grind (arith, nat_tests) in
    find_at (is_named name) entries
    ∙ slice_get_past entries (position_or_len (is_named name) entries) past

pub find-at : (entries : List Entry) (name : List ℕ) (i : ℕ) (d : Entry) →
    position (is_named name) entries ≡ Some i →
    find (is_named name) entries ≡ Some (get_or entries i d)
find-at entries name i d some =
    let here = position-Some (is_named name) entries i d some in
    let at : position_or_len (is_named name) entries ≡ i =
    position_or_len_is (is_named name) entries i d (omega arith) here.2 (λ _. here.1) in
    find_at (is_named name) entries ∙ ap (slice_get entries) at
    ∙ slice_get-get_or entries i d here.0

changed-unfound : (entries : List Entry) (name : List ℕ) (change : Entry → Entry) →
    find (is_named name) entries ≡ None → changed entries name change ≡ entries
changed-unfound [] name change none = refl
changed-unfound (entry ∷ entries) name change none =
    (elim (is_named name entry) as
    (λ b. cond b (Some entry) (find (is_named name) entries) ≡ None →
    cond b (change entry ∷ entries) (entry ∷ changed entries name change) ≡ entry ∷ entries) [
      | true ↦ λ found. cc
      | false ↦ λ found. ap (λ rest. entry ∷ rest) (changed-unfound entries name change found)
    ]) none

pub changed-nowhere : (entries : List Entry) (name : List ℕ) (change : Entry → Entry) →
    position (is_named name) entries ≡ None → changed entries name change ≡ entries
changed-nowhere entries name change none =
    changed-unfound entries name change (find-nowhere entries name none)

changed-first : (entries : List Entry) (name : List ℕ) (change : Entry →
    Entry) (i : ℕ) (d : Entry) →
    i < length entries → is_named name (get_or entries i d) ≡ true →
    ((k : ℕ) → k < i → is_named name (get_or entries k d) ≡ false) →
    changed entries name change ≡ set entries i (change (get_or entries i d))
changed-first [] name change i d within here before = absurd (omega arith)
changed-first (entry ∷ entries) name change zero d within here before = rw here refl
changed-first (entry ∷ entries) name change (suc i) d within here before =
    let other : is_named name entry ≡ false = before 0 (omega arith) in
    rw other (ap (λ rest. entry ∷ rest)
    (changed-first entries name change i d (omega arith) here
    (λ k below. before (suc k) (omega arith))))

pub changed-at : (entries : List Entry) (name : List ℕ) (change : Entry → Entry) (i : ℕ)
    (d : Entry) → position (is_named name) entries ≡ Some i →
    changed entries name change ≡ set entries i (change (get_or entries i d))
changed-at entries name change i d some =
    let here = position-Some (is_named name) entries i d some in
    changed-first entries name change i d here.0 here.1 here.2

-- ---- in the words of a function that has looked the name up

module _ (entries : List Entry) (name : List ℕ) (i : ℕ) (entry : Entry)
    (some : Some i ≡ position (is_named name) entries)
    (read : entry ≡ get_or entries i entry) where
  pub find-here : find (is_named name) entries ≡ Some entry
  find-here = find-at entries name i entry (sym some) ∙ ap Some (sym read)

  pub changed-here : (change : Entry → Entry) (after : Entry) →
      after ≡ change (get_or entries i entry) → set entries i after ≡ changed entries name change
  changed-here change after is = ap (λ e. set entries i e) is
      ∙ sym (changed-at entries name change i entry (sym some))

-- ---- and of one that adds a name's entry

module _ (entries : List Entry) (new : Entry) (change : Entry → Entry) where
  pub changed_or_new-here : (i : ℕ) (entry after : Entry) →
      Some i ≡ position (is_named new.name) entries → entry ≡ get_or entries i entry →
      after ≡ change entry → set entries i after ≡ changed_or_new entries new change
  changed_or_new-here i entry after some read is =
      rw (find-at entries new.name i entry (sym some))
      (ap (λ e. set entries i e) (is ∙ ap change read)
      ∙ sym (changed-at entries new.name change i entry (sym some)))

  pub changed_or_new-nowhere : (entry after : Entry) →
      None ≡ position (is_named new.name) entries → entry ≡ new → after ≡ change entry →
      entries ++ after ∷ [] ≡ changed_or_new entries new change
  changed_or_new-nowhere entry after none made is =
      rw (find-nowhere entries new.name (sym none))
      (ap (λ e. entries ++ e ∷ []) (is ∙ ap change made))
