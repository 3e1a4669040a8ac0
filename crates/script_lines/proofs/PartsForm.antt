-- Parts with a word between them are read from exactly the words that the grammar has for them.
use Rattle.std.proofs.Common.{◌≡◌, ℕ, List, [], ◌∷◌, ◌++◌, Option, Some, None, ◌∙◌, refl, sym, ap}
use Rattle.std.proofs.Common.{subst}
use Rattle.std.proofs.lemmas.Option.{same_Some}
use Rattle.text_lines.specs.Words.{◌>>=◌, cut_at_word}
use Rattle.script_lines.specs.Line.{all_of, parts_at}
use Rattle.script_lines.specs.Grammar.{AreParts}
use Rattle.script_lines.proofs.LineParts.{parts_by, parts_found}
use Rattle.script_lines.proofs.WordLaws.{IsWithout, bind_some, cut_word_some, front_cut}
use Rattle.script_lines.proofs.WordLaws.{without_cut}

empty_list : {A : Type 0} (x : A) (xs : List A) → x ∷ xs ≡ [] → ⊥
empty_list x xs e = cc

same_tail : {A : Type 0} (x y : A) (xs ys : List A) → x ∷ xs ≡ y ∷ ys → xs ≡ ys
same_tail x y xs ys e = cc

same_head : {A : Type 0} (x y : A) (xs ys : List A) → x ∷ xs ≡ y ∷ ys → x ≡ y
same_head x y xs ys e = cc

some_part : {A : Type 0} (read : List (List ℕ) → Option A) (mark : List ℕ) (ws : List (List ℕ))
    (o : Option (List (List ℕ) × List (List ℕ))) →
    all_of read (parts_by mark ws o) ≡ Some [] → ⊥
some_part read mark ws None e =
    let one = bind_some (read ws) _ [] e in
    empty_list one.0 [] (same_Some (one.0 ∷ []) [] one.2)
some_part read mark ws (Some parts) e =
    let one = bind_some (read parts.0) _ [] e in
    let more = bind_some (all_of read (parts_at mark parts.1)) _ [] one.2 in
    empty_list one.0 more.0 (same_Some (one.0 ∷ more.0) [] more.2)

one_more : {A : Type 0} (Is : List (List ℕ) → A → Type 0) (mark : List ℕ) (ws : List (List ℕ))
    (parts : List (List ℕ) × List (List ℕ)) (x : A) (xs : List A) →
    ws ≡ parts.0 ++ mark ∷ parts.1 → Is parts.0 x → AreParts Is mark parts.1 xs →
    AreParts Is mark ws (x ∷ xs)
one_more Is mark ws parts x [] words is h = absurd h
one_more Is mark ws parts x (y ∷ xs) words is h = (parts.0, parts.1, is, h, words)

pub parts_some : {A : Type 0} (Is : List (List ℕ) → A → Type 0)
    (read : List (List ℕ) → Option A) (mark : List ℕ) →
    ((ws : List (List ℕ)) (x : A) → read ws ≡ Some x → Is ws x) → (xs : List A)
    (ws : List (List ℕ)) → all_of read (parts_at mark ws) ≡ Some xs → AreParts Is mark ws xs
parts_some Is read mark some [] ws e =
    some_part read mark ws (cut_at_word mark ws) (sym (ap (all_of read) (parts_found mark ws)) ∙ e)
parts_some Is read mark some (x ∷ xs) ws e =
    elim (cut_at_word mark ws) as
    (λ o. cut_at_word mark ws ≡ o → all_of read (parts_by mark ws o) ≡ Some (x ∷ xs) →
    AreParts Is mark ws (x ∷ xs)) [
      | None ↦ λ cut f.
          let one = bind_some (read ws) _ (x ∷ xs) f in
          subst (AreParts Is mark ws) (same_Some (one.0 ∷ []) (x ∷ xs) one.2)
          (some ws one.0 one.1)
      | Some parts ↦ λ cut f.
          let one = bind_some (read parts.0) _ (x ∷ xs) f in
          let more = bind_some (all_of read (parts_at mark parts.1)) _ (x ∷ xs) one.2 in
          let same = same_Some (one.0 ∷ more.0) (x ∷ xs) more.2 in
          let rest : AreParts Is mark parts.1 xs =
          parts_some Is read mark some xs parts.1
          (more.1 ∙ ap (λ zs. Some zs) (same_tail one.0 x more.0 xs same)) in
          one_more Is mark ws parts x xs (cut_word_some mark ws parts cut)
          (subst (Is parts.0) (same_head one.0 x more.0 xs same) (some parts.0 one.0 one.1)) rest
    ] refl (sym (ap (all_of read) (parts_found mark ws)) ∙ e)

-- the word between them stands in no part
pub parts_again : {A : Type 0} (Is : List (List ℕ) → A → Type 0)
    (read : List (List ℕ) → Option A) (mark : List ℕ) →
    ((ws : List (List ℕ)) (x : A) → Is ws x → read ws ≡ Some x) →
    ((ws : List (List ℕ)) (x : A) → Is ws x → IsWithout mark ws) → (xs : List A)
    (ws : List (List ℕ)) → AreParts Is mark ws xs → all_of read (parts_at mark ws) ≡ Some xs
parts_again Is read mark again apart [] ws h = absurd h
parts_again Is read mark again apart (x ∷ []) ws h =
    ap (all_of read)
    (parts_found mark ws ∙ ap (parts_by mark ws) (without_cut mark ws (apart ws x h)))
    ∙ ap (λ o. o >>= λ y. Some [] >>= λ ys. Some (y ∷ ys)) (again ws x h)
parts_again Is read mark again apart (x ∷ y ∷ more) ws h =
    let cut : cut_at_word mark ws ≡ Some (h.0, h.1) =
    ap (cut_at_word mark) h.4 ∙ front_cut mark h.0 h.1 (apart h.0 x h.2) in
    ap (all_of read) (parts_found mark ws ∙ ap (parts_by mark ws) cut)
    ∙ ap (λ o. o >>= λ z. all_of read (parts_at mark h.1) >>= λ zs. Some (z ∷ zs))
    (again h.0 x h.2)
    ∙ ap (λ o. o >>= λ zs. Some (x ∷ zs))
    (parts_again Is read mark again apart (y ∷ more) h.1 h.3)
