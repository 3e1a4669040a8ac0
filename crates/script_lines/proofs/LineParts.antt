-- Parts of a line that are read one after the other.
use Rattle.std.proofs.Common.{◌≡◌, ℕ, Bool, true, false, cond, List, [], ◌∷◌, ◌++◌, Option, Some}
use Rattle.std.proofs.Common.{None, ◌∙◌, refl, sym, ap, append_assoc}
use Rattle.std.specs.Prelude.{bytes_eq, option_map}
use Rattle.std.specs.List.{onto_first}
use Rattle.std.proofs.lemmas.List.Splits.{slice_split-cons_yes, slice_split-cons_no}
use Rattle.text_lines.specs.Words.{◌>>=◌, cut_at_word}
use Rattle.script_lines.specs.Line.{all_of, parts_at}

-- the parts as they come by the words before and after the first mark
abbrev pub parts_by : List ℕ → List (List ℕ) → Option (List (List ℕ) × List (List ℕ)) →
    List (List (List ℕ))
parts_by word ws None = ws ∷ []
parts_by word ws (Some parts) = parts.0 ∷ parts_at word parts.1

onto_parts : (word w : List ℕ) (ws : List (List ℕ))
    (o : Option (List (List ℕ) × List (List ℕ))) →
    onto_first w (parts_by word ws o)
    ≡ parts_by word (w ∷ ws) (option_map (λ parts. (w ∷ parts.0, parts.1)) o)
onto_parts word w ws None = refl
onto_parts word w ws (Some parts) = refl

one_word : (word w : List ℕ) (ws : List (List ℕ)) (b : Bool) → bytes_eq w word ≡ b →
    parts_at word ws ≡ parts_by word ws (cut_at_word word ws) →
    parts_at word (w ∷ ws) ≡ parts_by word (w ∷ ws)
    (cond b (Some ([], ws)) (option_map (λ parts. (w ∷ parts.0, parts.1)) (cut_at_word word ws)))
one_word word w ws true e h = slice_split-cons_yes (λ v. bytes_eq v word) w ws e
one_word word w ws false e h =
    slice_split-cons_no (λ v. bytes_eq v word) w ws e ∙ ap (onto_first w) h
    ∙ onto_parts word w ws (cut_at_word word ws)

pub parts_found : (word : List ℕ) (ws : List (List ℕ)) →
    parts_at word ws ≡ parts_by word ws (cut_at_word word ws)
parts_found word [] = refl
parts_found word (w ∷ ws) = one_word word w ws (bytes_eq w word) refl (parts_found word ws)

-- what is read so far, and what the rest is read as, make what all of it is read as
abbrev pub IsUnderway : {A : Type 0} → (List (List ℕ) → Option A) → List ℕ → List (List ℕ) →
    List A → List (List ℕ) → Type 0
IsUnderway read word all done rest =
    all_of read (parts_at word all)
    ≡ option_map (λ more. done ++ more) (all_of read (parts_at word rest))

nothing_done : {A : Type 0} (o : Option (List A)) → o ≡ option_map (λ more. [] ++ more) o
nothing_done None = refl
nothing_done (Some more) = refl

pub begins : {A : Type 0} (read : List (List ℕ) → Option A) (word : List ℕ)
    (ws : List (List ℕ)) → IsUnderway read word ws [] ws
begins read word ws = nothing_done (all_of read (parts_at word ws))

one_more : {A : Type 0} (done : List A) (x : A) (o : Option (List A)) →
    option_map (λ more. done ++ more) (o >>= λ xs. Some (x ∷ xs))
    ≡ option_map (λ more. (done ++ x ∷ []) ++ more) o
one_more done x None = refl
one_more done x (Some more) = ap (λ xs. Some xs) (sym (append_assoc done (x ∷ []) more))

-- one part more
pub goes_on : {A : Type 0} (read : List (List ℕ) → Option A) (word : List ℕ)
    (all rest front later : List (List ℕ)) (done : List A) (x : A) →
    IsUnderway read word all done rest → Some (front, later) ≡ cut_at_word word rest →
    Some x ≡ read front → IsUnderway read word all (done ++ x ∷ []) later
goes_on read word all rest front later done x h cut is =
    h ∙ ap (λ parts. option_map (λ more. done ++ more) (all_of read parts))
    (parts_found word rest ∙ ap (parts_by word rest) (sym cut))
    ∙ ap (λ o. option_map (λ more. done ++ more)
    (o >>= λ y. all_of read (parts_at word later) >>= λ xs. Some (y ∷ xs))) (sym is)
    ∙ one_more done x (all_of read (parts_at word later))

-- a part that is refused
pub refused : {A : Type 0} (read : List (List ℕ) → Option A) (word : List ℕ)
    (all rest front later : List (List ℕ)) (done : List A) →
    IsUnderway read word all done rest → Some (front, later) ≡ cut_at_word word rest →
    None ≡ read front → None ≡ all_of read (parts_at word all)
refused read word all rest front later done h cut is =
    sym (h ∙ ap (λ parts. option_map (λ more. done ++ more) (all_of read parts))
    (parts_found word rest ∙ ap (parts_by word rest) (sym cut))
    ∙ ap (λ o. option_map (λ more. done ++ more)
    (o >>= λ y. all_of read (parts_at word later) >>= λ xs. Some (y ∷ xs))) (sym is))

-- the last part
pub ends : {A : Type 0} (read : List (List ℕ) → Option A) (word : List ℕ)
    (all rest : List (List ℕ)) (done : List A) (x : A) →
    IsUnderway read word all done rest → None ≡ cut_at_word word rest → Some x ≡ read rest →
    Some (done ++ x ∷ []) ≡ all_of read (parts_at word all)
ends read word all rest done x h cut is =
    sym (h ∙ ap (λ parts. option_map (λ more. done ++ more) (all_of read parts))
    (parts_found word rest ∙ ap (parts_by word rest) (sym cut))
    ∙ ap (λ o. option_map (λ more. done ++ more)
    (o >>= λ y. Some [] >>= λ xs. Some (y ∷ xs))) (sym is))

-- the last part is refused
pub last_refused : {A : Type 0} (read : List (List ℕ) → Option A) (word : List ℕ)
    (all rest : List (List ℕ)) (done : List A) →
    IsUnderway read word all done rest → None ≡ cut_at_word word rest → None ≡ read rest →
    None ≡ all_of read (parts_at word all)
last_refused read word all rest done h cut is =
    sym (h ∙ ap (λ parts. option_map (λ more. done ++ more) (all_of read parts))
    (parts_found word rest ∙ ap (parts_by word rest) (sym cut))
    ∙ ap (λ o. option_map (λ more. done ++ more)
    (o >>= λ y. Some [] >>= λ xs. Some (y ∷ xs))) (sym is))
