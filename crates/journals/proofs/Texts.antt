-- Texts that are appended piece by piece.
use Rattle.std.proofs.Common.{◌≡◌, List, ◌∷◌, ◌++◌, ℕ, Result, Ok, Err, OnOk, ap}
use Rattle.std.proofs.Common.{sym, ◌∙◌, append_assoc}

-- a heading, a body, and at the end an ending
pub framed : {T E : Type 0} (r : Result T E) (old first second new heading body ending : List ℕ) →
    first ≡ old ++ heading → second ≡ first ++ body
    → OnOk r (new ≡ second ++ ending) → OnOk r (new ≡ old ++ (heading ++ body ++ ending))
framed (Err e) old first second new heading body ending p q h = tt
framed (Ok x) old first second new heading body ending p q h =
    h ∙ ap (λ z. z ++ ending) (q ∙ ap (λ z. z ++ body) p ∙ append_assoc old heading body)
    ∙ append_assoc old (heading ++ body) ending

-- a text of items, item by item: what is still to come after one more
pub told_on : {X : Type 0} (text : List X → List ℕ) (x : X) (left rest : List X)
    (item old new whole : List ℕ) → left ≡ x ∷ rest → text (x ∷ rest) ≡ item ++ text rest →
    new ≡ old ++ item → old ++ text left ≡ whole → new ++ text rest ≡ whole
told_on text x left rest item old new whole there one grown before =
    ap (λ z. z ++ text rest) grown ∙ append_assoc old item (text rest)
    ∙ ap (λ z. old ++ z) (sym one ∙ ap text (sym there)) ∙ before
