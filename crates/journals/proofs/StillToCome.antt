-- What holds of all items of a list, if it holds of those that are still to come.
use Rattle.std.proofs.Common.{◌≡◌, List, ◌∷◌, subst, sym}
use Rattle.std.specs.List.{AllByRecursion}

pub at_first : {A : Type 0} (P : A → Type 0) (left all : List A) → left ≡ all →
    AllByRecursion P left → AllByRecursion P all
at_first P left all same h = subst (λ items. AllByRecursion P items) same h

-- after one more, of which it holds
pub one_on : {A : Type 0} (P : A → Type 0) (item : A) (left rest all : List A) →
    left ≡ item ∷ rest → P item → (AllByRecursion P left → AllByRecursion P all) →
    AllByRecursion P rest → AllByRecursion P all
one_on P item left rest all there fits before h =
    before (subst (λ items. AllByRecursion P items) (sym there) (fits, h))
