-- What is found at a kind's place is as long as what stands there.
use Rattle.std.proofs.Common.{◌≡◌, ℕ, ◌≤◌, List, length, Option, Some, Bor, sym, subst}
use Rattle.std.specs.Prelude.{IfSome}

abbrev IsLong : ℕ → Option (Bor (List ℕ)) → Type 0
IsLong least content = IfSome content (λ x. least ≤ length x.now)

pub found-long : (least : ℕ) (found there : Option (Bor (List ℕ))) → found ≡ there →
    IsLong least there → IsLong least found
found-long least found there same long = subst (IsLong least) (sym same) long

pub found-some : (least : ℕ) (found there : Option (Bor (List ℕ))) (x : Bor (List ℕ)) →
    found ≡ Some x → found ≡ there → IsLong least there → least ≤ length x.now
found-some least found there x is same long =
    subst (IsLong least) is (found-long least found there same long)
