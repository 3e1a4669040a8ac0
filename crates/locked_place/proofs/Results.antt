-- Facts of results.
use Rattle.std.specs.Prelude.{Result, Ok, Err, OnOk, OnErr}

-- what holds anyway holds where it went well
pub ok_anyway : {A B : Type 0} (r : Result A B) (P : Type 0) → P → OnOk r P
ok_anyway (Ok x) P h = h
ok_anyway (Err e) P h = tt

-- what holds in both cases
pub either_way : {A B : Type 0} (r : Result A B) (P Q R : Type 0) → OnOk r P → OnErr r Q →
    (P → R) → (Q → R) → R
either_way (Ok x) P Q R p q f g = f p
either_way (Err e) P Q R p q f g = g q
