-- Facts of results.
use Rattle.std.specs.Prelude.{Result, Ok, Err, IfOk, OnOk}

-- what follows from what a success says
pub ok_then : {A B : Type 0} (r : Result A B) (P Q : A → Type 0) → IfOk r P →
    ((x : A) → P x → Q x) → IfOk r Q
ok_then (Ok x) P Q p then_ = then_ x p
ok_then (Err e) P Q p then_ = tt

pub on_ok : {A B : Type 0} (r : Result A B) (P Q : Type 0) → OnOk r P → (P → Q) → OnOk r Q
on_ok (Ok x) P Q p then_ = then_ p
on_ok (Err e) P Q p then_ = tt
