-- What holds where a call went well.
use Rattle.std.specs.Prelude.{Result, Ok, Err, OnOk}

-- what follows from it holds there too
pub on_ok : {X E : Type 0} (r : Result X E) (P Q : Type 0) → (P → Q) → OnOk r P → OnOk r Q
on_ok (Ok x) P Q then is = then is
on_ok (Err e) P Q then is = tt
