-- Facts of results, from other facts of them.
use Rattle.std.specs.Prelude.{Result, Ok, Err, IfOk, OnOk, OnErr}

pub ok_mapped : {A B : Type 0} (r : Result A B) (P Q : A → Type 0) → ((x : A) → P x → Q x) →
    IfOk r P → IfOk r Q
ok_mapped (Ok x) P Q f h = f x h
ok_mapped (Err e) P Q f h = tt

pub err_mapped : {A B : Type 0} (r : Result A B) (P Q : Type 0) → (P → Q) → OnErr r P → OnErr r Q
err_mapped (Ok x) P Q f h = tt
err_mapped (Err e) P Q f h = f h

pub either_way : {A B : Type 0} (r : Result A B) (P : A → Type 0) (Q R : Type 0) → IfOk r P →
    OnErr r Q → ((x : A) → P x → R) → (Q → R) → R
either_way (Ok x) P Q R p q f g = f x p
either_way (Err e) P Q R p q f g = g q

pub on_ok_mapped : {A B : Type 0} (r : Result A B) (P Q : Type 0) → (P → Q) → OnOk r P → OnOk r Q
on_ok_mapped (Ok x) P Q f h = f h
on_ok_mapped (Err e) P Q f h = tt

pub ok_on : {A B : Type 0} (r : Result A B) (P : A → Type 0) (Q : Type 0) → ((x : A) → P x → Q) →
    IfOk r P → OnOk r Q
ok_on (Ok x) P Q f h = f x h
ok_on (Err e) P Q f h = tt
