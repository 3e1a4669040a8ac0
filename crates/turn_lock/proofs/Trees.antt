-- Parts: what a union, a cut and what a cut leaves have in them, and that a part in normal form is
-- known by the ways in it.
use Rattle.std.proofs.Common.{◌≡◌, ℕ, zero, suc, Bool, true, false, ◌&&◌, ◌||◌, not, if◌then◌else◌}
use Rattle.std.proofs.Common.{◌⊎◌, inl, inr, ⊎_elim, refl, sym, ap, ◌∙◌, subst}
use Rattle.turn_lock.specs.Parts.{Tree, Whole, Empty, Pair, pair, union, void, meets, cut, kept}
use Rattle.turn_lock.specs.Parts.{are_mixed, is_normal, further, covers, Apart}

-- what holds of both branches holds of a choice
pub chosen : {A : Type 0} (P : A → Type 0) (b : Bool) (x y : A) → (b ≡ true → P x)
    → (b ≡ false → P y) → P (if b then x else y)
chosen P true x y t f = t refl
chosen P false x y t f = f refl

-- ---- truth values
not_false : (b : Bool) → (b ≡ false → ⊥) → b ≡ true
not_false true h = refl
not_false false h = absurd (h refl)

or_true : (x y : Bool) → (x || y) ≡ true → (x ≡ true) ⊎ (y ≡ true)
or_true true y h = inl refl
or_true false y h = inr h

or_true_right : (x : Bool) → (x || true) ≡ true
or_true_right true = refl
or_true_right false = refl

or_false_right : (x : Bool) → (x || false) ≡ x
or_false_right true = refl
or_false_right false = refl

pub and_false : (x y : Bool) → (x && y) ≡ false → (x ≡ false) ⊎ (y ≡ false)
and_false true y h = inr h
and_false false y h = inl refl

pub false_and : (x y : Bool) → x ≡ false → (x && y) ≡ false
false_and true y h = absurd cc
false_and false y h = refl

pub and_false_right : (x y : Bool) → y ≡ false → (x && y) ≡ false
and_false_right true y h = h
and_false_right false y h = refl

pub and_true : (x y : Bool) → (x && y) ≡ true → (x ≡ true) × (y ≡ true)
and_true true y h = (refl, h)
and_true false y h = absurd cc

pub both_true : (x y : Bool) → x ≡ true → y ≡ true → (x && y) ≡ true
both_true true y h k = k
both_true false y h k = absurd cc

if_same : (s x : Bool) → (if s then x else x) ≡ x
if_same true x = refl
if_same false x = refl

if_or : (s x y z w : Bool) → (if s then (x || y) else (z || w)) ≡
    ((if s then x else z) || (if s then y else w))
if_or true x y z w = refl
if_or false x y z w = refl

if_map : (s x y z w : Bool) → (x ≡ true → z ≡ true) → (y ≡ true → w ≡ true) → (if s then x else y) ≡
    true → (if s then z else w) ≡ true
if_map true x y z w f g h = f h
if_map false x y z w f g h = g h

if_apart : (s x y z w : Bool) → (x ≡ true → z ≡ true → ⊥) → (y ≡ true → w ≡ true → ⊥)
    → (if s then x else y) ≡ true → (if s then z else w) ≡ true → ⊥
if_apart true x y z w f g h k = f h k
if_apart false x y z w f g h k = g h k

if_eq : (s x y z w : Bool) → x ≡ z → y ≡ w → (if s then x else y) ≡ (if s then z else w)
if_eq true x y z w f g = f
if_eq false x y z w f g = g

-- ---- what is in a part
-- a way that begins with one more step
abbrev stepped_way : Bool → (ℕ → Bool) → ℕ → Bool
stepped_way s way zero = s
stepped_way s way (suc n) = way n

covers-pair : (a b : Tree) (way : ℕ → Bool) → covers (pair a b) way ≡ covers (Pair a b) way
covers-pair Whole Whole way = sym (if_same (way 0) true)
covers-pair Whole Empty way = refl
covers-pair Whole (Pair c d) way = refl
covers-pair Empty Whole way = refl
covers-pair Empty Empty way = sym (if_same (way 0) false)
covers-pair Empty (Pair c d) way = refl
covers-pair (Pair a b) q way = refl

-- a way is in a union where it is in one of the two
pub covers-union : (p q : Tree) (way : ℕ → Bool) → covers (union p q) way ≡
    (covers p way || covers q way)
covers-union Whole q way = refl
covers-union Empty q way = refl
covers-union (Pair a b) Whole way = sym (or_true_right (covers (Pair a b) way))
covers-union (Pair a b) Empty way = sym (or_false_right (covers (Pair a b) way))
covers-union (Pair a b) (Pair c d) way =
    covers-pair (union a c) (union b d) way
    ∙ (if_eq (way 0) _ _ (covers b (further way) || covers d (further way))
    (covers a (further way) || covers c (further way)) (covers-union b d (further way))
    (covers-union a c (further way))
    ∙ if_or (way 0) (covers b (further way)) (covers d (further way)) (covers a (further way))
    (covers c (further way)))

pub kept_in : (p : Tree) (way : ℕ → Bool) → covers (kept p) way ≡ true → covers p way ≡ true
kept_in Whole = λ way h. refl
kept_in Empty = λ way h. h
kept_in (Pair a b) = λ way.
    chosen (λ (t : Tree). covers t way ≡ true → covers (Pair a b) way ≡ true) (void a)
    (Pair a (kept b)) (Pair (kept a) b)
    (λ _. if_map (way 0) _ _ _ _ (kept_in b (further way)) (λ h. h))
    (λ _. if_map (way 0) _ _ _ _ (λ h. h) (kept_in a (further way)))

pub cut_in : (p : Tree) (way : ℕ → Bool) → covers (cut p) way ≡ true → covers p way ≡ true
cut_in Whole = λ way h. refl
cut_in Empty = λ way h. h
cut_in (Pair a b) = λ way.
    chosen (λ (t : Tree). covers t way ≡ true → covers (Pair a b) way ≡ true) (void a)
    (Pair Empty (cut b)) (Pair (cut a) Empty)
    (λ _. if_map (way 0) _ _ _ _ (cut_in b (further way)) (λ h. absurd cc))
    (λ _. if_map (way 0) _ _ _ _ (λ h. absurd cc) (cut_in a (further way)))

-- ---- parts with nothing in common
pub apart_sym : (p q : Tree) → Apart p q → Apart q p
apart_sym p q h way k l = h way l k

pub apart_empty : (p : Tree) → Apart p Empty
apart_empty p way h k = absurd cc

pub apart_pair : (a b c d : Tree) → Apart a c → Apart b d → Apart (Pair a b) (Pair c d)
apart_pair a b c d f g way = if_apart (way 0) _ _ _ _ (g (further way)) (f (further way))

pub apart_union : (p q r : Tree) → Apart p r → Apart q r → Apart (union p q) r
apart_union p q r f g way h k =
    ⊎_elim (λ (l : covers p way ≡ true). f way l k) (λ (l : covers q way ≡ true). g way l k)
    (or_true (covers p way) (covers q way) (sym (covers-union p q way) ∙ h))

pub apart_kept : (p q : Tree) → Apart p q → Apart (kept p) q
apart_kept p q f way h = f way (kept_in p way h)

pub apart_cut : (p q : Tree) → Apart p q → Apart (cut p) q
apart_cut p q f way h = f way (cut_in p way h)

pieces_apart : (a b : Tree) → Apart (kept a) (cut a) → Apart (kept b) (cut b) → (v : Bool)
    → Apart (if v then Pair a (kept b) else Pair (kept a) b)
    (if v then Pair Empty (cut b) else Pair (cut a) Empty)
pieces_apart a b f g true = apart_pair a (kept b) Empty (cut b) (apart_empty a) g
pieces_apart a b f g false = apart_pair (kept a) b (cut a) Empty f (apart_empty b)

-- the two pieces of a cut have nothing in common
pub apart_pieces : (p : Tree) → Apart (kept p) (cut p)
apart_pieces Whole = apart_pair Whole Empty Empty Whole (apart_empty Whole)
    (apart_sym Whole Empty (apart_empty Whole))
apart_pieces Empty = apart_empty Empty
apart_pieces (Pair a b) = pieces_apart a b (apart_pieces a) (apart_pieces b) (void a)

-- ---- parts with something in them
-- where something is in a part, some way is
pub some_way : (p : Tree) → void p ≡ false → (way : ℕ → Bool) × (covers p way ≡ true)
some_way Whole h = ((λ _. true), refl)
some_way Empty h = absurd cc
some_way (Pair a b) h =
    ⊎_elim (λ (l : void a ≡ false). let w = some_way a l in (stepped_way false w.0, w.1))
    (λ (l : void b ≡ false). let w = some_way b l in (stepped_way true w.0, w.1))
    (and_false (void a) (void b) h)

-- nothing is beside the whole
pub beside_whole : (q : Tree) → Apart Whole q → void q ≡ false → ⊥
beside_whole q f h = let w = some_way q h in f w.0 refl w.1

void-pair : (a b : Tree) → void (pair a b) ≡ (void a && void b)
void-pair Whole Whole = refl
void-pair Whole Empty = refl
void-pair Whole (Pair c d) = refl
void-pair Empty Whole = refl
void-pair Empty Empty = refl
void-pair Empty (Pair c d) = refl
void-pair (Pair a b) q = refl

pub live_union : (p q : Tree) → void p ≡ false → void (union p q) ≡ false
live_union Whole q h = refl
live_union Empty q h = absurd cc
live_union (Pair a b) Whole h = refl
live_union (Pair a b) Empty h = h
live_union (Pair a b) (Pair c d) h =
    void-pair (union a c) (union b d)
    ∙ ⊎_elim (λ (l : void a ≡ false). false_and (void (union a c)) (void (union b d))
    (live_union a c l))
    (λ (l : void b ≡ false). and_false_right (void (union a c)) (void (union b d))
    (live_union b d l)) (and_false (void a) (void b) h)

-- where nothing is in the first of two parts and something is in both together, something is in the
-- second
second_live : (a b : Tree) → void a ≡ true → void (Pair a b) ≡ false → void b ≡ false
second_live a b e h = ⊎_elim (λ (l : void a ≡ false). absurd cc) (λ l. l)
    (and_false (void a) (void b) h)

pub live_kept : (p : Tree) → void p ≡ false → void (kept p) ≡ false
live_kept Whole h = refl
live_kept Empty h = absurd cc
live_kept (Pair a b) h =
    chosen (λ (t : Tree). void t ≡ false) (void a) (Pair a (kept b)) (Pair (kept a) b)
    (λ e. and_false_right (void a) (void (kept b)) (live_kept b (second_live a b e h)))
    (λ e. false_and (void (kept a)) (void b) (live_kept a e))

pub live_cut : (p : Tree) → void p ≡ false → void (cut p) ≡ false
live_cut Whole h = refl
live_cut Empty h = absurd cc
live_cut (Pair a b) h =
    chosen (λ (t : Tree). void t ≡ false) (void a) (Pair Empty (cut b)) (Pair (cut a) Empty)
    (λ e. live_cut b (second_live a b e h))
    (λ e. false_and (void (cut a)) true (live_cut a e))

-- ---- normal form
normal-pair : (a b : Tree) → is_normal a ≡ true → is_normal b ≡ true → is_normal (pair a b) ≡ true
normal-pair Whole Whole h k = refl
normal-pair Whole Empty h k = refl
normal-pair Whole (Pair c d) h k = both_true (is_normal (Pair c d)) true k refl
normal-pair Empty Whole h k = refl
normal-pair Empty Empty h k = refl
normal-pair Empty (Pair c d) h k = both_true (is_normal (Pair c d)) true k refl
normal-pair (Pair a b) q h k = both_true (is_normal (Pair a b)) (is_normal q && true) h
    (both_true (is_normal q) true k refl)

-- the parts of a pair in normal form, which are mixed
pair_parts : (a b : Tree) → is_normal (Pair a b) ≡ true → (is_normal a ≡ true) ×
    (is_normal b ≡ true) × (are_mixed a b ≡ true)
pair_parts a b h = let l = and_true (is_normal a) (is_normal b && are_mixed a b) h in let m
    = and_true (is_normal b) (are_mixed a b) l.1 in (l.0, m.0, m.1)

pub normal_union : (p q : Tree) → is_normal p ≡ true → is_normal q ≡ true → is_normal (union p q) ≡
    true
normal_union Whole q h k = refl
normal_union Empty q h k = k
normal_union (Pair a b) Whole h k = refl
normal_union (Pair a b) Empty h k = h
normal_union (Pair a b) (Pair c d) h k =
    let l = pair_parts a b h in
    let m = pair_parts c d k in normal-pair (union a c) (union b d) (normal_union a c l.0 m.0)
    (normal_union b d l.1 m.1)

-- with nothing in it, a part in normal form is the empty one
pub void_normal : (p : Tree) → is_normal p ≡ true → void p ≡ true → p ≡ Empty
void_normal Whole h k = absurd cc
void_normal Empty h k = refl
void_normal (Pair a b) h k =
    let l = pair_parts a b h in
    let m = and_true (void a) (void b) k in
    let x : a ≡ Empty = void_normal a l.0 m.0 in
    let y : b ≡ Empty = void_normal b l.1 m.1 in
    let z : are_mixed Empty Empty ≡ true = subst (λ (t : Tree). are_mixed Empty t ≡ true) y
    (subst (λ (t : Tree). are_mixed t b ≡ true) x l.2) in absurd cc

-- what a cut leaves and takes off is a pair, where something is in the part
kept_mixed : (p q : Tree) → void p ≡ false → are_mixed (kept p) q ≡ true
kept_mixed Whole q h = refl
kept_mixed Empty q h = absurd cc
kept_mixed (Pair a b) q h = chosen (λ (t : Tree). are_mixed t q ≡ true) (void a) (Pair a (kept b))
    (Pair (kept a) b) (λ _. refl) (λ _. refl)

cut_mixed : (p q : Tree) → void p ≡ false → are_mixed (cut p) q ≡ true
cut_mixed Whole q h = refl
cut_mixed Empty q h = absurd cc
cut_mixed (Pair a b) q h = chosen (λ (t : Tree). are_mixed t q ≡ true) (void a) (Pair Empty (cut b))
    (Pair (cut a) Empty) (λ _. refl) (λ _. refl)

mixed_kept : (p : Tree) → void p ≡ false → are_mixed Empty (kept p) ≡ true
mixed_kept Whole h = refl
mixed_kept Empty h = absurd cc
mixed_kept (Pair a b) h = chosen (λ (t : Tree). are_mixed Empty t ≡ true) (void a) (Pair a (kept b))
    (Pair (kept a) b) (λ _. refl) (λ _. refl)

mixed_cut : (p : Tree) → void p ≡ false → are_mixed Empty (cut p) ≡ true
mixed_cut Whole h = refl
mixed_cut Empty h = absurd cc
mixed_cut (Pair a b) h = chosen (λ (t : Tree). are_mixed Empty t ≡ true) (void a)
    (Pair Empty (cut b)) (Pair (cut a) Empty) (λ _. refl) (λ _. refl)

normal_from : (a b : Tree) → is_normal a ≡ true → is_normal b ≡ true → are_mixed a b ≡ true
    → is_normal (Pair a b) ≡ true
normal_from a b h k m = both_true (is_normal a) (is_normal b && are_mixed a b) h
    (both_true (is_normal b) (are_mixed a b) k m)

pub normal_kept : (p : Tree) → is_normal p ≡ true → void p ≡ false → is_normal (kept p) ≡ true
normal_kept Whole n h = refl
normal_kept Empty n h = refl
normal_kept (Pair a b) n h =
    let l = pair_parts a b n in
    chosen (λ (t : Tree). is_normal t ≡ true) (void a) (Pair a (kept b)) (Pair (kept a) b)
    (λ e. let live : void b ≡ false = second_live a b e h in
    normal_from a (kept b) l.0 (normal_kept b l.1 live)
    (subst (λ (t : Tree). are_mixed t (kept b) ≡ true) (sym (void_normal a l.0 e))
    (mixed_kept b live)))
    (λ e. normal_from (kept a) b (normal_kept a l.0 e) l.1 (kept_mixed a b e))

pub normal_cut : (p : Tree) → is_normal p ≡ true → void p ≡ false → is_normal (cut p) ≡ true
normal_cut Whole n h = refl
normal_cut Empty n h = refl
normal_cut (Pair a b) n h =
    let l = pair_parts a b n in
    chosen (λ (t : Tree). is_normal t ≡ true) (void a) (Pair Empty (cut b)) (Pair (cut a) Empty)
    (λ e. let live : void b ≡ false = second_live a b e h in normal_from Empty (cut b) refl
    (normal_cut b l.1 live) (mixed_cut b live))
    (λ e. normal_from (cut a) Empty (normal_cut a l.0 e) refl (cut_mixed a Empty e))

-- ---- a part in normal form is known by the ways in it
full : (p : Tree) → is_normal p ≡ true → ((way : ℕ → Bool) → covers p way ≡ true) → p ≡ Whole
full Whole n h = refl
full Empty n h = absurd (let e : false ≡ true = h (λ _. true) in cc)
full (Pair a b) n h =
    let l = pair_parts a b n in
    let x : a ≡ Whole = full a l.0 (λ way. h (stepped_way false way)) in
    let y : b ≡ Whole = full b l.1 (λ way. h (stepped_way true way)) in
    let z : are_mixed Whole Whole ≡ true = subst (λ (t : Tree). are_mixed Whole t ≡ true) y
    (subst (λ (t : Tree). are_mixed t b ≡ true) x l.2) in absurd cc

none_there : (p : Tree) → is_normal p ≡ true → ((way : ℕ → Bool) → covers p way ≡ false) → p ≡ Empty
none_there p n h = void_normal p n
    (not_false (void p) (λ live. let w = some_way p live in let e : true ≡ false = sym w.1
    ∙ h w.0 in cc))

pub same_ways : (p q : Tree) → is_normal p ≡ true → is_normal q ≡ true
    → ((way : ℕ → Bool) → covers p way ≡ covers q way) → p ≡ q
same_ways Whole q n m h = sym (full q m (λ way. sym (h way)))
same_ways Empty q n m h = sym (none_there q m (λ way. sym (h way)))
same_ways (Pair a b) Whole n m h = full (Pair a b) n h
same_ways (Pair a b) Empty n m h = none_there (Pair a b) n h
same_ways (Pair a b) (Pair c d) n m h =
    let l = pair_parts a b n in
    let k = pair_parts c d m in
    let x : a ≡ c = same_ways a c l.0 k.0 (λ way. h (stepped_way false way)) in
    let y : b ≡ d = same_ways b d l.1 k.1 (λ way. h (stepped_way true way)) in cc

-- ---- laws
void_none : (q : Tree) (way : ℕ → Bool) → void q ≡ true → covers q way ≡ true → ⊥
void_none Whole way h k = absurd cc
void_none Empty way h k = absurd cc
void_none (Pair a b) way h k =
    let l = and_true (void a) (void b) h in
    if_apart (way 0) _ _ true true (λ c _. void_none b (further way) l.1 c)
    (λ c _. void_none a (further way) l.0 c) k (if_same (way 0) true)

void_there : (q : Tree) → not (void q) ≡ false → void q ≡ true
void_there q h = not_false (void q) (λ e. let w : not false ≡ false = subst (λ b. not b ≡ false) e h
    in absurd cc)

or_false : (x y : Bool) → (x || y) ≡ false → (x ≡ false) × (y ≡ false)
or_false true y h = absurd cc
or_false false y h = (refl, h)

both_false : (x y : Bool) → x ≡ false → y ≡ false → (x || y) ≡ false
both_false true y h k = absurd cc
both_false false y h k = k

pub meets_apart : (p q : Tree) → meets p q ≡ false → Apart p q
meets_apart Whole q h = λ way _ k. void_none q way (void_there q h) k
meets_apart Empty q h = apart_sym q Empty (apart_empty q)
meets_apart (Pair a b) Whole h = λ way k _. void_none (Pair a b) way (void_there (Pair a b) h) k
meets_apart (Pair a b) Empty h = apart_empty (Pair a b)
meets_apart (Pair a b) (Pair c d) h =
    let l = or_false (meets a c) (meets b d) h in
    apart_pair a b c d (meets_apart a c l.0) (meets_apart b d l.1)

pub apart_meets : (p q : Tree) → Apart p q → meets p q ≡ false
apart_meets Whole q f = ap not (not_false (void q) (beside_whole q f))
apart_meets Empty q f = refl
apart_meets (Pair a b) Whole f =
    ap not (not_false (void (Pair a b)) (beside_whole (Pair a b) (apart_sym (Pair a b) Whole f)))
apart_meets (Pair a b) Empty f = refl
apart_meets (Pair a b) (Pair c d) f =
    both_false (meets a c) (meets b d) (apart_meets a c (λ way. f (stepped_way false way)))
    (apart_meets b d (λ way. f (stepped_way true way)))

halves : (s : Bool) → true ≡ ((if s then false else true) || (if s then true else false))
halves true = refl
halves false = refl

pieces_from : (a b : Tree) (way : ℕ → Bool) (v : Bool)
    → covers a (further way) ≡ (covers (kept a) (further way) || covers (cut a) (further way))
    → covers b (further way) ≡ (covers (kept b) (further way) || covers (cut b) (further way))
    → covers (Pair a b) way
    ≡ (covers (if v then Pair a (kept b) else Pair (kept a) b) way
    || covers (if v then Pair Empty (cut b) else Pair (cut a) Empty) way)
pieces_from a b way true f g =
    if_eq (way 0) _ _ (covers (kept b) (further way) || covers (cut b) (further way))
    (covers a (further way) || false) g (sym (or_false_right (covers a (further way))))
    ∙ if_or (way 0) (covers (kept b) (further way)) (covers (cut b) (further way))
    (covers a (further way)) false
pieces_from a b way false f g =
    if_eq (way 0) _ _ (covers b (further way) || false)
    (covers (kept a) (further way) || covers (cut a) (further way))
    (sym (or_false_right (covers b (further way)))) f
    ∙ if_or (way 0) (covers b (further way)) false (covers (kept a) (further way))
    (covers (cut a) (further way))

-- a way of a part is in one of the two pieces of a cut
pub covers-pieces : (p : Tree) (way : ℕ → Bool)
    → covers p way ≡ (covers (kept p) way || covers (cut p) way)
covers-pieces Whole way = halves (way 0)
covers-pieces Empty way = refl
covers-pieces (Pair a b) way =
    pieces_from a b way (void a) (covers-pieces a (further way)) (covers-pieces b (further way))

or_comm : (x y : Bool) → (x || y) ≡ (y || x)
or_comm true y = sym (or_true_right y)
or_comm false y = sym (or_false_right y)

or_assoc : (x y z : Bool) → ((x || y) || z) ≡ (x || (y || z))
or_assoc true y z = refl
or_assoc false y z = refl

pub union_sym : (p q : Tree) → is_normal p ≡ true → is_normal q ≡ true → union p q ≡ union q p
union_sym p q n m =
    same_ways (union p q) (union q p) (normal_union p q n m) (normal_union q p m n)
    (λ way. covers-union p q way
    ∙ (or_comm (covers p way) (covers q way) ∙ sym (covers-union q p way)))

pub union_assoc : (p q r : Tree) → is_normal p ≡ true → is_normal q ≡ true → is_normal r ≡ true
    → union (union p q) r ≡ union p (union q r)
union_assoc p q r n m o =
    same_ways (union (union p q) r) (union p (union q r))
    (normal_union (union p q) r (normal_union p q n m) o)
    (normal_union p (union q r) n (normal_union q r m o))
    (λ way. covers-union (union p q) r way
    ∙ (ap (λ b. b || covers r way) (covers-union p q way)
    ∙ (or_assoc (covers p way) (covers q way) (covers r way)
    ∙ (ap (λ b. covers p way || b) (sym (covers-union q r way))
    ∙ sym (covers-union p (union q r) way)))))

pub union_pieces : (p : Tree) → is_normal p ≡ true → void p ≡ false → union (kept p) (cut p) ≡ p
union_pieces p n h =
    same_ways (union (kept p) (cut p)) p
    (normal_union (kept p) (cut p) (normal_kept p n h) (normal_cut p n h)) n
    (λ way. covers-union (kept p) (cut p) way ∙ sym (covers-pieces p way))

pub beside_the_whole : (q : Tree) → Apart Whole q → void q ≡ true
beside_the_whole q f = not_false (void q) (beside_whole q f)

or_moved : (x y z : Bool) → (x || (y || z)) ≡ ((x || z) || y)
or_moved true y z = refl
or_moved false y z = or_comm y z

-- a piece that goes from one part to another changes nothing of both together
pub union_moved : (p q : Tree) → is_normal p ≡ true → is_normal q ≡ true → void p ≡ false
    → union (kept p) (union q (cut p)) ≡ union p q
union_moved p q n m h =
    same_ways (union (kept p) (union q (cut p))) (union p q)
    (normal_union (kept p) (union q (cut p)) (normal_kept p n h)
    (normal_union q (cut p) m (normal_cut p n h)))
    (normal_union p q n m)
    (λ way. covers-union (kept p) (union q (cut p)) way
    ∙ (ap (λ b. covers (kept p) way || b) (covers-union q (cut p) way)
    ∙ (or_moved (covers (kept p) way) (covers q way) (covers (cut p) way)
    ∙ (ap (λ b. b || covers q way) (sym (covers-pieces p way)) ∙ sym (covers-union p q way)))))
