-- The last content of a kind is as long as the row's attributes are.
use Rattle.std.proofs.Common.{◌≡◌, ℕ, ◌+◌, ◌^◌, ◌<◌, ◌≤◌, Bool, true, false, ◌||◌, List, [], ◌∷◌}
use Rattle.std.proofs.Common.{length, drop, Option, Some, None, refl, sym, subst, arith}
use Rattle.std.specs.Prelude.{IfSome, option_map, nat_eq, if◌then◌else◌}
use Rattle.std.specs.List.{list_any}
use Rattle.std.proofs.lemmas.Bool.{ltb-false, eqb-true, eq-eqb, ne_eqb}
use Rattle.packet_entry.specs.Numbers.{longest_payload}
use Rattle.netlink_codec.specs.Messages.{pad}
use Rattle.netlink_codec.specs.Attributes.{Attribute, AttributeFront, Holds}
use Rattle.netlink_codec.specs.Numbers.{attribute_header_length}
use Rattle.nfqa_headers.specs.AttributeReading.{is_short, least_content, later, last_content}

-- a disjunction that fails, by its parts
pub neither : (a b : Bool) → (a || b) ≡ false → (a ≡ false) × (b ≡ false)
neither true b e = absurd cc
neither false b e = (refl, e)

-- what holds of a value holds of what it is seen as
pub IfSome-seen : {X : Type 0} (f : X → List ℕ) (P : List ℕ → Type 0) (o : Option X)
    (v : Option (List ℕ)) → option_map f o ≡ v → IfSome v P → IfSome o (λ x. P (f x))
IfSome-seen f P None v e h = tt
IfSome-seen f P (Some x) None e h = absurd cc
IfSome-seen f P (Some x) (Some y) e h = let same : f x ≡ y = cc in subst P (sym same) h

-- what holds of the later content and of this one holds of the one that counts
IfSome-later : (P : List ℕ → Type 0) (second first : Option (List ℕ)) → IfSome second P →
    IfSome first P → IfSome (later second first) P
IfSome-later P None first h k = k
IfSome-later P (Some x) first h k = h

-- an own content, where the kind fits
IfSome-own : (P : List ℕ → Type 0) (fits : Bool) (content : List ℕ) → (fits ≡ true → P content) →
    IfSome (if fits then Some content else None) P
IfSome-own P true content h = h refl
IfSome-own P false content h = tt

pub later-nothing : (last : Option (List ℕ)) → later last None ≡ last
later-nothing None = refl
later-nothing (Some x) = refl

later-some : (last : Option (List ℕ)) (own : List ℕ) (so_far : Option (List ℕ)) →
    later (later last (Some own)) so_far ≡ later last (Some own)
later-some None own so_far = refl
later-some (Some x) own so_far = refl

later-none : (last so_far : Option (List ℕ)) → later (later last None) so_far ≡ later last so_far
later-none None so_far = refl
later-none (Some x) so_far = refl

-- where no attribute is short, the content has what its kind needs
pub last_content-long : (number kind : ℕ) (row : List Attribute) →
    list_any (is_short number) row ≡ false →
    IfSome (last_content kind row) (λ content. least_content number kind ≤ length content)
last_content-long number kind [] e = tt
last_content-long number kind (a ∷ row) e =
    let P : List ℕ → Type 0 = λ content. least_content number kind ≤ length content in
    let parts = neither (is_short number a) (list_any (is_short number) row) e in
    let own : nat_eq a.kind kind ≡ true → P a.content =
    λ same. subst (λ (k : ℕ). least_content number k ≤ length a.content) (eqb-true a.kind kind same)
    (ltb-false (length a.content) (least_content number a.kind) parts.0) in
    IfSome-later P (last_content kind row) _ (last_content-long number kind row parts.1)
    (IfSome-own P (nat_eq a.kind kind) a.content own)

-- no content has more bytes than its length can tell
pub last_content-fits : (kind : ℕ) (row : List Attribute) (body : List ℕ) → Holds body row →
    IfSome (last_content kind row) (λ content. length content ≤ longest_payload)
last_content-fits kind [] body held = tt
last_content-fits kind (a ∷ row) body held =
    let P : List ℕ → Type 0 = λ content. length content ≤ longest_payload in
    let front : AttributeFront body a = held.0 in
    let fits : attribute_header_length + length a.content < 2 ^ 16 = front.fits_length in
    let own : length a.content ≤ longest_payload = omega arith in
    IfSome-later P (last_content kind row) _
    (last_content-fits kind row (drop (pad (attribute_header_length + length a.content)) body)
    held.1) (IfSome-own P (nat_eq a.kind kind) a.content (λ _. own))

-- one step of the walk: an attribute of the kind counts unless a later one does
pub walked-own : (kind : ℕ) (a : Attribute) (rest : List Attribute) (so_far : Option (List ℕ)) →
    a.kind ≡ kind → later (last_content kind (a ∷ rest)) so_far
    ≡ later (last_content kind rest) (Some a.content)
walked-own kind a rest so_far same =
    rw (eq-eqb a.kind kind same) (later-some (last_content kind rest) a.content so_far)

-- and an attribute of another kind changes nothing
pub walked-other : (kind : ℕ) (a : Attribute) (rest : List Attribute) (so_far : Option (List ℕ)) →
    (a.kind ≡ kind → ⊥) → later (last_content kind (a ∷ rest)) so_far
    ≡ later (last_content kind rest) so_far
walked-other kind a rest so_far other =
    rw (ne_eqb a.kind kind other) (later-none (last_content kind rest) so_far)
