-- For proofs: requests are the same exactly if they are equal.
use Rattle.std.proofs.Common.{◌≡◌, ℕ, Option, Some, None, Bool, true, true≢false}
use Rattle.std.proofs.Common.{refl, sym, ap, subst}
use Rattle.std.specs.Prelude.{nat_eq, Decides, bytes_eq}
use Rattle.std.specs.Option.{option_eq}
use Rattle.std.specs.Cmp.{IsEquivalence, decided}
use Rattle.std.proofs.lemmas.Bool.{and_parts, and_from, eqb-true, eq-eqb}
use Rattle.std.proofs.lemmas.Slice.Eq.{bytes_eq-Decides}
use Rattle.nfqa_headers.specs.declared.params.Params.{Params}
use Rattle.nfqa_headers.specs.declared.verdict_header.Head.{Head}
use Rattle.nfqa_msgs.specs.declared.request.Request.{Request}
use Rattle.nfqa_msgs.specs.declared.request.Request.TheVariants.{Config, Verdict, Batch}
use Rattle.nfqa_msgs.specs.SameRequests.{same_head, same_params, same_request}

-- ---- what are the same are equal

module _ {T : Type 0} (E : T → T → Bool) where
  option_is : ((x y : T) → E x y ≡ true → x ≡ y) → (a b : Option T) → option_eq E a b ≡ true →
      a ≡ b
  option_is each None None h = refl
  option_is each None (Some y) h = absurd (true≢false (sym h))
  option_is each (Some x) None h = absurd (true≢false (sym h))
  option_is each (Some x) (Some y) h = ap Some (each x y h)

  option_itself : ((x : T) → E x x ≡ true) → (a : Option T) → option_eq E a a ≡ true
  option_itself each None = refl
  option_itself each (Some x) = each x

number_is : (a b : Option ℕ) → option_eq nat_eq a b ≡ true → a ≡ b
number_is = option_is nat_eq eqb-true

number_itself : (a : Option ℕ) → option_eq nat_eq a a ≡ true
number_itself = option_itself nat_eq (λ n. eq-eqb n n refl)

params_is : (p q : Params) → same_params p q ≡ true → p ≡ q
params_is p q h =
    let parts = and_parts _ _ h in
    let range : p.range ≡ q.range = eqb-true p.range q.range parts.0 in
    let mode : p.mode ≡ q.mode = eqb-true p.mode q.mode parts.1 in
    λ at. record { range = range at; mode = mode at }

params_itself : (p : Params) → same_params p p ≡ true
params_itself p = and_from _ _ (eq-eqb p.range p.range refl) (eq-eqb p.mode p.mode refl)

head_is : (p q : Head) → same_head p q ≡ true → p ≡ q
head_is p q h =
    let parts = and_parts _ _ h in
    let verdict : p.verdict ≡ q.verdict = eqb-true p.verdict q.verdict parts.0 in
    let id : p.id ≡ q.id = eqb-true p.id q.id parts.1 in
    λ at. record { verdict = verdict at; id = id at }

head_itself : (p : Head) → same_head p p ≡ true
head_itself p = and_from _ _ (eq-eqb p.verdict p.verdict refl) (eq-eqb p.id p.id refl)

request_is : (a b : Request) → same_request a b ≡ true → a ≡ b
request_is (Config queue command params maxlen flags mask)
    (Config queue2 command2 params2 maxlen2 flags2 mask2) h =
    let one = and_parts _ _ h in
    let two = and_parts _ _ one.1 in
    let three = and_parts _ _ two.1 in
    let four = and_parts _ _ three.1 in
    let five = and_parts _ _ four.1 in
    let q : queue ≡ queue2 = eqb-true queue queue2 one.0 in
    let c : command ≡ command2 = number_is command command2 two.0 in
    let p : params ≡ params2 = option_is same_params params_is params params2 three.0 in
    let m : maxlen ≡ maxlen2 = number_is maxlen maxlen2 four.0 in
    let f : flags ≡ flags2 = number_is flags flags2 five.0 in
    let k : mask ≡ mask2 = number_is mask mask2 five.1 in
    λ at. Config (q at) (c at) (p at) (m at) (f at) (k at)
request_is (Config queue command params maxlen flags mask)
    (Verdict queue2 head2 mark2 payload2 priority2) h = absurd (true≢false (sym h))
request_is (Config queue command params maxlen flags mask)
    (Batch queue2 head2 mark2 priority2) h = absurd (true≢false (sym h))
request_is (Verdict queue head mark payload priority)
    (Config queue2 command2 params2 maxlen2 flags2 mask2) h = absurd (true≢false (sym h))
request_is (Verdict queue head mark payload priority)
    (Verdict queue2 head2 mark2 payload2 priority2) h =
    let one = and_parts _ _ h in
    let two = and_parts _ _ one.1 in
    let three = and_parts _ _ two.1 in
    let four = and_parts _ _ three.1 in
    let q : queue ≡ queue2 = eqb-true queue queue2 one.0 in
    let d : head ≡ head2 = option_is same_head head_is head head2 two.0 in
    let m : mark ≡ mark2 = number_is mark mark2 three.0 in
    let p : payload ≡ payload2 = option_is bytes_eq (λ x y. (bytes_eq-Decides x y).0) payload
    payload2 four.0 in
    let r : priority ≡ priority2 = number_is priority priority2 four.1 in
    λ at. Verdict (q at) (d at) (m at) (p at) (r at)
request_is (Verdict queue head mark payload priority) (Batch queue2 head2 mark2 priority2) h =
    absurd (true≢false (sym h))
request_is (Batch queue head mark priority)
    (Config queue2 command2 params2 maxlen2 flags2 mask2) h = absurd (true≢false (sym h))
request_is (Batch queue head mark priority)
    (Verdict queue2 head2 mark2 payload2 priority2) h = absurd (true≢false (sym h))
request_is (Batch queue head mark priority) (Batch queue2 head2 mark2 priority2) h =
    let one = and_parts _ _ h in
    let two = and_parts _ _ one.1 in
    let three = and_parts _ _ two.1 in
    let q : queue ≡ queue2 = eqb-true queue queue2 one.0 in
    let d : head ≡ head2 = option_is same_head head_is head head2 two.0 in
    let m : mark ≡ mark2 = number_is mark mark2 three.0 in
    let r : priority ≡ priority2 = number_is priority priority2 three.1 in
    λ at. Batch (q at) (d at) (m at) (r at)

-- ---- each is the same as itself

request_itself : (a : Request) → same_request a a ≡ true
request_itself (Config queue command params maxlen flags mask) =
    and_from _ _ (eq-eqb queue queue refl)
    (and_from _ _ (number_itself command)
    (and_from _ _ (option_itself same_params params_itself params)
    (and_from _ _ (number_itself maxlen)
    (and_from _ _ (number_itself flags) (number_itself mask)))))
request_itself (Verdict queue head mark payload priority) =
    and_from _ _ (eq-eqb queue queue refl)
    (and_from _ _ (option_itself same_head head_itself head)
    (and_from _ _ (number_itself mark)
    (and_from _ _ (option_itself bytes_eq (λ x. (bytes_eq-Decides x x).1 refl) payload)
    (number_itself priority))))
request_itself (Batch queue head mark priority) =
    and_from _ _ (eq-eqb queue queue refl)
    (and_from _ _ (option_itself same_head head_itself head)
    (and_from _ _ (number_itself mark) (number_itself priority)))

pub same_decides : (a b : Request) → Decides (same_request a b) (a ≡ b)
same_decides a b =
    (request_is a b, λ is. subst (λ c. same_request a c ≡ true) is (request_itself a))

pub same_equiv : IsEquivalence same_request
same_equiv = decided same_request same_decides
