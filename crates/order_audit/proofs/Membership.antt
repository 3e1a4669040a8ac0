-- Sets of pairs and of notices.
use Rattle.std.proofs.Common.{◌≡◌, ℕ, Bool, true, false, cond, refl, sym, ap, ◌∙◌}
use Rattle.std.specs.Prelude.{nat_eq, ◌&&◌, ◌||◌}
use Rattle.std.specs.Ordering.{nat_cmp, ordering_then, is_eq}
use Rattle.std.specs.declared.cmp.Ordering.{Ordering}
use Rattle.std.specs.declared.cmp.Ordering.TheVariants.{Less, Equal, Greater}
use Rattle.std.specs.Cmp.{unsigned_ties}
use Rattle.std.specs.BTreeMap.{is_at}
use Rattle.order_audit.specs.Sets.{PairSet, NoticeSet, pair_cmp, notice_cmp, has, has_notice}
use Rattle.order_audit.specs.Sets.{is_pair, is_notice}

-- two orders together are a tie just if both are
both : (a b : Ordering) → is_eq (ordering_then a b) ≡ is_eq a && is_eq b
both Less b = refl
both Equal b = refl
both Greater b = refl

-- two pairs tie just if they are the same
same_pair : (x : ℕ × ℕ) (a b : ℕ) → is_at (pair_cmp x) (a, b) ≡ is_pair a b x
same_pair x a b =
    both (nat_cmp x.0 a) (nat_cmp x.1 b)
    ∙ ap (λ c. c && is_eq (nat_cmp x.1 b)) (sym (unsigned_ties x.0 a))
    ∙ ap (λ c. nat_eq x.0 a && c) (sym (unsigned_ties x.1 b))

-- and so do two notices
same_notice : (x : ℕ × (ℕ × ℕ)) (queue number visit : ℕ) →
    is_at (notice_cmp x) (queue, (number, visit)) ≡ is_notice queue number visit x
same_notice x queue number visit =
    both (nat_cmp x.0 queue) (pair_cmp x.1 (number, visit))
    ∙ ap (λ c. c && is_eq (pair_cmp x.1 (number, visit))) (sym (unsigned_ties x.0 queue))
    ∙ ap (λ c. nat_eq x.0 queue && c) (same_pair x.1 number visit)

-- what is put in is in, or it was
cond_or : (b c : Bool) → cond b true c ≡ b || c
cond_or true c = refl
cond_or false c = refl

-- a pair more
pub pair_in : (old new : PairSet) (x : ℕ × ℕ) →
    ((q : ℕ × ℕ) → has new q.0 q.1 ≡ cond (is_at (pair_cmp x) q) true (has old q.0 q.1)) →
    (a b : ℕ) → has new a b ≡ is_pair a b x || has old a b
pair_in old new x put a b =
    put (a, b) ∙ ap (λ c. cond c true (has old a b)) (same_pair x a b)
    ∙ cond_or (is_pair a b x) (has old a b)

-- a notice more
pub notice_in : (old new : NoticeSet) (x : ℕ × (ℕ × ℕ)) →
    ((q : ℕ × (ℕ × ℕ)) → has_notice new q.0 q.1.0 q.1.1
    ≡ cond (is_at (notice_cmp x) q) true (has_notice old q.0 q.1.0 q.1.1)) →
    (queue number visit : ℕ) → has_notice new queue number visit
    ≡ is_notice queue number visit x || has_notice old queue number visit
notice_in old new x put queue number visit =
    put (queue, (number, visit))
    ∙ ap (λ c. cond c true (has_notice old queue number visit))
    (same_notice x queue number visit)
    ∙ cond_or (is_notice queue number visit x) (has_notice old queue number visit)

-- nothing more
pub or_none : (b : Bool) → b || false ≡ b
or_none true = refl
or_none false = refl
