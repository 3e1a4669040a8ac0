use Rattle.std.proofs.Common.{◌≡◌, ℕ, false, rules}
use Rattle.order_audit.specs.Sets.{has, has_notice}
use Rattle.order_audit.proofs.Gone.{begun}
use Rattle.order_audit.proofs.walk.begin.Goals as goal

pub returns : goal.returns
returns c =
    let left : (number visit : ℕ) → has c.new.result number visit ≡ false =
    (λ number visit. search rules) in
    let taken : (queue number visit : ℕ) →
    has_notice c.new-2.result queue number visit ≡ false =
    (λ queue number visit. search rules) in
    begun c.args.histories.now _ c.in_ok-rows_of.ensures c.in_ok-cursors_of.ensures left taken
    c.in_ok-asked_in.ensures
