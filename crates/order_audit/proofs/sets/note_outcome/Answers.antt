use Rattle.std.proofs.Common.{◌≡◌, ℕ, true, ap, sym, ◌∙◌}
use Rattle.std.specs.Prelude.{◌&&◌, ◌||◌}
use Rattle.order_audit.specs.Sets.{has_notice, is_notice, is_taken}
use Rattle.order_audit.proofs.Membership.{notice_in}
use Rattle.order_audit.proofs.sets.note_outcome.Goals as goal

pub returns-in_ok-insert : goal.returns-in_ok-insert
returns-in_ok-insert c =
    let x : ℕ × (ℕ × ℕ) = (c.args.queue, (c.args.card.now.number, c.args.card.now.visit)) in
    let is : is_taken c.args.outcome ≡ true = sym c.is_taken.ensures ∙ c.if-is_taken.true in
    λ queue number visit.
    notice_in c.args.notices.now c.insert.new.self x c.in_ok-insert.ensures.updates.0 queue number
    visit
    ∙ ap (λ b. (b && is_notice queue number visit x)
    || has_notice c.args.notices.now queue number visit) (sym is)
