use Rattle.std.proofs.Common.{◌≡◌, Some, sym, ◌∙◌, rules}
use Rattle.std.specs.Prelude.{slice_get}
use Rattle.order_audit.specs.Walking.{first_place}
use Rattle.order_audit.proofs.Walks.{queue_gone, step_there, on_ok}
use Rattle.order_audit.proofs.order.look_at_queue.Goals as goal

pub returns-in_ok-go : goal.returns-in_ok-go
returns-in_ok-go c =
    let h = c.args.histories.now in
    let e = c.in-Some-get.entry.now in
    let place = c.in-Some.place in
    let first : first_place c.args.walk.now c.args.queue ≡ Some place = (search rules) in
    let there : slice_get h.entries place ≡ Some e = (search rules) in
    on_ok c.gone.result
    (queue_gone c.total_orders_are_orders_of_steps.ensures.persists h c.args.walk.now
    c.go.new.self c.args.queue place e c.left_at-visits.result.now c.requires.walk first there
    (sym c.can_go.ensures ∙ c.if-can_go.true)
    (c.left_at-visits.ensures h.entries e c.requires.replayed there
    (step_there h.entries place e c.requires.legal there)) c.in_ok-go.ensures)
