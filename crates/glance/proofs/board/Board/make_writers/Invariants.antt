use Rattle.std.proofs.Common.{◌≡◌, ◌≤◌, vec_capacity, []}
use Rattle.glance.specs.Rule.{maker_at}
use Rattle.glance.specs.Views.{FirstWriters}
use Rattle.glance.proofs.board.Board.make_writers.Given as goal

abbrev pub invariant-loop-place : goal.invariant-loop-place
invariant-loop-place l = (l.seat.table_id ≡ l.self.table) × (l.seat.id ≡ 0)
    × (l.seat.me ≡ (maker_at l.place, [])) × FirstWriters l.self l.place l.writers.items
    × (l.self.places ≤ vec_capacity l.writers) × (l.place ≤ l.self.places)
