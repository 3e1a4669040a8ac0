use Rattle.std.proofs.Common.{◌≡◌, ◌∙◌, ap, sym, List, length}
use Rattle.std.specs.List.{range_with_len}
use Rattle.histories.specs.declared.entry.Entry.{Entry}
use Rattle.place_rows.proofs.TimedLists.{timed_long}
use Rattle.place_rows.proofs.ending.end_place.Goals as goal

pub returns-clause-own : goal.returns-clause-own
returns-clause-own c =
    let e = c.end.ensures in
    let place = c.close.result in
    let many : length place.times ≡ length place.entries =
    ap length (sym e.times) ∙ e.in_time.as_many ∙ ap length e.entries in
    c.close.ensures.own
    ∙ ap (range_with_len 0) (timed_long place.entries place.times many)
    ∙ ap (λ (l : List Entry). range_with_len 0 (length l)) (sym e.entries)
