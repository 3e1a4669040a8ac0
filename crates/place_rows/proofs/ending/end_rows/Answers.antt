use Rattle.std.proofs.Common.{rules, ◌≡◌, ◌∙◌, ◌∷◌, subst, arith, List, length, map, true}
use Rattle.std.proofs.lemmas.List.{length-map}
use Rattle.turn_lock.specs.Passes.{view_of}
use Rattle.histories.specs.declared.entry.Entry.{Entry}
use Rattle.histories.specs.Grouping.{IsGrouped}
use Rattle.total_order.specs.Orders.{untimed}
use Rattle.locked_place.specs.Views.{label_of}
use Rattle.locked_place.specs.Times.{plain_view}
use Rattle.place_rows.specs.Rows.{label_at, known_of}
use Rattle.place_rows.specs.Ended.{AreAllEntries}
use Rattle.place_rows.specs.Timed.{AreTimedEntries}
use Rattle.place_rows.proofs.RowPasses.{as_many}
use Rattle.place_rows.proofs.Results.{ok_then}
use Rattle.place_rows.proofs.PlaceEnds.{plain_lists, plain_hears}
use Rattle.place_rows.proofs.FinalLists.{Laws, all_left}
use Rattle.place_rows.proofs.TimedEntries.{timed_left}
use Rattle.place_rows.proofs.ending.end_rows.Goals as goal

laws : goal.After-drop-receivers-2 → Laws
laws c = record {
  nothing = c.soundness_is_kept_move_by_move.ensures.nothing;
  of_each_queue = c.soundness_is_of_each_queue.ensures;
}

pub returns-clause-entries : goal.returns-clause-entries
returns-clause-entries c = λ s first others balanced joined.
    let places = c.args.outlets.now.board.places in
    let e = c.end_places.ensures in
    let kept : c.end_places.result ≡ true = search rules in
    let many = c.requires.places in
    let us = map view_of c.args.row.items in
    let us_long : length (known_of us) ≡ places =
    length-map us plain_view ∙ length-map c.args.row.items view_of
    ∙ as_many label_of (label_at c.args.outlets.now) c.args.locks.items c.args.row.items
    c.requires.row ∙ many.1 in
    ok_then c.grouped.result (IsGrouped c.from_vec.result)
    (AreAllEntries s places (first ∷ others) c.args.receivers.items) c.grouped.ensures
    (λ es grouped.
    all_left (laws c) s places first others (known_of us) (map untimed e.0) es
    c.end_places.new.entries.items balanced joined us_long
    (length-map e.0 untimed ∙ e.1 ∙ many.1) (plain_lists places us 0 e.0 e.2) (e.3 kept)
    (subst (λ (l : List Entry). IsGrouped l es) c.from_vec.ensures grouped)
    c.args.receivers.items c.end_places.new.receivers.items (omega (arith, many))
    (plain_hears places 0 e.0 c.args.receivers.items c.end_places.new.receivers.items e.4) e.5)

pub returns-clause-timed : goal.returns-clause-timed
returns-clause-timed c = λ first others joined.
    let places = c.args.outlets.now.board.places in
    let e = c.end_places.ensures in
    let kept : c.end_places.result ≡ true = search rules in
    let many = c.requires.places in
    ok_then c.grouped.result (IsGrouped c.from_vec.result)
    (AreTimedEntries places (first ∷ others) c.args.receivers.items) c.grouped.ensures
    (λ es grouped.
    timed_left places first others (map view_of c.args.row.items) e.0 es
    c.end_places.new.entries.items c.args.receivers.items c.end_places.new.receivers.items
    (omega (arith, many)) joined (e.1 ∙ many.1) e.2 (e.3 kept)
    (subst (λ (l : List Entry). IsGrouped l es) c.from_vec.ensures grouped) e.4 e.5)
