use Rattle.std.proofs.Common.{◌≡◌, ◌∙◌, ℕ, List, sym, ap, subst, refl, map, length, nat_eq, true}
use Rattle.std.proofs.Common.{rules}
use Rattle.std.specs.List.{list_any}
use Rattle.std.proofs.lemmas.List.{length-map}
use Rattle.mailbox.specs.Roles.{AreDistinct}
use Rattle.turn_lock.specs.Passes.{view_of}
use Rattle.locked_place.specs.declared.outlets.Outlets.{Outlets}
use Rattle.locked_place.specs.Times.{plain_view}
use Rattle.locked_place.specs.Views.{label_of}
use Rattle.packet_moves.specs.declared.setting.Setting.{Setting}
use Rattle.place_rows.specs.Lists.{Every}
use Rattle.place_rows.specs.Rows.{label_at, known_of, lock_of}
use Rattle.place_turns.specs.Timely.{feeder}
use Rattle.plane.specs.Filling.{IsReady}
use Rattle.plane.proofs.RowSplits.{as_many, zero_counted, unused_own}
use Rattle.plane.proofs.PlaneStart.{all_unheard, dealt_for, first_unused, first_whole}
use Rattle.plane.proofs.PlaneStart.{opened_so}
use Rattle.plane.proofs.TimelyStart.{first_timely, found_in}
use Rattle.plane.proofs.plane.Plane.new.Goals as goal

pub prepare_all-requires : goal.prepare_all-requires
prepare_all-requires c = record {
  unheard = all_unheard c.args.mail c.in_ok-mailboxes.field-0 _
      c.in_ok-mailboxes.ensures.dealt.opened;
}

pub fill_all-port_passes-requires-clause-ready : goal.fill_all-port_passes-requires-clause-ready
fill_all-port_passes-requires-clause-ready c =
    let outlets : Outlets =
    record { mailboxes = c.in_ok-mailboxes.field-0.mailboxes; board = c.in_ok-board.board } in (
      outlets,
      c.args.ports.now,
      c.in_ok-locks.ensures.row,
      c.in_ok-locks.ensures.many ∙ sym c.in_ok-board.ensures.places,
      dealt_for _ _ _ _ c.in_ok-mailboxes.ensures.dealt,
      subst (λ n. Every (IsReady n c.args.ports.now) c.in_ok-unfilled.unfilled.items)
          (sym c.in_ok-board.ensures.places)
          c.in_ok-unfilled.ensures.ready,
    )

pub passes_of-requires : goal.passes_of-requires
passes_of-requires c =
    let outlets : Outlets =
    record { mailboxes = c.in_ok-mailboxes.field-0.mailboxes; board = c.in_ok-board.board } in
    let row = c.fill_all-port_passes.new.row.items in
    let all =
    (c.fill_all-port_passes.ensures.rows (label_at outlets) c.in_ok-locks.ensures.row).0 in
    let unused = c.fill_all-port_passes.ensures.unused.0 in
    record {
      counted = zero_counted outlets c.args.ports.now (known_of (map view_of row)) _
          (dealt_for _ _ _ _ c.in_ok-mailboxes.ensures.dealt)
          (c.rows_know_the_same_without_times.ensures.known (label_at outlets) (map view_of row)
          all.known)
          (unused_own (known_of (map view_of row)) unused)
          (c.in_ok-sent.ensures.many ∙ sym c.in_ok-locks.ensures.many
          ∙ sym (as_many label_of (label_at outlets) _ row all) ∙ sym (length-map row view_of)
          ∙ sym (length-map (map view_of row) plain_view))
          c.in_ok-sent.ensures.zero;
    }

pub invariant_of-feeder : goal.invariant_of-feeder
invariant_of-feeder c = (
  search rules,
  first_timely c.passes_begin_and_end_timely.ensures.begins _ _ _ feeder c.passes_of.ensures.begins
      refl refl c.fill_all-port_passes.ensures.unused.0,
)

pub invariant_of-result-2 : goal.invariant_of-result-2
invariant_of-result-2 c = record {
  apart = subst AreDistinct (sym c.in_ok-order.ensures.items) c.requires.apart;
  listed = λ port some.
      subst (λ (order : List ℕ). list_any (nat_eq port) order ≡ true)
      (sym c.in_ok-order.ensures.items)
      (found_in port c.args.ports.now
      ((dealt_for _ _ _ _ c.in_ok-mailboxes.ensures.dealt port).0 some));
}

pub fill_all-port_passes-requires-clause-unused : goal.fill_all-port_passes-requires-clause-unused
fill_all-port_passes-requires-clause-unused c =
    first_unused _ (c.rows_know_the_same_without_times.ensures.first _ c.in_ok-locks.ensures.first)

pub returns : goal.returns
returns c =
    let outlets : Outlets =
    record { mailboxes = c.in_ok-mailboxes.field-0.mailboxes; board = c.in_ok-board.board } in
    let s : Setting = record { tables = c.args.tables; key = c.args.key; mail = c.args.mail } in
    let filled = c.fill_all-port_passes.ensures in
    let law = c.rows_know_the_same_without_times.ensures in
    let first = law.first _ c.in_ok-locks.ensures.first in
    let unused = filled.unused in
    let rows = filled.rows (label_at outlets) c.in_ok-locks.ensures.row in
    let known = c.passes_of.ensures.known in
    opened_so c.rows_stay_balanced.ensures.begins c.args.places c.args.ports.now s _ _
    c.fill_all-port_passes.result _ c.in_ok-mailboxes.field-0 refl c.in_ok-order.ensures.items
    c.in_ok-board.ensures.places refl c.in_ok-mailboxes.ensures.dealt
    (c.passes_of.ensures.locks ∙ rows.0.locks_are)
    (ap length known ∙ length-map _ plain_view ∙ length-map _ view_of
    ∙ sym (ap length c.passes_of.ensures.locks ∙ length-map _ lock_of))
    (rw known (law.known (label_at outlets) _ rows.0.known))
    c.new-2.ensures.items c.passes_of.ensures.none_lost (rw known unused.0) rows.1 unused.1
    filled.nothing (filled.receivers ∙ c.in_ok-unfilled.ensures.same)
    (rw known (filled.whole c.args.places
    (first_whole c.args.places _ first
    (length-map _ plain_view ∙ length-map _ view_of
    ∙ as_many label_of (label_at outlets) _ _ c.in_ok-locks.ensures.row
    ∙ c.in_ok-locks.ensures.many))))
    c.in_ok-board.ensures.pass
