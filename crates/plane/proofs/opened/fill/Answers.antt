use Rattle.std.proofs.Common.{◌∙◌, sym, ap, subst, refl, map, filter, arith, List, length}
use Rattle.std.proofs.lemmas.List.{length-map}
use Rattle.mailbox.specs.Views.{ReceiverView}
use Rattle.turn_lock.specs.Passes.{view_of}
use Rattle.locked_place.specs.Views.{label_of}
use Rattle.locked_place.specs.Times.{plain_view}
use Rattle.place_rows.specs.Lists.{Every}
use Rattle.place_rows.specs.Rows.{Known, AreKnown, known_of, label_at, lock_of}
use Rattle.place_turns.specs.Timely.{port_with}
use Rattle.plane.specs.Opening.{IsUnused}
use Rattle.histories.specs.Logs.{is_received}
use Rattle.plane.specs.Passes.{did_take}
use Rattle.plane.proofs.RowSplits.{as_many, zero_counted, split_none, split_unused}
use Rattle.plane.proofs.TimelyStart.{first_timely}
use Rattle.plane.proofs.opened.fill.Goals as goal

pub split_row-requires-clause-room : goal.split_row-requires-clause-room
split_row-requires-clause-room c =
    let r = c.requires.ready in
    (r.5.empty, omega (arith, r.5.room, r.3))

pub split_row-requires-clause-passes : goal.split_row-requires-clause-passes
split_row-requires-clause-passes c =
    let r = c.requires.ready in
    (label_at r.0, r.2)

pub passes_of-requires : goal.passes_of-requires
passes_of-requires c =
    let r = c.requires.ready in
    let made = c.split_row.new.made.items in
    let all = (c.split_row.ensures.passes (label_at r.0) r.2).1 in
    record {
      counted = zero_counted r.0 r.1 (known_of (map view_of made))
          c.args.unfilled.sent.items r.4
          (c.rows_know_the_same_without_times.ensures.known (label_at r.0) (map view_of made)
          all.known)
          (split_none (known_of (map view_of c.args.row.now.items)) (known_of (map view_of made))
          (ap known_of c.split_row.ensures.made
          ∙ c.rows_know_the_same_without_times.ensures.split (map view_of c.args.row.now.items)))
          (r.5.many ∙ sym r.3
          ∙ sym (as_many label_of (label_at r.0) c.args.locks.now.items made all)
          ∙ sym (length-map made view_of) ∙ sym (length-map (map view_of made) plain_view))
          r.5.zero;
    }

pub invariant_of-result : goal.invariant_of-result
invariant_of-result c =
    let ready = c.requires.ready.5 in
    let made = map view_of c.split_row.new.made.items in (
      record {
        logged = record {
          heard = ap (filter is_received) ready.none_did
              ∙ sym (ap (λ (r : ReceiverView). map did_take r.received) ready.unheard);
        };
        closable = ready.closable;
      },
      first_timely c.passes_begin_and_end_timely.ensures.begins c.passes_of.result.clock
          c.passes_of.result.timed made
          (port_with c.args.unfilled.port c.args.unfilled.log.dids.items
          c.args.unfilled.receiver.received)
          c.passes_of.ensures.begins ready.none_did
          (ap (λ (r : ReceiverView). r.received) ready.unheard)
          (subst (Every IsUnused)
          (sym (ap known_of c.split_row.ensures.made
          ∙ c.rows_know_the_same_without_times.ensures.split (map view_of c.args.row.now.items)))
          (split_unused (known_of (map view_of c.args.row.now.items)) c.requires.unused)),
    )

pub returns-clause-rows : goal.returns-clause-rows
returns-clause-rows c = λ named are.
    let both = c.split_row.ensures.passes named are in (
      both.0,
      record {
        locks_are = c.passes_of.ensures.locks ∙ both.1.locks_are;
        as_many = ap length c.passes_of.ensures.known
            ∙ length-map (map view_of c.split_row.new.made.items) plain_view
            ∙ length-map c.split_row.new.made.items view_of
            ∙ sym (ap length c.passes_of.ensures.locks
            ∙ length-map c.split_row.new.made.items lock_of);
        known_so = subst (λ (known : List Known). AreKnown label_of named known)
            (sym c.passes_of.ensures.known)
            (c.rows_know_the_same_without_times.ensures.known named
            (map view_of c.split_row.new.made.items) both.1.known);
      },
    )

pub returns-clause-split : goal.returns-clause-split
returns-clause-split c = c.passes_of.ensures.known ∙ ap known_of c.split_row.ensures.made
    ∙ c.rows_know_the_same_without_times.ensures.split (map view_of c.args.row.now.items)

pub returns-clause-kept : goal.returns-clause-kept
returns-clause-kept c = ap known_of c.split_row.ensures.kept
    ∙ c.rows_know_the_same_without_times.ensures.kept (map view_of c.args.row.now.items)

pub returns-clause-filled : goal.returns-clause-filled
returns-clause-filled c =
    let ready = c.requires.ready.5 in
    record {
      same = refl;
      nothing = record {
        lost = c.passes_of.ensures.none_lost;
        dids = ready.none_did;
        receiver = ready.unheard;
      };
    }
