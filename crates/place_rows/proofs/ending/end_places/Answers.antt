use Rattle.std.proofs.Common.{rules, ◌≡◌, ◌∙◌, ◌+◌, ap, sym, subst, arith, ℕ, [], length, map}
use Rattle.std.specs.Prelude.{Option}
use Rattle.std.proofs.lemmas.List.{length-map}
use Rattle.mailbox.specs.Views.{SenderView}
use Rattle.turn_lock.specs.Passes.{view_of}
use Rattle.total_order.specs.Orders.{untimed}
use Rattle.locked_place.specs.Views.{label_of}
use Rattle.locked_place.specs.Times.{timed}
use Rattle.place_rows.specs.Rows.{label_at}
use Rattle.place_rows.proofs.Lists.{prefix_self, less_one}
use Rattle.place_rows.proofs.RowPasses.{as_many}
use Rattle.place_rows.proofs.PlaceEnds.{PlacesLeft, none_ended, one_ended, have_senders, times_few}
use Rattle.place_rows.proofs.PlaceEnds.{last_pass}
use Rattle.place_rows.proofs.PlaceEnds.{left_then, both_true, plain_hears}
use Rattle.place_rows.proofs.TimedLists.{place_ended}
use Rattle.place_rows.proofs.ending.end_places.Goals as goal

pub loop-lock-init : goal.loop-lock-init
loop-lock-init c =
    let count = as_many label_of (label_at c.args.outlets.now) c.args.locks.items c.args.row.items
    c.requires.row in
    record {
      locks = prefix_self c.args.locks.items;
      row = prefix_self c.args.row.items;
      as_many = sym count;
      left = none_ended c.args.outlets.now.mailboxes c.args.outlets.now.board.places
          (map view_of c.args.row.items) (length c.args.locks.items) c.args.entries.now.items
          c.args.receivers.now.items (sym count ∙ sym (length-map c.args.row.items view_of))
          c.requires.none c.requires.mailboxes;
    }

pub end_place-list-requires-clause-pass : goal.end_place-list-requires-clause-pass
end_place-list-requires-clause-pass c =
    let h = last_pass (label_at c.args.outlets.now) _ _ _ _ _ _ _ _ c.requires.row
    c.loop-lock.invariant.locks c.loop-lock.invariant.row c.in-Some.ensures.items
    c.in-Some-pop.ensures.items c.loop-lock.invariant.as_many in
    (label_at c.args.outlets.now (length c.pop.new.self.items), h.of)

pub end_place-list-requires-clause-whole : goal.end_place-list-requires-clause-whole
end_place-list-requires-clause-whole c =
    let h = last_pass (label_at c.args.outlets.now) _ _ _ _ _ _ _ _ c.requires.row
    c.loop-lock.invariant.locks c.loop-lock.invariant.row c.in-Some.ensures.items
    c.in-Some-pop.ensures.items c.loop-lock.invariant.as_many in
    c.requires.whole (length c.pop.new.self.items) (view_of c.in-Some-pop.pass) h.at

pub join_senders-requires-clause-senders : goal.join_senders-requires-clause-senders
join_senders-requires-clause-senders c =
    let h = last_pass (label_at c.args.outlets.now) _ _ _ _ _ _ _ _ c.requires.row
    c.loop-lock.invariant.locks c.loop-lock.invariant.row c.in-Some.ensures.items
    c.in-Some-pop.ensures.items c.loop-lock.invariant.as_many in
    let s = left_then _ _ _ _ _ _ _ _ _ c.in-Some.ensures.items c.loop-lock.invariant.left in
    have_senders c.args.outlets.now.mailboxes c.args.outlets.now.board.places
    (length c.pop.new.self.items) c.end_place-list.result.senders
    (λ port. ap (λ (f : ℕ → Option SenderView). f port)
    (c.end_place-list.ensures.senders
    (label_at c.args.outlets.now (length c.pop.new.self.items)) h.of))
    (length c.pop.new.self.items + 1) (map untimed s.lists) c.args.receivers.now.items
    c.loop-lock.receivers.items c.requires.mailboxes
    (plain_hears c.args.outlets.now.board.places (length c.pop.new.self.items + 1) s.lists
    c.args.receivers.now.items c.loop-lock.receivers.items s.receivers)

pub join_senders-requires-clause-apart : goal.join_senders-requires-clause-apart
join_senders-requires-clause-apart c =
    let s = left_then _ _ _ _ _ _ _ _ _ c.in-Some.ensures.items c.loop-lock.invariant.left in
    times_few c.args.outlets.now.board.places (length c.pop.new.self.items + 1)
    (map untimed s.lists) c.args.receivers.now.items c.loop-lock.receivers.items
    (plain_hears c.args.outlets.now.board.places (length c.pop.new.self.items + 1) s.lists
    c.args.receivers.now.items c.loop-lock.receivers.items s.receivers) c.requires.apart

pub loop-lock-preserved : goal.loop-lock-preserved
loop-lock-preserved c =
    let inv = c.loop-lock.invariant in
    let h = last_pass (label_at c.args.outlets.now) _ _ _ _ _ _ _ _ c.requires.row
    c.loop-lock.invariant.locks c.loop-lock.invariant.row c.in-Some.ensures.items
    c.in-Some-pop.ensures.items c.loop-lock.invariant.as_many in
    let s = left_then _ _ _ _ _ _ _ _ _ c.in-Some.ensures.items c.loop-lock.invariant.left in
    let left = c.end_place-list in
    let named = label_at c.args.outlets.now (length c.pop.new.self.items) in
    let ended = place_ended c.args.outlets.now.board.places (length c.pop.new.self.items)
    left.ensures.in_time.0 (map view_of c.args.row.items) (view_of c.in-Some-pop.pass)
    left.result.entries left.result.stamps h.at left.ensures.begins left.ensures.own
    (left.ensures.here named h.of) left.ensures.legal left.ensures.in_time.1 in
    record {
      locks = less_one c.args.locks.items c.loop-lock.locks.items c.pop.new.self.items
          c.in-Some.lock inv.locks c.in-Some.ensures.items;
      row = less_one c.args.row.items c.loop-lock.row.items c.pop-in-Some.new.self.items
          c.in-Some-pop.pass inv.row c.in-Some-pop.ensures.items;
      as_many = h.many;
      left = one_ended c.args.outlets.now.mailboxes c.args.outlets.now.board.places
          (length c.pop.new.self.items) (map view_of c.args.row.items) c.loop-lock.kept _
          c.loop-lock.entries.items _ c.args.receivers.now.items c.loop-lock.receivers.items
          c.join_senders.new.receivers.items left.result.entries
          (timed left.result.entries left.result.stamps) left.result.senders s ended.same ended.is
          left.ensures.notified left.ensures.mailed
          (λ port. ap (λ (f : ℕ → Option SenderView). f port) (left.ensures.senders named h.of))
          c.requires.mailboxes c.join_senders.ensures.joined c.join_senders.ensures.heard
          (λ still.
          let both = both_true c.loop-lock.kept c.gather-room.result still in
          (both.0, c.gather-room.ensures both.1));
    }

pub returns : goal.returns
returns c =
    let none : c.loop-lock.locks.items ≡ [] = search rules in
    let s = subst (λ n. PlacesLeft c.args.outlets.now.board.places (map view_of c.args.row.items) n
    c.loop-lock.kept c.loop-lock.entries.items c.args.receivers.now.items
    c.loop-lock.receivers.items) (ap length none) c.loop-lock.invariant.left in
    let many : length s.lists ≡ length c.args.locks.items =
    omega (
      arith,
      s.count,
      length-map c.args.row.items view_of,
      as_many label_of (label_at c.args.outlets.now) c.args.locks.items c.args.row.items
          c.requires.row,
    ) in
    (s.lists, many, s.each, s.same, s.receivers, s.heard (omega (arith, many, c.requires.places.0)))
