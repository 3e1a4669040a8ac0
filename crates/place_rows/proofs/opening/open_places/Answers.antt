use Rattle.std.proofs.Common.{◌≡◌, ◌++◌, ◌∷◌, [], sym, ap, ◌∙◌, subst, arith, map, length}
use Rattle.std.proofs.Common.{append_assoc}
use Rattle.std.proofs.lemmas.List.{length-append, map-append}
use Rattle.std.specs.Vec.Iter.{into_iter_items}
use Rattle.turn_lock.specs.Passes.{view_of}
use Rattle.locked_place.specs.Views.{label_of}
use Rattle.locked_place.specs.Passes.{IsPassOf}
use Rattle.place_rows.specs.Rows.{ArePasses, label_at}
use Rattle.place_rows.specs.Opening.{AreFirst, IsFirst}
use Rattle.place_rows.proofs.Lists.{every_both}
use Rattle.place_rows.proofs.FirstPasses.{one_lock_more}
use Rattle.place_rows.proofs.opening.open_places.Goals as goal

pub loop-own-preserved : goal.loop-own-preserved
loop-own-preserved c =
    let inv = c.loop-own.invariant in
    let named = label_at c.args.outlets.now in
    let locks = c.loop-own.opened.locks.items in
    let row = c.loop-own.opened.row.items in
    let made = c.in-Ok.ensures.made in
    let own = c.in-Some.own in
    let split : into_iter_items c.loop-own.own-iterator ≡ own ∷ into_iter_items c.next.new.self =
    c.in-Some.ensures.steps.0 in
    record {
      are = subst (λ ls. ArePasses label_of named ls c.open_place.new.opened.row.items) (sym made.2)
          (subst (λ rs. ArePasses label_of named (locks ++ made.0 ∷ []) rs) (sym made.3)
          (one_lock_more named locks row made.0 made.1 inv.are
          (subst (λ n. IsPassOf label_of (named n) made.0 made.1) (sym inv.number) made.4)));
      first = subst AreFirst (sym (ap (map view_of) made.3 ∙ map-append view_of row (made.1 ∷ [])))
          (every_both IsFirst (map view_of row) (view_of made.1 ∷ []) inv.first (made.5, tt));
      number = omega (arith, ap length made.2, length-append locks (made.0 ∷ []), inv.number);
      rest = (
        inv.rest.0 ++ own ∷ [],
        inv.rest.1 ∙ ap (λ l. inv.rest.0 ++ l) split
            ∙ sym (append_assoc inv.rest.0 (own ∷ []) (into_iter_items c.next.new.self)),
        omega (arith, length-append inv.rest.0 (own ∷ []), inv.rest.2),
      );
      writers = λ k most few.
          c.take-writer.ensures.others k (λ e. absurd (omega (arith, most, e)))
          ∙ inv.writers k (omega (arith, most)) few;
      room = (
        c.in-Ok.ensures.capacity.0 ∙ inv.room.0 ∙ sym c.in-Ok.ensures.capacity.1,
        omega (arith, inv.room.1, c.in-Ok.ensures.capacity.1),
      );
    }
