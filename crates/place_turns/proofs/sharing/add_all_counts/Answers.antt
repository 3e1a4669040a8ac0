use Rattle.std.proofs.Common.{◌≡◌, ◌+◌, ◌∷◌, [], ◌∙◌, arith, ap, sym, subst, length}
use Rattle.std.specs.Prelude.{slice_get}
use Rattle.std.proofs.lemmas.List.{length-append}
use Rattle.place_rows.specs.Rows.{TurnsOne}
use Rattle.place_turns.specs.Counts.{AreSums, AreAllSums}
use Rattle.place_turns.proofs.CountSums.{begins_itself, no_longer, last_of}
use Rattle.place_turns.proofs.CountSums.{none_summed, can_there, one_summed}
use Rattle.place_turns.proofs.sharing.add_all_counts.Goals as goal

pub loop-counts-init : goal.loop-counts-init
loop-counts-init c = record {
  from = begins_itself c.args.from.items;
  sums = none_summed c.args.into.now.items c.args.from.items;
}

pub add_counts_at-requires-clause-there : goal.add_counts_at-requires-clause-there
add_counts_at-requires-clause-there c =
    omega (
      arith,
      c.len-place.ensures,
      ap length c.in-Some.ensures.items,
      length-append c.pop.new.self.items (c.in-Some.counts ∷ []),
      no_longer _ _ c.loop-counts.invariant.from,
      c.requires.both,
      c.loop-counts.invariant.sums.as_many,
    )

pub add_counts_at-requires-clause-can : goal.add_counts_at-requires-clause-can
add_counts_at-requires-clause-can c =
    let is : c.len-place.result ≡ length c.pop.new.self.items = omega (arith, c.len-place.ensures)
    in
    can_there c.len-place.result c.args.into.now.items c.args.from.items
    c.loop-counts.into.items c.in-Some.counts c.requires
    (subst (λ n. AreAllSums n c.args.into.now.items c.args.from.items c.loop-counts.into.items)
    (ap length c.in-Some.ensures.items
    ∙ length-append c.pop.new.self.items (c.in-Some.counts ∷ []) ∙ ap (λ n. n + 1) (sym is))
    c.loop-counts.invariant.sums)
    (ap (slice_get c.args.from.items) is
    ∙ (last_of c.args.from.items c.loop-counts.from.items c.pop.new.self.items
    c.in-Some.counts c.loop-counts.invariant.from c.in-Some.ensures.items).0)

pub loop-counts-preserved : goal.loop-counts-preserved
loop-counts-preserved c =
    let inv = c.loop-counts.invariant in
    let is : c.len-place.result ≡ length c.pop.new.self.items = omega (arith, c.len-place.ensures)
    in
    let last = last_of c.args.from.items c.loop-counts.from.items c.pop.new.self.items
    c.in-Some.counts inv.from c.in-Some.ensures.items in
    record {
      from = last.1;
      sums = one_summed (length c.pop.new.self.items) c.args.into.now.items c.args.from.items
          c.loop-counts.into.items c.add_counts_at.new.into.items c.in-Some.counts
          (subst (λ n. AreAllSums n c.args.into.now.items c.args.from.items
          c.loop-counts.into.items)
          (ap length c.in-Some.ensures.items
          ∙ length-append c.pop.new.self.items (c.in-Some.counts ∷ [])) inv.sums)
          last.0
          (subst (λ n. TurnsOne n c.loop-counts.into.items c.add_counts_at.new.into.items
          (λ old new. AreSums old c.in-Some.counts new)) is c.add_counts_at.ensures);
    }
