use Rattle.std.proofs.Common.{◌∙◌, ◌+◌, ◌∷◌, [], List, None, ap, arith, false, length, refl}
use Rattle.std.proofs.Common.{subst, sym}
use Rattle.std.proofs.lemmas.List.{length-append}
use Rattle.place_rows.specs.Lists.{Every}
use Rattle.live_work.specs.declared.feeding.Feeding.{Feeding}
use Rattle.live_work.specs.Feeding.{shares_in}
use Rattle.nfq_live.specs.Feeders.{HaveItsParts, IsHelper}
use Rattle.nfq_live.proofs.FeederParts.{helper_made, one_more_helper, split_one, still_fed}
use Rattle.nfq_live.proofs.FeederParts.{still_seen}
use Rattle.nfq_live.proofs.feeders.split_all.Goals as goal

pub loop-number-init : goal.loop-number-init
loop-number-init c =
    let front = shares_in c.args.pass.now in
    record {
      pass = c.requires.pass;
      helpers = subst (λ (l : List Feeding). Every (IsHelper c.args.plane.now front) l)
          (sym c.requires.none) tt;
      parts = subst (λ (l : List Feeding). HaveItsParts c.args.pass.now l c.args.pass.now)
          (sym c.requires.none) (λ k rows. refl);
      fed = refl;
      seen = λ k. refl;
      count = ap (λ (l : List Feeding). length l + 1) c.requires.none;
      room = refl;
    }

pub loop-number-preserved : goal.loop-number-preserved
loop-number-preserved c =
    let plane = c.args.plane.now in
    let alone = c.args.pass.now in
    let front = shares_in alone in
    let old = c.loop-number.pass in
    let new = c.split_feeder.new.pass in
    let helpers = c.loop-number.helpers.items in
    let made : Feeding = record { pass = c.in_ok-made.made; gauge = None; failed = false } in
    let split = c.in_ok-made.ensures.split in
    let is = helper_made c.rows_are_split_and_joined.ensures.split plane front old new made
    c.loop-number.invariant.seen (record { looks = tt }) c.in_ok-made.ensures.made split in
    let longer = ap (λ (l : List Feeding). length l) c.push_reserved.ensures.items in
    record {
      pass = c.split_feeder.ensures.pass;
      helpers = subst (λ (l : List Feeding). Every (IsHelper plane front) l)
          (sym c.push_reserved.ensures.items)
          (one_more_helper plane front helpers made c.loop-number.invariant.helpers is);
      parts = subst (λ (l : List Feeding). HaveItsParts new l alone)
          (sym c.push_reserved.ensures.items)
          (split_one (record {
            sides = c.parts_are_put_together_in_any_order.ensures.sides;
            order = c.parts_are_put_together_in_any_order.ensures.order;
            normal = c.a_part_is_known_by_its_ways.ensures.union;
          }) plane front alone old new made helpers c.split_feeder.ensures.pass
          c.in_ok-made.ensures.made split c.loop-number.invariant.helpers
          c.loop-number.invariant.parts);
      fed = still_fed old new made split ∙ c.loop-number.invariant.fed;
      seen = λ k. still_seen c.rows_are_split_and_joined.ensures.kept old new made split k
          ∙ c.loop-number.invariant.seen k;
      count = omega (
        arith,
        longer,
        length-append helpers (made ∷ []),
        c.loop-number.invariant.count,
      );
      room = c.push_reserved.ensures.capacity ∙ c.loop-number.invariant.room;
    }
