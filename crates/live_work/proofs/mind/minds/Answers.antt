use Rattle.std.proofs.Common.{ℕ, List, ap, arith, length, refl, subst, sym}
use Rattle.inspector_script.specs.Scripts.{Machine}
use Rattle.live_work.specs.declared.mind.Mind.{Mind}
use Rattle.run_parts.specs.Ports.{ArePlaced, place_in}
use Rattle.live_work.proofs.FirstMinds.{AreFresh, all_fresh, as_many, fresh_push}
use Rattle.live_work.proofs.mind.minds.Goals as goal

pub returns : goal.returns
returns c = record {
  minds = λ ports numbers new.
      all_fresh c.args.script.now 0 ports c.loop-place.minds.items
      (subst (λ (l : List ℕ). ArePlaced c.args.script.now
      (λ p. place_in p c.args.script.now.ports) 0 l) (sym numbers)
      (c.each_port_has_its_place.ensures c.args.script.now
      c.ports-place-end.ensures.facts.ports_differ).placed)
      c.loop-place.invariant.fresh
      (as_many c.args.script.now ports c.loop-place.minds.items numbers
      (omega (
        arith,
        c.loop-place.invariant.long,
        c.loop-place-test.false,
        c.loop-place.auto.place-end,
        ap length c.ports-place-end.ensures.value,
      ))) new;
}

pub loop-place-preserved : goal.loop-place-preserved
loop-place-preserved c =
    let machine = ap (λ (x : Machine). x.place) c.new.ensures in
    record {
      long = omega (arith, c.in_ok-push.ensures.len, c.loop-place.invariant.long);
      fresh = subst (λ (l : List Mind). AreFresh 0 l) (sym c.in_ok-push.ensures.items)
          (fresh_push 0 c.loop-place.minds.items _ c.loop-place.invariant.fresh (record {
            place_is = omega (arith, machine, c.loop-place.invariant.long);
            counted = ap (λ (x : Machine). x.received) c.new.ensures;
            none = refl;
          }));
    }
