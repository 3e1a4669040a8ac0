use Rattle.std.proofs.Common.{◌≡◌, ◌∙◌, ◌++◌, [], List, ap, append-nil, arith, length}
use Rattle.std.proofs.Common.{refl, rules, subst, sym, true}
use Rattle.std.specs.Prelude.{◌&&◌, All, false, not}
use Rattle.std.specs.Vec.Iter.{into_iter_items, into_iter_len}
use Rattle.place_rows.specs.Lists.{Every}
use Rattle.plane.specs.Passes.{IsFeederOf}
use Rattle.live_work.specs.declared.feeding.Feeding.{Feeding}
use Rattle.live_work.specs.Feeding.{shares_in}
use Rattle.nfq_live.specs.Feeders.{AllJoin, HaveItsParts, fed_by}
use Rattle.nfq_live.proofs.FeederParts.{IsJoining, joining_first, joining_next, nothing_left}
use Rattle.nfq_live.proofs.feeders.join_all.Goals as goal
use Rattle.nfq_live.proofs.feeders.join_all.Goals.{After-join_feeder, In-None}

pub join_feeder-requires-clause-from : goal.join_feeder-requires-clause-from
join_feeder-requires-clause-from c =
    (subst (λ (l : List Feeding). Every (λ (h : Feeding). IsFeederOf c.args.plane.now h.pass) l)
    c.in-Some.ensures.steps.0 c.loop-helper.invariant.joining.others).0

pub loop-helper-init : goal.loop-helper-init
loop-helper-init c =
    let begun = c.args.pass.now in
    let all = c.args.helpers.items in
    let same : all ≡ into_iter_items c.into_iter-helper-iterator.result = search rules in
    record {
      long = search rules;
      joining = subst (λ (l : List Feeding). IsJoining c.args.plane.now begun all begun l true)
          same (joining_first c.args.plane.now begun all c.requires.pass c.requires.helpers);
    }

-- one more was joined
on : (c : After-join_feeder) →
    IsJoining c.args.plane.now c.args.pass.now c.args.helpers.items c.join_feeder.new.into
    (into_iter_items c.next.new.self) (c.loop-helper.well && not c.in-Some.helper.failed)
on c =
    joining_next c.rows_are_split_and_joined.ensures.joined c.args.plane.now c.args.pass.now
    c.args.helpers.items (into_iter_items c.loop-helper.helper-iterator)
    (into_iter_items c.next.new.self) c.loop-helper.pass c.join_feeder.new.into c.in-Some.helper
    c.loop-helper.well c.in-Some.ensures.steps.0 c.join_feeder.ensures.into
    c.join_feeder.ensures.joined c.loop-helper.invariant.joining

shorter : (c : After-join_feeder) →
    into_iter_len c.next.new.self ≡ length (into_iter_items c.next.new.self)
shorter c =
    let less = ap (λ (l : List Feeding). length l) c.in-Some.ensures.steps.0 in
    omega (arith, less, c.in-Some.ensures.steps.1, c.loop-helper.invariant.long)

pub loop-helper-preserved : goal.loop-helper-preserved
loop-helper-preserved c =
    let at = (goal.at.loop-helper-preserved c).After-join_feeder in
    record { long = shorter at; joining = on at }

pub loop-helper-preserved-in-Some : goal.loop-helper-preserved-in-Some
loop-helper-preserved-in-Some c =
    let at = (goal.at.loop-helper-preserved-in-Some c).After-join_feeder in
    record { long = shorter at; joining = on at }

-- none is left
left : (c : In-None) → into_iter_items c.loop-helper.helper-iterator ≡ []
left c =
    nothing_left (into_iter_items c.loop-helper.helper-iterator)
    (sym c.loop-helper.invariant.long ∙ c.in-None.ensures.steps.0)

pub returns-clause-pass : goal.returns-clause-pass
returns-clause-pass c = c.loop-helper.invariant.joining.of

pub returns-clause-went_well : goal.returns-clause-went_well
returns-clause-went_well c = λ went.
    c.loop-helper.invariant.joining.none_failed went
    (subst (λ (l : List Feeding). All (λ (h : Feeding). h.failed ≡ false) l)
    (sym (left (goal.at.returns-clause-went_well c).In-None))
    (λ k d less. absurd (omega (arith, less))))

pub returns-clause-parts : goal.returns-clause-parts
returns-clause-parts c =
    c.loop-helper.invariant.joining.parts c.loop-helper.pass
    (subst (λ (l : List Feeding). HaveItsParts c.loop-helper.pass l c.loop-helper.pass)
    (sym (left (goal.at.returns-clause-parts c).In-None)) (λ k rows. refl))

pub returns-clause-fed : goal.returns-clause-fed
returns-clause-fed c =
    c.loop-helper.invariant.joining.fed c.loop-helper.pass.fed
    (subst (λ (l : List Feeding). c.loop-helper.pass.fed ≡ c.loop-helper.pass.fed ++ fed_by l)
    (sym (left (goal.at.returns-clause-fed c).In-None)) (sym (append-nil c.loop-helper.pass.fed)))

pub returns-clause-joined : goal.returns-clause-joined
returns-clause-joined c =
    c.loop-helper.invariant.joining.joined (shares_in c.loop-helper.pass)
    (subst (λ (l : List Feeding). AllJoin (shares_in c.loop-helper.pass) l
    (shares_in c.loop-helper.pass)) (sym (left (goal.at.returns-clause-joined c).In-None))
    (λ k. refl))
