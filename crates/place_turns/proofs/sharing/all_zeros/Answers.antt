use Rattle.std.proofs.Common.{◌≡◌, refl, rules, subst, length}
use Rattle.std.proofs.lemmas.Option.{slice_get_read}
use Rattle.place_turns.specs.Counts.{HaveZeros}
use Rattle.place_turns.proofs.CountSums.{no_zeros, one_zeroed}
use Rattle.place_turns.proofs.sharing.all_zeros.Goals as goal

pub loop-place-init : goal.loop-place-init
loop-place-init c = no_zeros c.args.counts.now _ c.new-all.ensures.items

pub loop-place-preserved : goal.loop-place-preserved
loop-place-preserved c =
    one_zeroed c.loop-place.place c.args.counts.now c.loop-place.all.items _
    c.index-counts-place.result
    c.in_ok-zeros.field-0 c.loop-place.invariant
    (slice_get_read c.args.counts.now (length c.args.counts.now) c.loop-place.place
    c.index-counts-place.result refl (search rules) (search rules))
    c.in_ok-zeros.ensures c.in_ok-push.ensures.items

pub returns : goal.returns
returns c =
    let all : c.loop-place.place ≡ length c.args.counts.now = search rules in
    subst (λ n. HaveZeros n c.args.counts.now c.loop-place.all.items) all c.loop-place.invariant
