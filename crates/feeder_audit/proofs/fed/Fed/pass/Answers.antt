use Rattle.std.proofs.Common.{◌≡◌, ◌-◌, length, take, drop, refl, ap, ◌∙◌, subst, arith}
use Rattle.std.proofs.Common.{length-drop}
use Rattle.std.proofs.lemmas.List.{take_all}
use Rattle.feeder_audit.specs.Fitting.{time_at}
use Rattle.feeder_audit.specs.Rows.{row_of, IsLeast, HasNone}
use Rattle.feeder_audit.proofs.HistoryWalk.{passed, nowhere}
use Rattle.feeder_audit.proofs.fed.Fed.pass.Goals as goal

pub returns-in-Some : goal.returns-in-Some
returns-in-Some c =
    let downs = c.args.downs.now in
    let old = c.args.self.now in
    let left : take (length downs - old.placed) (drop old.placed downs) ≡ drop old.placed downs =
    take_all (length downs - old.placed) (drop old.placed downs)
    (omega (arith, length-drop old.placed downs)) in
    passed downs old _ c.requires c.in-Some.lines
    (subst (λ ds. IsLeast (row_of old.ways) (length ds) c.in-Some.lines) left c.in-Some.ensures)
    refl
    (c.time_behind-self.ensures ∙ ap (λ ds. time_at old.time ds c.in-Some.lines) left) refl

pub returns-in-None : goal.returns-in-None
returns-in-None c =
    let downs = c.args.downs.now in
    let old = c.args.self.now in
    let left : take (length downs - old.placed) (drop old.placed downs) ≡ drop old.placed downs =
    take_all (length downs - old.placed) (drop old.placed downs)
    (omega (arith, length-drop old.placed downs)) in
    nowhere downs old _ c.requires
    (subst (λ ds. HasNone (row_of old.ways) (length ds)) left c.in-None.ensures) refl refl refl
