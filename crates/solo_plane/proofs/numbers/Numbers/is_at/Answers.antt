use Rattle.std.proofs.lemmas.Bool.{eqb-true}
use Rattle.solo_plane.proofs.Places.{found_so}
use Rattle.solo_plane.proofs.numbers.Numbers.is_at.Goals as goal

pub returns-then-place-all : goal.returns-then-place-all
returns-then-place-all c is =
    found_so c.args.self.now.all.items c.args.port c.args.place c.args.self.now.apart
    (rw c.as_slice-all.ensures.value at c.if-place-all.true)
    (rw c.as_slice-all.ensures.value at (eqb-true _ _ is))
