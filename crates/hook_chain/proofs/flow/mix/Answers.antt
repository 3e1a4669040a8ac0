use Rattle.std.proofs.Common.{◌≡◌, refl, arith}
use Rattle.hook_chain.specs.Balance.{mixed, rotated}
use Rattle.hook_chain.proofs.Rotation.{rotate_left-is}
use Rattle.hook_chain.proofs.flow.mix.Goals as goal

pub returns : goal.returns
unfolding mixed
returns c =
    let e : c.rotate_left.result ≡ rotated c.args.y c.args.by = grind (arith, rotate_left-is) in
    rw e refl
