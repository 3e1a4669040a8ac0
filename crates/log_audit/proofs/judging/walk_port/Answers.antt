use Rattle.std.proofs.Common.{List, Option, subst}
use Rattle.std.specs.Prelude.{IfOk, Vec, option_map}
use Rattle.std.specs.declared.alloc.Global.{Global}
use Rattle.histories.specs.declared.log.Did.{Did}
use Rattle.log_audit.specs.Judged.{IsLogWalkedWith}
use Rattle.port_audit.specs.declared.kinds.KindAt.{KindAt}
use Rattle.log_audit.proofs.judging.walk_port.Goals as goal

pub returns-in-Some : goal.returns-in-Some
returns-in-Some c =
    λ known are.
    subst (λ (o : Option (List Did)). IfOk c.walk_log.result (λ kinds.
    IsLogWalkedWith known c.args.script.now c.args.place c.args.port o
    (option_map (λ (ks : Vec KindAt Global). ks.items) kinds))) c.in-Some.ensures
    (c.walk_log.ensures known are)
