use Rattle.std.proofs.Common.{◌≡◌, ◌∷◌, [], Some, sym, ap, ◌∙◌, subst, rules}
use Rattle.atomic_table.specs.Table.{opening}
use Rattle.turn_lock.specs.Views.{opening_view}
use Rattle.turn_lock.specs.Rule.{Kept}
use Rattle.turn_lock.proofs.Steps.{opens}
use Rattle.turn_lock.proofs.lock.TurnLock.new.Goals as goal

pub new-requires : goal.new-requires
new-requires g c =
    let key = c.of-made.result.value in
    let e : key ≡ c.args.state = search rules in
    let all : c.push.new.self.items ≡ Some key ∷ [] = search rules in
    subst (λ xs. Kept g.S.Storied.entries g.S.Storied.label key
    (opening (0 ∷ 0 ∷ []) xs (opening_view key))) (sym all)
    (opens g.S.Storied.entries g.S.Storied.label key (ap g.S.Storied.entries e ∙ c.requires))
