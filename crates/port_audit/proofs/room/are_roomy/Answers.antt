use Rattle.std.proofs.Common.{◌≡◌, sym, subst, ◌∙◌, List, ℕ, filter}
use Rattle.port_audit.specs.Hearing.{NoneLacks, hears_few}
use Rattle.port_audit.proofs.HeardNotices.{roomy_if, none_lacks_if}
use Rattle.port_audit.proofs.room.are_roomy.Goals as goal

pub returns : goal.returns
returns c =
    let script = c.args.script.now in
    let h = c.args.histories.now in
    let same : c.deref.result.now ≡ filter (hears_few script.mail h.logs) script.ports =
    c.deref.ensures.value ∙ c.in_ok-few.ensures in
    let is = c.all_had_room.ensures in λ notes told. (
      λ yes. roomy_if script h notes told
          (subst (λ (few : List ℕ). NoneLacks few h.entries) same (is.0 yes)),
      λ holds. is.1 (subst (λ (few : List ℕ). NoneLacks few h.entries) (sym same)
          (none_lacks_if script h notes told holds)),
    )
