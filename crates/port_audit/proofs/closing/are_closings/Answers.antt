use Rattle.std.proofs.Common.{◌≡◌, sym, subst, ◌∙◌, List, ℕ, filter}
use Rattle.std.proofs.lemmas.Result.{IfOk-weaker}
use Rattle.port_audit.specs.Closing.{AllShut, has_closed}
use Rattle.port_audit.proofs.ClosedPorts.{closings_if, all_shut_from}
use Rattle.port_audit.proofs.closing.are_closings.Goals as goal

pub returns : goal.returns
returns c =
    let script = c.args.script.now in
    let h = c.args.histories.now in
    let same : c.deref.result.now ≡ filter (has_closed h.logs) script.ports =
    c.deref.ensures.value ∙ c.in_ok-closed.ensures in
    IfOk-weaker c.are_shut.result _ _ (λ are is notes told. (
      λ yes. closings_if script h notes told
          (subst (λ (ps : List ℕ). AllShut ps (filter (has_closed h.logs) script.ports) h.entries)
          c.ports.ensures.value
          (subst (λ (cs : List ℕ). AllShut c.ports.result.now cs h.entries) same (is.0 yes))),
      λ holds. is.1 (subst (λ (cs : List ℕ). AllShut c.ports.result.now cs h.entries) (sym same)
          (subst (λ (ps : List ℕ). AllShut ps (filter (has_closed h.logs) script.ports) h.entries)
          (sym c.ports.ensures.value) (all_shut_from script h notes told holds))),
    )) c.are_shut.ensures
