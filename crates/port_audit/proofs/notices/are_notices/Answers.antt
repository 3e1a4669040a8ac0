use Rattle.std.proofs.Common.{ℕ, List, sym, subst}
use Rattle.std.specs.Prelude.{◌≢◌, AllPairs}
use Rattle.port_audit.specs.Dealing.{AreMet}
use Rattle.port_audit.specs.Noticing.{visits_told, visits_under}
use Rattle.port_audit.proofs.Visits.{notices_if, met_if}
use Rattle.port_audit.proofs.notices.are_notices.Goals as goal

pub deal_all-requires : goal.deal_all-requires
deal_all-requires c = record {
  differ = subst (AllPairs (λ p q. p ≢ q)) (sym c.ports-ports.ensures.value)
      c.ports-ports.ensures.facts.ports_differ;
}

pub returns : goal.returns
returns c =
    let script = c.args.script.now in
    let h = c.args.histories.now in
    let is = c.are_taken.ensures (visits_told h.logs) c.in_ok-rows.ensures in
    λ notes told only. (
      λ yes. notices_if script h notes told only
          (subst (λ (ps : List ℕ). AreMet ps (visits_told h.logs) (visits_under ps) h.entries)
          c.ports-ports.ensures.value (is.0 yes)),
      λ holds. is.1 (subst (λ (ps : List ℕ). AreMet ps (visits_told h.logs) (visits_under ps)
          h.entries) (sym c.ports-ports.ensures.value) (met_if script h notes told only holds)),
    )
