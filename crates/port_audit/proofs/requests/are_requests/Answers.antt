use Rattle.std.proofs.Common.{ℕ, List, sym, subst}
use Rattle.std.specs.Prelude.{◌≢◌, AllPairs}
use Rattle.port_audit.specs.Dealing.{AreMet}
use Rattle.port_audit.specs.Pleading.{pleas_in_log, pleas_brought, AllGood}
use Rattle.port_audit.proofs.RequestAnswers.{requests_if, good_if, pleas_met_if}
use Rattle.port_audit.proofs.requests.are_requests.Goals as goal

pub deal_all-requires : goal.deal_all-requires
deal_all-requires c = record {
  differ = subst (AllPairs (λ p q. p ≢ q)) (sym c.ports-ports.ensures.value)
      c.ports-ports.ensures.facts.ports_differ;
}

pub returns : goal.returns
returns c notes told words =
    let script = c.args.script.now in
    let h = c.args.histories.now in
    let is = c.are_judged.ensures c.ports-ports.result.now h.logs c.in_ok-dealt.ensures in (
      λ yes errnos. requests_if script h notes told words
          (subst (λ (ps : List ℕ). AllGood ps h.logs) c.ports-ports.ensures.value (is.0 yes).0)
          errnos
          (subst (λ (ps : List ℕ). AreMet ps (pleas_in_log h.logs) pleas_brought h.entries)
          c.ports-ports.ensures.value (is.0 yes).1),
      λ holds. is.1 (
        subst (λ (ps : List ℕ). AllGood ps h.logs) (sym c.ports-ports.ensures.value)
            (good_if script h notes told words holds),
        subst (λ (ps : List ℕ). AreMet ps (pleas_in_log h.logs) pleas_brought h.entries)
            (sym c.ports-ports.ensures.value) (pleas_met_if script h notes told words holds),
      ),
    )
