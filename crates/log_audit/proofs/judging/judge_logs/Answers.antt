use Rattle.std.proofs.Common.{◌∙◌, List, Option, subst, sym, true≢false}
use Rattle.std.specs.Prelude.{Vec, option_map}
use Rattle.std.specs.declared.alloc.Global.{Global}
use Rattle.log_audit.specs.Judged.{AreDealt, AreJudgedAll}
use Rattle.log_audit.specs.declared.judging.PortKinds.{PortKinds}
use Rattle.log_audit.proofs.RequestRows.{in_rows}
use Rattle.log_audit.proofs.judging.judge_logs.Goals as goal

pub returns-then-not-are_packets : goal.returns-then-not-are_packets
returns-then-not-are_packets c =
    λ ones all. true≢false (sym (c.are_packets.ensures.1 all) ∙ c.if-not-are_packets.true)

pub returns-in_ok-kinds-in-Some : goal.returns-in_ok-kinds-in-Some
returns-in_ok-kinds-in-Some c =
    let script = c.args.script.now in
    let h = c.args.histories.now in
    let facts = c.ports-ports.ensures.facts in
    let places = c.each_port_has_its_place.ensures script facts.ports_differ in
    let ByPort : Option (Vec PortKinds Global) → Type 0 = λ o.
    AreJudgedAll script h (option_map (λ (ks : Vec PortKinds Global). ks.items) o) in
    let Dealt : List PortKinds → Type 0 = λ ks. AreDealt ks c.in_ok-kinds-in-Some.kinds in
    λ ones. in_rows script h c.in-Some.ports.items c.in_ok-kinds-in-Some.kinds places.apart
    (subst Dealt c.as_slice.ensures.value c.in_ok-kinds-in-Some.ensures)
    (subst ByPort c.in-Some.is (c.in_ok-ports.ensures ones))
