use Rattle.std.proofs.Common.{subst}
use Rattle.port_audit.specs.Dealing.{AreDealt}
use Rattle.port_audit.specs.Pleading.{AllGood, AreDealtWell, pleas_in_log}
use Rattle.port_audit.proofs.requests.are_judged.Goals as goal

pub returns-in-Some : goal.returns-in-Some
returns-in-Some c ports logs well =
    let dealt : AllGood ports logs × AreDealt ports (pleas_in_log logs) c.in-Some.rows =
    subst (AreDealtWell ports logs) c.in-Some.is well in
    let asked = c.are_asked.ensures ports (pleas_in_log logs) dealt.1 in
    (λ yes. (dealt.0, asked.0 yes), λ both. asked.1 both.1)
