use Rattle.port_audit.specs.Pleading.{plea}
use Rattle.port_audit.proofs.ToldRequests.{plea_met}
use Rattle.port_audit.proofs.requests.meets.Goals as goal

pub returns : goal.returns
returns c =
    plea_met c.args.side (plea c.args.call c.args.request.now c.args.errno) c.args.rows.now
    c.take-told.new.rows c.take-told.result c.is_plea.result c.take-told.ensures c.is_plea.ensures
