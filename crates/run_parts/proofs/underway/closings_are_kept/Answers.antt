use Rattle.run_parts.proofs.Closings.{others_then, own_then, closed_then}
use Rattle.run_parts.proofs.PortBindings.{step_frees}
use Rattle.run_parts.proofs.underway.closings_are_kept.Goals as goal

pub returns-clause-others : goal.returns-clause-others
returns-clause-others c = others_then

pub returns-clause-own : goal.returns-clause-own
returns-clause-own c = own_then

pub returns-clause-closed : goal.returns-clause-closed
returns-clause-closed c = closed_then (record {
  entries = c.a_closed_port_has_no_queues.ensures.entries;
  none = c.a_closed_port_has_no_queues.ensures.none;
})

pub returns-clause-frees : goal.returns-clause-frees
returns-clause-frees c = step_frees
