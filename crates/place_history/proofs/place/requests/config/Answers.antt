use Rattle.std.proofs.Common.{sym}
use Rattle.histories.specs.States.{state_of}
use Rattle.place_history.proofs.place.requests.config.Goals as goal

pub bind-requires-clause-line : goal.bind-requires-clause-line
bind-requires-clause-line c =
    let line = c.config_line.ensures
    (state_of c.args.held.now.entries.items c.args.asker.queue) c.args.ask.params c.args.ask.maxlen
    (sym c.port_of-port.ensures) in
    rw c.in-Binds.is at line
