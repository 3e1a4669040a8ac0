use Rattle.host_io.proofs.Steps.{on_err, files-after_read, later-after_read, fault-after_read}
use Rattle.host_io.proofs.memory_host.MemoryHostHost.read.Goals as goal

pub returns-clause-failed : goal.returns-clause-failed
returns-clause-failed c =
    rw c.read_step.ensures.machine (on_err c.read_step.result
    (λ failed. fault-after_read c.args.self.now c.args.name.now
    (c.read_step.ensures.fails.0 failed)))

pub returns-clause-files : goal.returns-clause-files
returns-clause-files c = rw c.read_step.ensures.machine
    (files-after_read c.args.self.now c.args.name.now)

pub returns-clause-later : goal.returns-clause-later
returns-clause-later c = rw c.read_step.ensures.machine
    (later-after_read c.args.self.now c.args.name.now)
