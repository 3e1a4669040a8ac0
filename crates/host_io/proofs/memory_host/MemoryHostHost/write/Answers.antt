use Rattle.std.proofs.Common.{◌≡◌, ℕ, false, length, sym, ap, ◌∙◌, take, Some}
use Rattle.std.specs.Prelude.{IfOk}
use Rattle.host_io.specs.Host.{written}
use Rattle.host_io.specs.Machine.{content_of, write_fails, taken}
use Rattle.host_io.proofs.Steps.{on_err, if_works, files-after_write, later-after_write}
use Rattle.host_io.proofs.Steps.{fault-after_write, content-after_write, taken-take}
use Rattle.host_io.proofs.Steps.{nothing-after_write}
use Rattle.host_io.proofs.memory_host.MemoryHostHost.write.Goals as goal
use Rattle.host_io.proofs.memory_host.MemoryHostHost.write.Goals.{After-write_step}

-- what each write that works makes true of the count that it answers
works : (c : After-write_step) (Q : ℕ → Type 0) →
    ((n : ℕ) → write_fails c.args.self.now c.args.name.now ≡ false →
    n ≡ length (taken c.args.self.now c.args.name.now c.args.at c.args.piece.now) → Q n) →
    IfOk c.write_step.result Q
works c Q = if_works c.write_step.result (write_fails c.args.self.now c.args.name.now)
    c.write_step.ensures.fails.1 c.write_step.ensures.taken

pub returns-clause-bytes : goal.returns-clause-bytes
returns-clause-bytes c =
    let m = c.args.self.now in
    let name = c.args.name.now in
    let at = c.args.at in
    let piece = c.args.piece.now in
    rw c.write_step.ensures.machine (works c _ (λ n works count.
    content-after_write m name at piece works
    ∙ ap (λ bytes. Some (written (content_of m name) at bytes))
    (sym (ap (λ k. take k piece) count ∙ taken-take m name at piece))))

pub returns-clause-failed : goal.returns-clause-failed
returns-clause-failed c =
    rw c.write_step.ensures.machine (on_err c.write_step.result
    (λ failed. fault-after_write c.args.self.now c.args.name.now c.args.at c.args.piece.now
    (c.write_step.ensures.fails.0 failed)))

pub returns-clause-nothing : goal.returns-clause-nothing
returns-clause-nothing c =
    rw c.write_step.ensures.machine (works c _ (λ n works count none some.
    nothing-after_write c.args.self.now c.args.name.now c.args.at c.args.piece.now works
    (sym count ∙ none) some))

pub returns-clause-files : goal.returns-clause-files
returns-clause-files c = rw c.write_step.ensures.machine
    (files-after_write c.args.self.now c.args.name.now c.args.at c.args.piece.now)

pub returns-clause-later : goal.returns-clause-later
returns-clause-later c = rw c.write_step.ensures.machine
    (later-after_write c.args.self.now c.args.name.now c.args.at c.args.piece.now)
