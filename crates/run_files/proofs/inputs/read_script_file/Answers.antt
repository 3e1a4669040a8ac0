use Rattle.std.proofs.Common.{List, ℕ, Option, subst, sym}
use Rattle.run_files.specs.Inputs.{ScriptSays, Said}
use Rattle.run_files.proofs.ReaderAnswers.{script_taken, script_refused}
use Rattle.run_files.proofs.inputs.read_script_file.Goals as goal

pub returns-in-Ok-clause-only : goal.returns-in-Ok-clause-only
returns-in-Ok-clause-only g c = λ said t says.
    script_taken c.in_ok-bytes.bytes.items c.in-Ok.script c.in_ok-bytes.ensures.within
    (rw (sym c.deref.ensures.value) c.in-Ok.ensures.only)
    (rw (sym c.deref.ensures.value) c.in-Ok.ensures.stuck) said
    (subst (λ (file : Option (List ℕ)). Said ScriptSays file said) (c.in_ok-bytes.ensures.bytes t)
    says)

pub returns-clause-only : goal.returns-clause-only
returns-clause-only g c = λ said t says.
    rw c.of_script.ensures
    (script_refused c.in_ok-bytes.bytes.items c.in-Err.fault c.in_ok-bytes.ensures.within
    (rw (sym c.deref.ensures.value) c.in-Err.ensures.only)
    (rw (sym c.deref.ensures.value) c.in-Err.ensures.stuck) said
    (subst (λ (file : Option (List ℕ)). Said ScriptSays file said) (c.in_ok-bytes.ensures.bytes t)
    says))
