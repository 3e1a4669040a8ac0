use Rattle.std.proofs.Common.{◌∙◌}
use Rattle.std.proofs.lemmas.Result.{on_ok_weaker}
use Rattle.host_io.specs.Machine.{bare_entry, holding}
use Rattle.host_io.proofs.FirstEntries.{changed_or_new-here, changed_or_new-nowhere}
use Rattle.host_io.proofs.entries.hold_in.Goals as goal

pub returns-in-Some-clause-ok : goal.returns-in-Some-clause-ok
returns-in-Some-clause-ok c =
    let new = bare_entry c.args.name.now c.args.faults.read c.args.faults.write in
    let some = rw c.deref.ensures.value at c.in-Some.ensures in
    on_ok_weaker c.hold.result
    (changed_or_new-here _ new (holding c.args.held) c.in-Some.i c.index_mut-entry.result.now
    c.hold.new.self some c.index_mut-entry.ensures.value)
    c.hold.ensures.ok

pub returns-in_ok-push-in-None-clause-ok : goal.returns-in_ok-push-in-None-clause-ok
returns-in_ok-push-in-None-clause-ok c =
    let none = rw c.deref.ensures.value at c.in-None.ensures in
    let entry = c.in_ok-entry-in-None.entry in
    c.in_ok-push-in-None.ensures.items
    ∙ changed_or_new-nowhere _ _ _ entry c.hold-in-None.new.self none
    c.in_ok-entry-in-None.ensures c.in_ok-hold-in-None.ensures.ok
