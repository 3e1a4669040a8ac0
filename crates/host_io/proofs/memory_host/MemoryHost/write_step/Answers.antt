use Rattle.std.proofs.Common.{◌≡◌, length, take, arith, false, List, ℕ}
use Rattle.std.specs.List.{list_any}
use Rattle.std.specs.Prelude.{Bool, ◌==◌, if◌then◌else◌, ◌-◌, [], Some}
use Rattle.std.proofs.lemmas.List.{with_items_is}
use Rattle.host_io.specs.Machine.{Machine, Entry, raised, room_of, changed, stored}
use Rattle.host_io.proofs.Steps.{write-works}
use Rattle.host_io.proofs.memory_host.MemoryHost.write_step.Goals as goal

pub returns-in-Some-clause-machine : goal.returns-in-Some-clause-machine
returns-in-Some-clause-machine c =
    let host = c.self.inside in
    let m : Machine = record {
      entries = host.entries.items;
      other_read_faults = host.others.read;
      other_write_faults = host.others.write;
      calls = host.calls;
      reads = host.reads;
      writes = host.writes;
      failing = host.failing.items;
      short = host.short.items;
    } in
    let call : c.saturating_add-call.result ≡ raised host.calls = omega arith in
    let writes : c.saturating_add-self-inside.result ≡ raised host.writes = omega arith in
    let bytes : List ℕ = take c.taken_count-count.result c.args.piece.now in
    let entries : List Entry = c.store_in.new.entries in
    let some : Some c.in-Some.room ≡ room_of m c.args.name.now =
    rw c.deref.ensures.value at c.in-Some.ensures in
    let told : list_any (λ n. n == c.saturating_add-call.result) host.failing.items ≡ false = cc in
    let is_short : Bool = list_any (λ n. n == c.saturating_add-call.result) host.short.items in
    let rest : List ℕ = take (c.in-Some.room - c.args.at) c.args.piece.now in
    let prefix : bytes ≡ (if is_short then [] else rest) =
    rw c.deref-in-Some.ensures.value at c.taken_count-count.ensures.taken in
    let after : entries ≡ changed m.entries c.args.name.now
    (stored c.args.at c.args.piece.now bytes) =
    rw c.deref_mut.ensures.value at c.store_in.ensures in
    let len : length entries ≡ host.entries.len = omega arith in
    rw (← c.self.view_is, with_items_is host.entries entries len)
    (write-works m c.args.name.now c.args.at c.args.piece.now c.saturating_add-call.result
    c.saturating_add-self-inside.result c.in-Some.room bytes entries call writes some told
    prefix after)
