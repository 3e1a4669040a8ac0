-- A machine in memory that stands for files and their faults: what each read and write does to it.
use Rattle.std.specs.Prelude.{ℕ, ◌+◌, ◌-◌, ◌^◌, min, max, Bool, ◌&&◌, ◌||◌, not, List, [], ◌∷◌}
use Rattle.std.specs.Prelude.{◌++◌, length, take, Option, Some, None, is_some, is_none, unwrap_or}
use Rattle.std.specs.Prelude.{option_map, option_and_then, if◌then◌else◌, ◌==◌}
use Rattle.std.specs.List.{find, list_any}
use Rattle.std.specs.Str.{bytes_eq}
use Rattle.host_io.specs.Host.{written}
use Rattle.host_io.specs.declared.entry.Call.{Call}
use Rattle.host_io.specs.declared.entry.Call.TheVariants as call
use Rattle.host_io.specs.declared.entry.Held.{Held}
use Rattle.host_io.specs.declared.entry.Held.TheVariants as held

-- a name that has a file, or room for one
pub record Entry : Type 0 where
  pub name : List ℕ
  -- the bytes of its file; None: there is no such file
  pub content : Option (List ℕ)
  -- up to how many bytes writes may fill its file; None: no room was ever given
  pub room : Option ℕ
  pub read_faults : ℕ
  pub write_faults : ℕ

pub record Machine : Type 0 where
  pub entries : List Entry
  pub other_read_faults : ℕ  -- of all names with neither file nor room
  pub other_write_faults : ℕ
  pub calls : ℕ  -- how many reads and writes there were
  pub reads : ℕ  -- how many of them were reads
  pub writes : ℕ  -- and how many writes
  pub failing : List ℕ  -- the numbers of the calls that fail; the first call has number 1
  pub short : List ℕ  -- the numbers of the calls that, if they are writes, take nothing

-- no file, no room, no call so far, and none that is told to go wrong
abbrev pub new_machine : Machine
new_machine =
    record {
      entries = [];
      other_read_faults = 0;
      other_write_faults = 0;
      calls = 0;
      reads = 0;
      writes = 0;
      failing = [];
      short = [];
    }

-- a count raised by one, but not above its last value
abbrev pub raised : ℕ → ℕ
raised count = max count (min (count + 1) (2 ^ 64 - 1))

-- ---- what the machine tells

abbrev pub is_named : List ℕ → Entry → Bool
is_named name entry = bytes_eq entry.name name

abbrev pub entry_of : Machine → List ℕ → Option Entry
entry_of machine name = find (is_named name) machine.entries

-- the file of a name, and its room, among these entries
abbrev pub content_among : List Entry → List ℕ → Option (List ℕ)
content_among entries name = option_and_then (λ entry. entry.content) (find (is_named name) entries)

abbrev pub room_among : List Entry → List ℕ → Option ℕ
room_among entries name = option_and_then (λ entry. entry.room) (find (is_named name) entries)

abbrev pub content_of : Machine → List ℕ → Option (List ℕ)
content_of machine name = content_among machine.entries name

abbrev pub room_of : Machine → List ℕ → Option ℕ
room_of machine name = room_among machine.entries name

abbrev pub read_faults_of : Machine → List ℕ → ℕ
read_faults_of machine name =
    unwrap_or (option_map (λ e. e.read_faults) (entry_of machine name)) machine.other_read_faults

abbrev pub write_faults_of : Machine → List ℕ → ℕ
write_faults_of machine name =
    unwrap_or (option_map (λ e. e.write_faults) (entry_of machine name)) machine.other_write_faults

-- ---- what changes it

-- the entries with the first of this name changed
abbrev pub changed : List Entry → List ℕ → (Entry → Entry) → List Entry
changed [] name change = []
changed (entry ∷ entries) name change =
    if is_named name entry then change entry ∷ entries else entry ∷ changed entries name change

-- the entry of a name that has neither file nor room, with these counts
abbrev pub bare_entry : List ℕ → ℕ → ℕ → Entry
bare_entry name read_faults write_faults =
    record {
      name = name;
      content = None;
      room = None;
      read_faults = read_faults;
      write_faults = write_faults;
    }

-- the first entry of a name, with the counts that it shared
abbrev pub new_entry : Machine → List ℕ → Entry
new_entry machine name = bare_entry name machine.other_read_faults machine.other_write_faults

-- the entries with a name's entry changed; one that has no entry gets this new one first
abbrev pub changed_or_new : List Entry → Entry → (Entry → Entry) → List Entry
changed_or_new entries new change =
    if is_some (find (is_named new.name) entries)
    then changed entries new.name change
    else entries ++ change new ∷ []

-- the machine with a file of this name and of these bytes, in place of what it held
abbrev pub put : Machine → List ℕ → List ℕ → Machine
put machine name bytes =
    record machine {
      entries =
          changed_or_new machine.entries (new_entry machine name)
          (λ entry. record entry { content = Some bytes });
    }

-- the machine with room for so many bytes under this name
abbrev pub give_room : Machine → List ℕ → ℕ → Machine
give_room machine name bytes =
    record machine {
      entries =
          changed_or_new machine.entries (new_entry machine name)
          (λ entry. record entry { room = Some bytes });
    }

-- whether the next call is among these
abbrev pub is_next_among : Machine → List ℕ → Bool
is_next_among machine numbers = list_any (λ n. n == raised machine.calls) numbers

-- ---- a read

-- a read fails where it is told to, and where the name has no file
abbrev pub read_fails : Machine → List ℕ → Bool
read_fails machine name = is_next_among machine machine.failing || is_none (content_of machine name)

-- the entry of a name that holds this too: a file of these bytes in place of its own, or room for a
-- file
abbrev pub holding : Held → Entry → Entry
holding (held.File bytes) entry = record entry { content = Some bytes.now }
holding (held.Room bytes) entry = record entry { room = Some bytes }

-- the entry with one more failed call
abbrev pub with_fault : Call → Entry → Entry
with_fault call.Read entry = record entry { read_faults = raised entry.read_faults }
with_fault call.Write entry = record entry { write_faults = raised entry.write_faults }

-- the count that all names without an entry share is raised where the name has none
abbrev pub shared_raised : Option Entry → ℕ → ℕ
shared_raised entry count = if is_some entry then count else raised count

-- the count of failed reads that a name has, of its own or shared, is raised
abbrev pub count_read_fault : Machine → List ℕ → Machine
count_read_fault machine name =
    record machine {
      entries = changed machine.entries name (with_fault call.Read);
      other_read_faults = shared_raised (entry_of machine name) machine.other_read_faults;
    }

abbrev pub after_read : Machine → List ℕ → Machine
after_read machine name =
    let counted = record machine { calls = raised machine.calls; reads = raised machine.reads } in
    if read_fails machine name then count_read_fault counted name else counted

-- ---- a write

-- a write fails where it is told to, and where the name was never given room
abbrev pub write_fails : Machine → List ℕ → Bool
write_fails machine name = is_next_among machine machine.failing || is_none (room_of machine name)

-- what a write that doesn't fail takes: nothing where it is told so, else what fits into the room
-- from `at` on
abbrev pub taken : Machine → List ℕ → ℕ → List ℕ → List ℕ
taken machine name at piece =
    if is_next_among machine machine.short
    then []
    else take (unwrap_or (room_of machine name) 0 - at) piece

-- likewise the count of failed writes
abbrev pub count_write_fault : Machine → List ℕ → Machine
count_write_fault machine name =
    record machine {
      entries = changed machine.entries name (with_fault call.Write);
      other_write_faults = shared_raised (entry_of machine name) machine.other_write_faults;
    }

-- the entry after a write at this place took these bytes of the piece; its count rises where it
-- took none of a piece that isn't empty
abbrev pub stored : ℕ → List ℕ → List ℕ → Entry → Entry
stored at piece bytes entry =
    record entry {
      content = Some (written entry.content at bytes);
      write_faults =
          if length bytes == 0 && not (length piece == 0)
          then raised entry.write_faults
          else entry.write_faults;
    }

abbrev pub after_write : Machine → List ℕ → ℕ → List ℕ → Machine
after_write machine name at piece =
    let counted = record machine { calls = raised machine.calls; writes = raised machine.writes } in
    let store = stored at piece (taken machine name at piece) in
    if write_fails machine name
    then count_write_fault counted name
    else record counted { entries = changed machine.entries name store }
