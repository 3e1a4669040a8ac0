-- The arguments of the command line: a command, its numbers, and the names of its files.
--     play RULES SCRIPT IN OUT LEDGER JOURNAL
--     live RULES SCRIPT IN OUT LEDGER JOURNAL PLACES [FEEDERS [POOL]]
--     list RULES SCRIPT IN OUT
--     gen NUMBER COUNT RULES SCRIPT IN
--     trial NUMBER COUNT
--     migrate OLD NEW
--     audit RULES SCRIPT IN JOURNAL
use Rattle.std.specs.Prelude.{◌≡◌, ◌≤◌, ℕ, ⊤, List, [], ◌∷◌, length, map, Option, Some, None, Bool}
use Rattle.std.specs.Prelude.{true, false, not, ◌&&◌, ◌==◌, codes, if◌then◌else◌, option_map}
use Rattle.std.specs.Str.{bytes_eq}
use Rattle.std.specs.Prelude.{String}
use Rattle.std.specs.String.{string_bytes}
use Rattle.std.specs.Prelude.{drop, Result, Ok, Err}
use Rattle.std.specs.Vec.Iter.{into_iter_items}
use Rattle.std.specs.declared.vec.IntoIter.{IntoIter}
use Rattle.std.specs.declared.alloc.Global.{Global}
use Rattle.text_lines.specs.Words.{◌>>=◌}
use Rattle.packet_entry.specs.Numbers.{most_frames as most_records, most_places}
use Rattle.hook_chain.specs.Numbers.{most_feeders}
use Rattle.inspector_pool.specs.Numbers.{most_workers}
use Rattle.command_line.specs.Numerals.{count_of, feeders_of, number_of, places_of, workers_of}
use Rattle.command_line.specs.declared.arguments.Audit.{Audit}
use Rattle.command_line.specs.declared.arguments.Command.{Command}
use Rattle.command_line.specs.declared.arguments.Command.TheVariants as command
use Rattle.command_line.specs.declared.arguments.Generation.{Generation}
use Rattle.command_line.specs.declared.arguments.Inputs.{Inputs}
use Rattle.command_line.specs.declared.arguments.Listing.{Listing}
use Rattle.command_line.specs.declared.arguments.Live.{Live}
use Rattle.command_line.specs.declared.arguments.Migration.{Migration}
use Rattle.command_line.specs.declared.arguments.Play.{Play}
use Rattle.command_line.specs.declared.arguments.RunSize.{RunSize as ARunSize}
use Rattle.command_line.specs.declared.arguments.Sample.{Sample as ASample}

-- ---- commands

-- the names of the files that a run is made from
pub record InputFiles : Type 0 where
  pub rules : List ℕ
  pub script : List ℕ
  pub capture : List ℕ

-- the names of the files that a `play` command reads and writes
pub record PlayFiles : Type 0 where
  pub inputs : InputFiles
  pub output : List ℕ
  pub ledger : List ℕ
  pub journal : List ℕ

-- how many places the queues of a run with threads have, how many feeders it has, and how many
-- workers are behind each port; one is no pool
pub record RunSize : Type 0 where
  pub places : ℕ
  pub feeders : ℕ
  pub workers : ℕ

-- the names of the files that a `live` command reads and writes, and the size of its run
pub record LiveFiles : Type 0 where
  pub files : PlayFiles
  pub size : RunSize

-- the names of the files that a `list` command reads and writes
pub record ListFiles : Type 0 where
  pub inputs : InputFiles
  pub output : List ℕ

-- what generated inputs are made of: the number that seeds the generator, and how many records
pub record Sample : Type 0 where
  pub number : ℕ
  pub count : ℕ

-- what a `gen` command makes, and the names of the files that it writes
pub record GenFiles : Type 0 where
  pub sample : Sample
  pub files : InputFiles

-- the names of the files that a `migrate` command reads and writes
pub record MigrateFiles : Type 0 where
  pub source : List ℕ
  pub target : List ℕ

-- the names of the files that an `audit` command reads
pub record AuditFiles : Type 0 where
  pub inputs : InputFiles
  pub journal : List ℕ

-- a command, with the names of its files and its numbers
pub data Call : Type 0 where
  Plays : PlayFiles → Call
  Lists : ListFiles → Call
  Generates : GenFiles → Call
  Tries : Sample → Call
  Migrates : MigrateFiles → Call
  Lives : LiveFiles → Call
  Audits : AuditFiles → Call

-- what a command reads: the inputs of a run, a journal, or a journal behind the inputs of its run
pub data ReadFiles : Type 0 where
  RunInputs : InputFiles → ReadFiles
  OneJournal : List ℕ → ReadFiles
  ToldRun : AuditFiles → ReadFiles

-- the files that a command reads, if it reads any
abbrev pub inputs : Call → Option ReadFiles
inputs (Plays f) = Some (RunInputs f.inputs)
inputs (Lists f) = Some (RunInputs f.inputs)
inputs (Generates g) = None
inputs (Tries s) = None
inputs (Migrates m) = Some (OneJournal m.source)
inputs (Lives l) = Some (RunInputs l.files.inputs)
inputs (Audits a) = Some (ToldRun a)

-- the name of standard output
abbrev pub standard_output : List ℕ
standard_output = codes "-"

-- the names that a command writes, in their order
abbrev pub play_outputs : PlayFiles → List (List ℕ)
play_outputs f = f.output ∷ f.ledger ∷ f.journal ∷ []

abbrev pub list_outputs : ListFiles → List (List ℕ)
list_outputs f = f.output ∷ []

abbrev pub input_names : InputFiles → List (List ℕ)
input_names i = i.rules ∷ i.script ∷ i.capture ∷ []

abbrev pub gen_outputs : GenFiles → List (List ℕ)
gen_outputs g = input_names g.files

abbrev pub trial_outputs : List (List ℕ)
trial_outputs = standard_output ∷ []

abbrev pub migrate_outputs : MigrateFiles → List (List ℕ)
migrate_outputs m = m.target ∷ []

abbrev pub outputs : Call → List (List ℕ)
outputs (Plays f) = play_outputs f
outputs (Lists f) = list_outputs f
outputs (Generates g) = gen_outputs g
outputs (Tries s) = trial_outputs
outputs (Migrates m) = migrate_outputs m
outputs (Lives l) = play_outputs l.files
outputs (Audits a) = []

-- ---- as the code holds them

abbrev pub inputs_of : Inputs → InputFiles
inputs_of i =
    record { rules = i.rules.now; script = i.script.now; capture = i.capture.now }

abbrev pub files_of : Play → PlayFiles
files_of p =
    record {
      inputs = inputs_of p.inputs;
      output = p.output.now;
      ledger = p.ledger.now;
      journal = p.journal.now;
    }

abbrev pub size_of : ARunSize → RunSize
size_of z = record { places = z.places; feeders = z.feeders; workers = z.workers }

abbrev pub live_files_of : Live → LiveFiles
live_files_of l = record { files = files_of l.files; size = size_of l.size }

abbrev pub list_files_of : Listing → ListFiles
list_files_of l = record { inputs = inputs_of l.inputs; output = l.output.now }

abbrev pub sample_of : ASample → Sample
sample_of s = record { number = s.number; count = s.count }

abbrev pub gen_files_of : Generation → GenFiles
gen_files_of g = record { sample = sample_of g.sample; files = inputs_of g.files }

abbrev pub migrate_files_of : Migration → MigrateFiles
migrate_files_of m = record { source = m.source.now; target = m.target.now }

abbrev pub audit_files_of : Audit → AuditFiles
audit_files_of a = record { inputs = inputs_of a.inputs; journal = a.journal.now }

abbrev pub call_of : Command → Call
call_of (command.Play files) = Plays (files_of files)
call_of (command.List files) = Lists (list_files_of files)
call_of (command.Gen files) = Generates (gen_files_of files)
call_of (command.Trial sample) = Tries (sample_of sample)
call_of (command.Migrate files) = Migrates (migrate_files_of files)
call_of (command.Audit files) = Audits (audit_files_of files)

-- ---- words

-- a word names a file where it isn't empty and isn't that of standard output
abbrev pub is_file : List ℕ → Bool
is_file word = not (length word == 0) && not (bytes_eq word standard_output)

abbrev pub are_inputs : InputFiles → Bool
are_inputs i = is_file i.rules && is_file i.script && is_file i.capture

abbrev pub are_files : PlayFiles → Bool
are_files f = are_inputs f.inputs && is_file f.output && is_file f.ledger && is_file f.journal

abbrev pub are_list_files : ListFiles → Bool
are_list_files f = are_inputs f.inputs && is_file f.output

abbrev pub are_audit_files : AuditFiles → Bool
are_audit_files f = are_inputs f.inputs && is_file f.journal

-- three names, none of which is another
abbrev pub are_apart : List ℕ → List ℕ → List ℕ → Bool
are_apart a b c = not (bytes_eq a b) && not (bytes_eq a c) && not (bytes_eq b c)

-- the written files have names of their own; a file that is read may be named again
abbrev pub are_outputs_apart : PlayFiles → Bool
are_outputs_apart f = are_apart f.output f.ledger f.journal

abbrev pub are_inputs_apart : InputFiles → Bool
are_inputs_apart i = are_apart i.rules i.script i.capture

-- there are records, and no more than may be
abbrev pub IsSample : Sample → Type 0
IsSample s = (1 ≤ s.count) × (s.count ≤ most_records)

abbrev pub IsGenAllowed : GenFiles → Type 0
IsGenAllowed g = IsSample g.sample × (are_inputs_apart g.files ≡ true)

-- there is one at least of each, and no more than may be
pub record IsSizeAllowed (z : RunSize) : Type 0 where
  pub some_places : 1 ≤ z.places
  pub few_places : z.places ≤ most_places
  pub some_feeders : 1 ≤ z.feeders
  pub few_feeders : z.feeders ≤ most_feeders
  pub some_workers : 1 ≤ z.workers
  pub few_workers : z.workers ≤ most_workers

abbrev pub IsLiveAllowed : LiveFiles → Type 0
IsLiveAllowed l = (are_outputs_apart l.files ≡ true) × IsSizeAllowed l.size

-- what is known of the names and numbers of a command
abbrev pub IsAllowed : Call → Type 0
IsAllowed (Plays f) = are_outputs_apart f ≡ true
IsAllowed (Lists f) = ⊤
IsAllowed (Generates g) = IsGenAllowed g
IsAllowed (Tries s) = IsSample s
IsAllowed (Migrates m) = ⊤
IsAllowed (Lives l) = IsLiveAllowed l
IsAllowed (Audits a) = ⊤

-- the inputs that these three words name
abbrev pub inputs_at : List ℕ → List ℕ → List ℕ → InputFiles
inputs_at rules script capture = record { rules = rules; script = script; capture = capture }

-- the files of a run that these six words name, where each of them may
abbrev pub run_files_of : List ℕ → List ℕ → List ℕ → List ℕ → List ℕ → List ℕ → Option PlayFiles
run_files_of rules script capture output ledger journal =
    let f : PlayFiles =
    record {
      inputs = inputs_at rules script capture;
      output = output;
      ledger = ledger;
      journal = journal;
    } in
    if are_files f && are_outputs_apart f then Some f else None

-- the files of a `play` command, where the arguments are one
abbrev pub play_of : List (List ℕ) → Option PlayFiles
play_of (verb ∷ rules ∷ script ∷ capture ∷ output ∷ ledger ∷ journal ∷ []) =
    if bytes_eq verb (codes "play")
    then run_files_of rules script capture output ledger journal else None
play_of words = None

-- the size of a run that three words give
abbrev pub size_of_words : List ℕ → List ℕ → List ℕ → Option RunSize
size_of_words places feeders workers = do
  p ← places_of places
  f ← feeders_of feeders
  w ← workers_of workers
  Some (record { places = p; feeders = f; workers = w })

-- the same of the words behind the files: that of the workers may be absent, and before it that of
-- the feeders, and an absent one is as `1`
abbrev pub size_in : List (List ℕ) → Option RunSize
size_in (places ∷ []) = size_of_words places (codes "1") (codes "1")
size_in (places ∷ feeders ∷ []) = size_of_words places feeders (codes "1")
size_in (places ∷ feeders ∷ workers ∷ []) = size_of_words places feeders workers
size_in words = None

-- the files of a run, if they are some, with the size that words give
abbrev pub sized : Option PlayFiles → List (List ℕ) → Option LiveFiles
sized files words = do
  f ← files
  z ← size_in words
  Some (record { files = f; size = z })

-- the files of a run and its size, where these words are that
abbrev pub live_files_in : List (List ℕ) → Option LiveFiles
live_files_in (rules ∷ script ∷ capture ∷ output ∷ ledger ∷ journal ∷ numbers) =
    sized (run_files_of rules script capture output ledger journal) numbers
live_files_in words = None

-- the files and the size of a `live` command, where the arguments are one
abbrev pub live_of : List (List ℕ) → Option LiveFiles
live_of [] = None
live_of (verb ∷ words) =
    if bytes_eq verb (codes "live") then live_files_in words else None

-- the files of a `list` command
abbrev pub list_of : List (List ℕ) → Option ListFiles
list_of (verb ∷ rules ∷ script ∷ capture ∷ output ∷ []) =
    let f : ListFiles =
    record { inputs = inputs_at rules script capture; output = output } in
    if bytes_eq verb (codes "list") && are_list_files f then Some f else None
list_of words = None

-- the numbers that two words give
abbrev pub sample_of_words : List ℕ → List ℕ → Option Sample
sample_of_words number count = do
  n ← number_of number
  k ← count_of count
  Some (record { number = n; count = k })

-- the numbers and files of a `gen` command
abbrev pub gen_of : List (List ℕ) → Option GenFiles
gen_of (verb ∷ number ∷ count ∷ rules ∷ script ∷ capture ∷ []) =
    let f : InputFiles = inputs_at rules script capture in
    if bytes_eq verb (codes "gen") && are_inputs f && are_inputs_apart f
    then option_map (λ (s : Sample). record { sample = s; files = f })
    (sample_of_words number count) else None
gen_of words = None

-- the numbers of a `trial` command
abbrev pub trial_of : List (List ℕ) → Option Sample
trial_of (verb ∷ number ∷ count ∷ []) =
    if bytes_eq verb (codes "trial") then sample_of_words number count else None
trial_of words = None

-- the files of a `migrate` command; the two may be one
abbrev pub migrate_of : List (List ℕ) → Option MigrateFiles
migrate_of (verb ∷ source ∷ target ∷ []) =
    if bytes_eq verb (codes "migrate") && is_file source && is_file target
    then Some (record { source = source; target = target }) else None
migrate_of words = None

-- the files of an `audit` command, which writes none
abbrev pub audit_of : List (List ℕ) → Option AuditFiles
audit_of (verb ∷ rules ∷ script ∷ capture ∷ journal ∷ []) =
    let f : AuditFiles =
    record { inputs = inputs_at rules script capture; journal = journal } in
    if bytes_eq verb (codes "audit") && are_audit_files f then Some f else None
audit_of words = None

-- the first that is there
abbrev pub either : {A : Type 0} → Option A → Option A → Option A
either (Some x) other = Some x
either None other = other

-- the command that the arguments are, if any
abbrev pub call : List (List ℕ) → Option Call
call words =
    either (option_map Plays (play_of words)) (either (option_map Lists (list_of words))
    (either (option_map Generates (gen_of words)) (either (option_map Tries (trial_of words))
    (either (option_map Migrates (migrate_of words)) (option_map Audits (audit_of words))))))

-- the same, of arguments as the program is given them, without its name
abbrev pub call_of_words : List (String Global) → Option Call
call_of_words words = call (map string_bytes words)

-- the `live` command that the arguments are, if any
abbrev pub live_call : List (List ℕ) → Option Call
live_call words = option_map Lives (live_of words)

abbrev pub live_call_of_words : List (String Global) → Option Call
live_call_of_words words = live_call (map string_bytes words)

-- the first word is `live`
abbrev pub is_live : List (List ℕ) → Bool
is_live [] = false
is_live (verb ∷ words) = bytes_eq verb (codes "live")

-- the command that the program's arguments are, without its name
abbrev pub program_call : List (String Global) → Option Call
program_call words =
    if is_live (map string_bytes words) then live_call_of_words words else call_of_words words

-- the same, of all arguments, the program's name first; where they can't be had they are no
-- command
abbrev pub call_of_arguments : {E : Type 0} → Result (IntoIter (String Global) Global) E →
    Option Call
call_of_arguments (Ok arguments) = program_call (drop 1 (into_iter_items arguments))
call_of_arguments (Err e) = None
