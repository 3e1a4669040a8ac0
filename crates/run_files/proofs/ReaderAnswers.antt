-- What a reader answered is what the text says, and nothing else is said of it.
use Rattle.std.proofs.Common.{◌≡◌, ◌≤◌, ◌<◌, ◌∙◌, ℕ, List, Option, Some, None, Result, Ok, Err}
use Rattle.std.proofs.Common.{refl, sym, ap, subst, length, arith}
use Rattle.std.specs.Prelude.{IsSomeAnd}
use Rattle.hook_chain.specs.Rules.{RuleTables}
use Rattle.hook_chain.specs.Grammar as rules
use Rattle.hook_chain.specs.RulesFile as tables
use Rattle.inspector_script.specs.Scripts.{ScriptValue}
use Rattle.inspector_script.specs.Grammar as script
use Rattle.inspector_script.specs.ScriptFile as script_file
use Rattle.text_lines.specs.declared.fault.LineFault.{LineFault}
use Rattle.text_lines.specs.declared.fault.LineFault.TheVariants as line
use Rattle.pcap_io.specs.declared.capture.Capture.{Capture}
use Rattle.pcap_io.specs.declared.fault.CaptureFault.{CaptureFault}
use Rattle.pcap_io.specs.declared.fault.CaptureFault.TheVariants as fault
use Rattle.pcap_io.specs.Text.{IsCapture}
use Rattle.pcap_io.specs.Reading.{IsFault, Gives}
use Rattle.packet_entry.specs.Numbers.{most_frames}
use Rattle.histories.specs.declared.histories.Histories.{Histories}
use Rattle.journal_reading.specs.declared.fault.JournalFault.{JournalFault}
use Rattle.journal_reading.specs.declared.fault.JournalFault.TheVariants as journal
use Rattle.journal_reading.specs.JournalFile.{Answers, IsFirstRefused, IsJournal, IsRefusedAt}
use Rattle.journals.specs.declared.version.Version.{Version}
use Rattle.run_files.specs.Numbers.{text_limit, capture_limit, journal_limit}
use Rattle.run_files.specs.declared.refusal.Limit.{Limit}
use Rattle.run_files.specs.declared.refusal.Limit.TheVariants as limit
use Rattle.run_files.specs.declared.refusal.Refusal.{Refusal}
use Rattle.run_files.specs.declared.refusal.Refusal.TheVariants as refusal
use Rattle.run_files.specs.declared.stop.Stop.{Stop}
use Rattle.run_files.specs.declared.stop.Stop.TheVariants as stop
use Rattle.run_files.specs.Inputs.{CaptureSays, HasManyFrames, JournalSaysIn, RulesSay, Said}
use Rattle.run_files.specs.Inputs.{Saying, ScriptSays}
use Rattle.run_files.specs.Statuses.{IfStopRefuses, of_rules, of_script, of_capture, of_journal}

-- ---- results that differ

abbrev IsOkay : {A B : Type 0} → Result A B → Type 0
IsOkay (Ok x) = Unit {0}
IsOkay (Err e) = ⊥

pub ok_is_no_err : {A B : Type 0} (x : A) (e : B) → Ok x ≡ Err e → ⊥
ok_is_no_err {A} {B} x e same = subst (λ (r : Result A B). IsOkay r) same tt

pub err_is_no_ok : {A B : Type 0} (e : B) (x : A) → Err e ≡ Ok x → ⊥
err_is_no_ok e x same = ok_is_no_err x e (sym same)

-- a value that is the same under one kind of error is under another
pub same_ok : {A B : Type 0} (C : Type 0) (x y : A) → ◌≡◌ {A = Result A B} (Ok x) (Ok y) →
    ◌≡◌ {A = Result A C} (Ok x) (Ok y)
same_ok C x y same = let is : x ≡ y = cc in ap Ok is

pub same_err : {A B : Type 0} (n m : B) → ◌≡◌ {A = Result A B} (Err n) (Err m) → n ≡ m
same_err n m same = cc

-- ---- files above their limit

-- of a file that wasn't read since it is too large just that is said
pub too_large : {V : Type 0} (Says : Saying V) (what : Limit) (most : ℕ) (file : Option (List ℕ))
    (s : Stop) → IfStopRefuses s (λ why. why ≡ refusal.TooLarge what) →
    IfStopRefuses s (λ why. IsSomeAnd file (λ text. most < length text)) →
    ((text : List ℕ) → most < length text → (said : Result V Refusal) → Says text said →
    said ≡ Err (refusal.TooLarge what)) →
    (said : Result V Refusal) → Said Says file said → IfStopRefuses s (λ why. said ≡ Err why)
too_large Says what most (Some text) (stop.Refused why) is large only said says =
    only text large said says ∙ ap Err (sym is)
too_large Says what most None (stop.Refused why) is large only said says = absurd large
too_large Says what most file stop.ReadFault is large only said says = tt
too_large Says what most file stop.WriteFault is large only said says = tt
too_large Says what most file stop.NoMemory is large only said says = tt

-- ---- rules

-- What holds of the value of a text within its limit, and of its refused line, holds of all that
-- the text says.
of_rules_text : (text : List ℕ) (P : Result RuleTables Refusal → Type 0) →
    length text ≤ text_limit →
    ((t : RuleTables) → rules.IsRulesFile text t → P (Ok t)) →
    ((line : ℕ) → rules.IsFirstRefused text line → P (Err (refusal.Rules line))) →
    (said : Result RuleTables Refusal) → RulesSay text said → P said
of_rules_text text P small file first (Ok t) says = file t says.1
of_rules_text text P small file first (Err (refusal.Rules n)) says = first n says.1
of_rules_text text P small file first (Err (refusal.TooLarge limit.Rules)) says =
    absurd (omega (arith, small, says))
of_rules_text text P small file first (Err (refusal.TooLarge limit.Script)) says = absurd says
of_rules_text text P small file first (Err (refusal.TooLarge limit.Capture)) says = absurd says
of_rules_text text P small file first (Err (refusal.TooLarge limit.Records)) says = absurd says
of_rules_text text P small file first (Err (refusal.TooLarge limit.Journal)) says = absurd says
of_rules_text text P small file first (Err (refusal.Script n)) says = absurd says
of_rules_text text P small file first (Err (refusal.Journal n)) says = absurd says
of_rules_text text P small file first (Err (refusal.Capture f)) says = absurd says

pub rules_taken : (text : List ℕ) (taken : RuleTables) → length text ≤ text_limit →
    ((t : RuleTables) → rules.IsRulesFile text t → tables.Answers (Ok taken) (Ok t)) →
    ((line : ℕ) → rules.IsFirstRefused text line → tables.Answers (Ok taken) (Err line)) →
    (said : Result RuleTables Refusal) → RulesSay text said → said ≡ Ok taken
rules_taken text taken small only stuck =
    of_rules_text text (λ said. said ≡ Ok taken) small (λ t is. same_ok Refusal t taken (only t is))
    (λ n is. absurd (err_is_no_ok n taken (stuck n is)))

pub rules_refused : (text : List ℕ) (why : LineFault) → length text ≤ text_limit →
    ((t : RuleTables) → rules.IsRulesFile text t → tables.Answers (Err why) (Ok t)) →
    ((line : ℕ) → rules.IsFirstRefused text line →
    tables.Answers {T = RuleTables} (Err why) (Err line)) →
    (said : Result RuleTables Refusal) → RulesSay text said →
    IfStopRefuses (of_rules why) (λ w. said ≡ Err w)
rules_refused text line.NoMemory small only stuck said says = tt
rules_refused text (line.Bad number) small only stuck said says =
    of_rules_text text (λ r. r ≡ Err (refusal.Rules number)) small
    (λ t is. absurd (ok_is_no_err t number (only t is)))
    (λ n is. ap (λ (m : ℕ). Err (refusal.Rules m))
    (same_err {A = RuleTables} n number (stuck n is))) said says

-- ---- scripts

of_script_text : (text : List ℕ) (P : Result ScriptValue Refusal → Type 0) →
    length text ≤ text_limit → ((t : ScriptValue) → script.IsScriptFile text t → P (Ok t)) →
    ((line : ℕ) → script.IsFirstRefused text line → P (Err (refusal.Script line))) →
    (said : Result ScriptValue Refusal) → ScriptSays text said → P said
of_script_text text P small file first (Ok t) says = file t says.1
of_script_text text P small file first (Err (refusal.Script n)) says = first n says.1
of_script_text text P small file first (Err (refusal.TooLarge limit.Script)) says =
    absurd (omega (arith, small, says))
of_script_text text P small file first (Err (refusal.TooLarge limit.Rules)) says = absurd says
of_script_text text P small file first (Err (refusal.TooLarge limit.Capture)) says = absurd says
of_script_text text P small file first (Err (refusal.TooLarge limit.Records)) says = absurd says
of_script_text text P small file first (Err (refusal.TooLarge limit.Journal)) says = absurd says
of_script_text text P small file first (Err (refusal.Rules n)) says = absurd says
of_script_text text P small file first (Err (refusal.Journal n)) says = absurd says
of_script_text text P small file first (Err (refusal.Capture f)) says = absurd says

pub script_taken : (text : List ℕ) (taken : ScriptValue) → length text ≤ text_limit →
    ((t : ScriptValue) → script.IsScriptFile text t → script_file.Answers (Ok taken) (Ok t)) →
    ((line : ℕ) → script.IsFirstRefused text line → script_file.Answers (Ok taken) (Err line)) →
    (said : Result ScriptValue Refusal) → ScriptSays text said → said ≡ Ok taken
script_taken text taken small only stuck =
    of_script_text text (λ said. said ≡ Ok taken) small
    (λ t is. same_ok Refusal t taken (only t is))
    (λ n is. absurd (err_is_no_ok n taken (stuck n is)))

pub script_refused : (text : List ℕ) (why : LineFault) → length text ≤ text_limit →
    ((t : ScriptValue) → script.IsScriptFile text t → script_file.Answers (Err why) (Ok t)) →
    ((line : ℕ) → script.IsFirstRefused text line → script_file.Answers (Err why) (Err line)) →
    (said : Result ScriptValue Refusal) → ScriptSays text said →
    IfStopRefuses (of_script why) (λ w. said ≡ Err w)
script_refused text line.NoMemory small only stuck said says = tt
script_refused text (line.Bad number) small only stuck said says =
    of_script_text text (λ r. r ≡ Err (refusal.Script number)) small
    (λ t is. absurd (ok_is_no_err t number (only t is)))
    (λ n is. ap (λ (m : ℕ). Err (refusal.Script m))
    (same_err {A = ScriptValue} n number (stuck n is))) said says

-- ---- captures

of_capture_text : (text : List ℕ) (P : Result Capture Refusal → Type 0) →
    length text ≤ capture_limit →
    ((c : Capture) → IsCapture text c → length c.frames ≤ most_frames → P (Ok c)) →
    ((f : CaptureFault) → IsFault text f → P (Err (refusal.Capture f))) →
    (HasManyFrames text → P (Err (refusal.TooLarge limit.Records))) →
    (said : Result Capture Refusal) → CaptureSays text said → P said
of_capture_text text P small file first many (Ok c) says = file c says.1 says.2
of_capture_text text P small file first many (Err (refusal.Capture f)) says = first f says.1
of_capture_text text P small file first many (Err (refusal.TooLarge limit.Records)) says =
    many says.1
of_capture_text text P small file first many (Err (refusal.TooLarge limit.Capture)) says =
    absurd (omega (arith, small, says))
of_capture_text text P small file first many (Err (refusal.TooLarge limit.Rules)) says = absurd says
of_capture_text text P small file first many (Err (refusal.TooLarge limit.Script)) says =
    absurd says
of_capture_text text P small file first many (Err (refusal.TooLarge limit.Journal)) says =
    absurd says
of_capture_text text P small file first many (Err (refusal.Rules n)) says = absurd says
of_capture_text text P small file first many (Err (refusal.Script n)) says = absurd says
of_capture_text text P small file first many (Err (refusal.Journal n)) says = absurd says

-- what is read of a file that is a capture
read_as : (text : List ℕ) (taken c : Capture) →
    ((d : Capture) → IsCapture text d → Gives (Ok taken) (Ok d)) → IsCapture text c → c ≡ taken
read_as text taken c only is = let same = only c is in cc

no_fault : (text : List ℕ) (taken : Capture) (f : CaptureFault) →
    ((e : CaptureFault) → IsFault text e → Gives (Ok taken) (Err e)) → IsFault text f → ⊥
no_fault text taken f exact is = err_is_no_ok f taken (exact f is)

pub capture_taken : (text : List ℕ) (taken : Capture) → length text ≤ capture_limit →
    length taken.frames ≤ most_frames →
    ((d : Capture) → IsCapture text d → Gives (Ok taken) (Ok d)) →
    ((e : CaptureFault) → IsFault text e → Gives (Ok taken) (Err e)) →
    (said : Result Capture Refusal) → CaptureSays text said → said ≡ Ok taken
capture_taken text taken small few only exact =
    of_capture_text text (λ said. said ≡ Ok taken) small
    (λ c is within. ap Ok (read_as text taken c only is))
    (λ f is. absurd (no_fault text taken f exact is))
    (λ is.
    let same = read_as text taken is.capture only is.file in
    let many = subst (λ (c : Capture). most_frames < length c.frames) same is.many in
    absurd (omega (arith, few, many)))

pub many_frames : (text : List ℕ) (taken : Capture) → length text ≤ capture_limit →
    (length taken.frames ≤ most_frames → ⊥) →
    ((d : Capture) → IsCapture text d → Gives (Ok taken) (Ok d)) →
    ((e : CaptureFault) → IsFault text e → Gives (Ok taken) (Err e)) →
    (said : Result Capture Refusal) → CaptureSays text said →
    said ≡ Err (refusal.TooLarge limit.Records)
many_frames text taken small many only exact =
    of_capture_text text (λ said. said ≡ Err (refusal.TooLarge limit.Records)) small
    (λ c is within.
    let same = read_as text taken c only is in
    absurd (many (subst (λ (d : Capture). length d.frames ≤ most_frames) same within)))
    (λ f is. absurd (no_fault text taken f exact is)) (λ is. refl)

-- a fault that was answered is the file's, and the file is no capture
fault_answered : (text : List ℕ) (why : CaptureFault) → length text ≤ capture_limit →
    ((d : Capture) → IsCapture text d → ◌≡◌ {A = Result Capture CaptureFault} (Ok d) (Err why)) →
    ((e : CaptureFault) → IsFault text e →
    ◌≡◌ {A = Result Capture CaptureFault} (Err e) (Err why)) →
    (said : Result Capture Refusal) → CaptureSays text said → said ≡ Err (refusal.Capture why)
fault_answered text why small only exact =
    of_capture_text text (λ said. said ≡ Err (refusal.Capture why)) small
    (λ c is within. absurd (ok_is_no_err c why (only c is)))
    (λ f is. ap (λ (x : CaptureFault). Err (refusal.Capture x))
    (same_err {A = Capture} f why (exact f is)))
    (λ is. absurd (ok_is_no_err is.capture why (only is.capture is.file)))

pub capture_refused : (text : List ℕ) (why : CaptureFault) → length text ≤ capture_limit →
    ((d : Capture) → IsCapture text d → Gives {A = Capture} (Err why) (Ok d)) →
    ((e : CaptureFault) → IsFault text e → Gives {A = Capture} (Err why) (Err e)) →
    (said : Result Capture Refusal) → CaptureSays text said →
    IfStopRefuses (of_capture why) (λ w. said ≡ Err w)
capture_refused text fault.NoMemory small only exact said says = tt
capture_refused text fault.Magic small only exact said says =
    fault_answered text fault.Magic small only exact said says
capture_refused text fault.Pcapng small only exact said says =
    fault_answered text fault.Pcapng small only exact said says
capture_refused text fault.Version small only exact said says =
    fault_answered text fault.Version small only exact said says
capture_refused text (fault.LinkType link) small only exact said says =
    fault_answered text (fault.LinkType link) small only exact said says
capture_refused text (fault.Cut frame at) small only exact said says =
    fault_answered text (fault.Cut frame at) small only exact said says
capture_refused text (fault.TooLong frame length) small only exact said says =
    fault_answered text (fault.TooLong frame length) small only exact said says

-- ---- journals

of_journal_text : (v : Version) (text : List ℕ) (P : Result Histories Refusal → Type 0) →
    length text ≤ journal_limit → ((h : Histories) → IsJournal v text h → P (Ok h)) →
    ((line : ℕ) → IsFirstRefused v text line → P (Err (refusal.Journal line))) →
    (said : Result Histories Refusal) → JournalSaysIn v text said → P said
of_journal_text v text P small file first (Ok h) says = file h says.1
of_journal_text v text P small file first (Err (refusal.Journal n)) says = first n says.1
of_journal_text v text P small file first (Err (refusal.TooLarge limit.Journal)) says =
    absurd (omega (arith, small, says))
of_journal_text v text P small file first (Err (refusal.TooLarge limit.Rules)) says = absurd says
of_journal_text v text P small file first (Err (refusal.TooLarge limit.Script)) says = absurd says
of_journal_text v text P small file first (Err (refusal.TooLarge limit.Capture)) says = absurd says
of_journal_text v text P small file first (Err (refusal.TooLarge limit.Records)) says = absurd says
of_journal_text v text P small file first (Err (refusal.Rules n)) says = absurd says
of_journal_text v text P small file first (Err (refusal.Script n)) says = absurd says
of_journal_text v text P small file first (Err (refusal.Capture f)) says = absurd says

pub journal_taken : (v : Version) (text : List ℕ) (taken : Histories) →
    length text ≤ journal_limit →
    ((h : Histories) → IsJournal v text h → Answers (Ok taken) h) →
    ((line : ℕ) → IsFirstRefused v text line → IsRefusedAt (Ok taken) line) →
    (said : Result Histories Refusal) → JournalSaysIn v text said → said ≡ Ok taken
journal_taken v text taken small only stuck =
    of_journal_text v text (λ said. said ≡ Ok taken) small (λ h is. ap Ok (sym (only h is)))
    (λ n is. absurd (stuck n is))

pub journal_refused : (v : Version) (text : List ℕ) (why : JournalFault) →
    length text ≤ journal_limit → ((h : Histories) → IsJournal v text h → Answers (Err why) h) →
    ((line : ℕ) → IsFirstRefused v text line → IsRefusedAt (Err why) line) →
    (said : Result Histories Refusal) → JournalSaysIn v text said →
    IfStopRefuses (of_journal why) (λ w. said ≡ Err w)
journal_refused v text journal.NoMemory small only stuck said says = tt
journal_refused v text (journal.Bad number) small only stuck said says =
    of_journal_text v text (λ r. r ≡ Err (refusal.Journal number)) small
    (λ h is. absurd (only h is))
    (λ n is. ap (λ (m : ℕ). Err (refusal.Journal m)) (sym (stuck n is))) said says
