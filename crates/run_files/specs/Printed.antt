-- The lines that a command prints.
use Rattle.std.specs.Prelude.{ℕ, List, ◌++◌, codes, decimal}
use Rattle.pcap_io.specs.declared.fault.CaptureFault.{CaptureFault}
use Rattle.pcap_io.specs.declared.fault.CaptureFault.TheVariants as capture
use Rattle.run_files.specs.declared.refusal.Limit.{Limit}
use Rattle.run_files.specs.declared.refusal.Limit.TheVariants as limit
use Rattle.run_files.specs.declared.refusal.Refusal.{Refusal}
use Rattle.run_files.specs.declared.refusal.Refusal.TheVariants as refusal

-- where the arguments are no command: all commands with their arguments
abbrev pub usage_line : List ℕ
usage_line =
    codes "usage: play RULES SCRIPT IN OUT LEDGER JOURNAL"
    ++ codes " | live RULES SCRIPT IN OUT LEDGER JOURNAL PLACES [FEEDERS [POOL]]"
    ++ codes " | list RULES SCRIPT IN OUT"
    ++ codes " | gen NUMBER COUNT RULES SCRIPT IN"
    ++ codes " | trial NUMBER COUNT"
    ++ codes " | migrate OLD NEW"
    ++ codes " | audit RULES SCRIPT IN JOURNAL\n"

-- what is wrong with a capture; no file's fault is that memory ran out
abbrev pub fault_text : CaptureFault → List ℕ
fault_text capture.Magic = codes "no pcap magic"
fault_text capture.Pcapng = codes "pcapng"
fault_text capture.Version = codes "version"
fault_text (capture.LinkType link) = codes "link type " ++ decimal link
fault_text (capture.Cut frame at) =
    codes "record " ++ decimal frame ++ codes " at byte " ++ decimal at ++ codes " is cut"
fault_text (capture.TooLong frame length) =
    codes "record " ++ decimal frame ++ codes " has " ++ decimal length ++ codes " bytes"
fault_text capture.NoMemory = codes "out of memory"

-- what is above its limit
abbrev pub limit_text : Limit → List ℕ
limit_text limit.Rules = codes "rules"
limit_text limit.Script = codes "script"
limit_text limit.Capture = codes "capture"
limit_text limit.Records = codes "records"
limit_text limit.Journal = codes "journal"

abbrev pub line_of : Refusal → List ℕ
line_of (refusal.Capture fault) = codes "capture refused: " ++ fault_text fault ++ codes "\n"
line_of (refusal.Rules number) = codes "rules refused: line " ++ decimal number ++ codes "\n"
line_of (refusal.Script number) = codes "script refused: line " ++ decimal number ++ codes "\n"
line_of (refusal.Journal number) = codes "journal refused: line " ++ decimal number ++ codes "\n"
line_of (refusal.TooLarge limit) = codes "too large: " ++ limit_text limit ++ codes "\n"
