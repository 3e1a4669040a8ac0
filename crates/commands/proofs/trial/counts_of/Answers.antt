use Rattle.std.proofs.Common.{◌≡◌, ◌++◌, ◌∙◌, ap, List, [], ℕ, subst}
use Rattle.fate_ledger.specs.Counts.{counts}
use Rattle.fate_ledger.specs.declared.fate.FateLine.{FateLine}
use Rattle.pcap_io.specs.declared.capture.Capture.{Capture}
use Rattle.histories.specs.declared.histories.Histories.{Histories}
use Rattle.commands.specs.Account.{IsAccounted}
use Rattle.run_files.specs.Outputs.{counts_text, fates_of}
use Rattle.commands.proofs.trial.counts_of.Goals as goal

-- what was appended to nothing, of a capture that is known by another name
counted : (h : Histories) (c d : Capture) (ls : List FateLine) (before out : List ℕ) →
    out ≡ before ++ counts ls → before ≡ [] → ls ≡ fates_of c h → c ≡ d → out ≡ counts_text d h
counted h c d ls before out is empty lines same =
    is ∙ ap (λ (b : List ℕ). b ++ counts ls) empty
    ∙ ap (λ (xs : List FateLine). counts xs) (lines ∙ ap (λ (x : Capture). fates_of x h) same)

pub returns : goal.returns
returns c = record {
  tables = c.in_ok-tables.tables;
  script = c.in_ok-script.script;
  histories = c.in_ok-histories.histories;
  rules_say = c.in_ok-tables.ensures.file;
  script_says = c.in_ok-script.ensures.file;
  account = subst (λ (d : Capture). IsAccounted c.in_ok-tables.tables c.in_ok-script.script d
      c.in_ok-histories.histories) c.in_ok-capture.ensures.value
      c.in_ok-histories.ensures.account;
  text_is = counted c.in_ok-histories.histories c.in_ok-capture.capture _ c.in_ok-lines.lines
      _ _ c.in_ok-counts_text.ensures.ok c.new-counts.ensures.items c.in_ok-lines.ensures.lines
      c.in_ok-capture.ensures.value;
}
