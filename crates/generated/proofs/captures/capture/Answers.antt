use Rattle.std.proofs.Common.{◌≤◌, List, length, ap, subst, sym, ◌∙◌}
use Rattle.std.specs.Prelude.{All}
use Rattle.pcap_io.specs.declared.capture.Frame.{Frame}
use Rattle.pcap_io.specs.Text.{IsHeld}
use Rattle.generated.specs.Captures.{file_of, generated_capture}
use Rattle.generated.specs.Numbers.{longest_generated}
use Rattle.generated.proofs.Records.{capture_is_held, length-records, records_are_short}
use Rattle.generated.proofs.captures.capture.Goals as goal

pub returns-clause-value : goal.returns-clause-value
unfolding generated_capture
returns-clause-value c = ap file_of c.in_ok-records.ensures

pub returns-clause-count : goal.returns-clause-count
returns-clause-count c =
    ap (λ (frames : List Frame). length frames) c.in_ok-records.ensures
    ∙ length-records c.args.number c.args.count

pub returns-clause-short : goal.returns-clause-short
returns-clause-short c =
    subst (λ (frames : List Frame). All (λ (f : Frame). length f.bytes ≤ longest_generated) frames)
    (sym c.in_ok-records.ensures) (records_are_short c.args.number c.args.count)

pub returns-clause-held : goal.returns-clause-held
unfolding generated_capture
returns-clause-held c =
    subst (λ (frames : List Frame). IsHeld (file_of frames)) (sym c.in_ok-records.ensures)
    (capture_is_held c.args.number c.args.count)
