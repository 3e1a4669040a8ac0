use Rattle.std.proofs.Common.{refl}
use Rattle.generated.proofs.Sizes.{file_size}
use Rattle.generated.proofs.Records.{capture_fits, capture_is_held}
use Rattle.generated.proofs.laws.captures_are_files.Goals as goal

pub returns-clause-held : goal.returns-clause-held
returns-clause-held c = capture_is_held

pub returns-clause-file : goal.returns-clause-file
returns-clause-file c =
    λ number count few.
    record {
      held = capture_is_held number count;
      fits = capture_fits number count few;
      spelled = refl;
    }

pub returns-clause-size : goal.returns-clause-size
returns-clause-size c = file_size
