use Rattle.shared_feeding.proofs.ShareLines.{all_passed, first_frame, more_lines, next_frame}
use Rattle.shared_feeding.proofs.ShareLines.{no_lines}
use Rattle.shared_feeding.proofs.lines.lines_of_a_share_add_up.Goals as goal

pub returns : goal.returns
returns c = record {
  first = λ feeders feeder below. first_frame feeders feeder below;
  on = λ feeders feeder number below is. next_frame feeders feeder number below is;
  none = λ script feeders feeder below. no_lines script feeders feeder below;
  more = λ script feeders feeder passed below is. more_lines script feeders feeder passed below is;
  all = λ script feeders feeder passed frames below is least few. all_passed script feeders feeder
      passed frames below is least few;
}
