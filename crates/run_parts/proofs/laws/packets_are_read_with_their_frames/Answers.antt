use Rattle.run_parts.proofs.FrameBytes.{cards_read}
use Rattle.run_parts.proofs.laws.packets_are_read_with_their_frames.Goals as goal

pub returns : goal.returns
returns c = cards_read
