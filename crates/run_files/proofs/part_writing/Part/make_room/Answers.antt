use Rattle.run_files.proofs.TextParts.{same_part}
use Rattle.run_files.proofs.part_writing.Part.make_room.Goals as goal

pub returns-then-room-capacity-clause-grows : goal.returns-then-room-capacity-clause-grows
returns-then-room-capacity-clause-grows g c = same_part _ _ _ _ c.requires.behind
