use Rattle.run_files.proofs.TextParts.{put_into}
use Rattle.run_files.proofs.line_writing.write_line.Goals as goal

pub returns-clause-grows : goal.returns-clause-grows
returns-clause-grows g c =
    put_into _ _ _ _ _ _ _ _ _ c.in_ok-make_room.ensures.grows c.in-Ok.ensures.ok
