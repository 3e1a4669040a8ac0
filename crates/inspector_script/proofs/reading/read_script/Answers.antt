use Rattle.std.proofs.Common.{Ok, Err}
use Rattle.inspector_script.proofs.FileForm.{answered_by, file_read, file_stuck, found_by}
use Rattle.inspector_script.proofs.FileForm.{refused_by}
use Rattle.inspector_script.proofs.reading.read_script.Goals as goal

pub returns-clause-found : goal.returns-clause-found
returns-clause-found c =
    found_by c.lines_say_what_is_written.ensures c.read_lines.result c.args.bytes.now
    c.read_lines.ensures

pub returns-clause-only : goal.returns-clause-only
returns-clause-only c =
    λ s h. answered_by c.read_lines.result c.args.bytes.now (Ok s)
    (file_read c.lines_say_what_is_written.ensures c.args.bytes.now s h) c.read_lines.ensures

pub returns-clause-refused : goal.returns-clause-refused
returns-clause-refused c =
    λ line e. refused_by c.lines_say_what_is_written.ensures c.read_lines.result
    c.args.bytes.now line c.read_lines.ensures e

pub returns-clause-stuck : goal.returns-clause-stuck
returns-clause-stuck c =
    λ line h. answered_by c.read_lines.result c.args.bytes.now (Err line)
    (file_stuck c.lines_say_what_is_written.ensures c.args.bytes.now line h)
    c.read_lines.ensures
