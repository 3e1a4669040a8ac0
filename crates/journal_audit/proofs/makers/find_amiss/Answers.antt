use Rattle.std.proofs.Common.{[]}
use Rattle.run_parts.specs.Entering.{cards}
use Rattle.journal_audit.proofs.makers.find_amiss.Goals as goal

pub walk_logs-requires-clause-once : goal.walk_logs-requires-clause-once
walk_logs-requires-clause-once c =
    let sound = c.requires.sound in
    c.no_visit_arrives_twice.ensures sound.0 sound.1 (cards c.args.capture.now)
    c.args.histories.now.entries [] (c.packets_of_a_capture_differ.ensures c.args.capture.now)
    sound.2

pub walk_logs-requires-clause-packets : goal.walk_logs-requires-clause-packets
walk_logs-requires-clause-packets c =
    let sound = c.requires.sound in
    c.packets_of_a_capture_arrive.ensures sound.0 sound.1 c.args.capture.now
    c.args.histories.now.entries [] sound.2
