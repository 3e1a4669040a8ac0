use Rattle.commands.proofs.account.histories_of.Goals as goal

pub returns-clause-account : goal.returns-clause-account
returns-clause-account c =
    c.each_packet_is_accounted_for.ensures c.args.tables c.args.script.now
    c.args.capture.now c.in_ok-histories.histories c.requires.script c.in_ok-histories.ensures.run
    c.in_ok-histories.ensures.legal c.histories_fit.ensures
    c.in_ok-histories.ensures.sound

pub returns-clause-fit : goal.returns-clause-fit
returns-clause-fit c =
    c.released_frames_can_be_written.ensures.fit c.args.tables c.args.script.now
    c.args.capture.now c.in_ok-histories.histories c.requires.held
    (c.packets_and_payloads_are_within_bounds.ensures.payloads c.args.script.now c.args.tables
    c.args.capture.now c.in_ok-histories.histories c.requires.script c.requires.held.lengths
    c.in_ok-histories.ensures.run) c.in_ok-histories.ensures.sound

pub returns-clause-held : goal.returns-clause-held
returns-clause-held c =
    c.released_frames_can_be_written.ensures.held c.args.tables c.args.script.now
    c.args.capture.now c.in_ok-histories.histories c.requires.held
    (c.packets_and_payloads_are_within_bounds.ensures.payloads c.args.script.now c.args.tables
    c.args.capture.now c.in_ok-histories.histories c.requires.script c.requires.held.lengths
    c.in_ok-histories.ensures.run) c.in_ok-histories.ensures.sound
