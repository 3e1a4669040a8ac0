use Rattle.run_parts.specs.Entering.{cards}
use Rattle.commands.proofs.account.released_frames_can_be_written.Goals as goal

pub returns-clause-fit : goal.returns-clause-fit
returns-clause-fit c = λ tables script capture h held short sound.
    c.payloads_were_read_or_given.ensures.fit tables script.key capture.link (cards capture) h
    capture.frames (c.packets_are_read_with_their_frames.ensures capture) short sound held.lengths

pub returns-clause-held : goal.returns-clause-held
returns-clause-held c = λ tables script capture h held short sound.
    c.payloads_were_read_or_given.ensures.held tables script.key (cards capture) h capture
    (c.packets_are_read_with_their_frames.ensures capture) short sound held
