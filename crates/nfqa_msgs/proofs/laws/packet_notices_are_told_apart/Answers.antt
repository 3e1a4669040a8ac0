use Rattle.std.proofs.Common.{[], sym, ◌∙◌, append-nil}
use Rattle.nfqa_msgs.proofs.PacketNotices.{told-fits, packets-apart}
use Rattle.nfqa_msgs.proofs.laws.packet_notices_are_told_apart.Goals as goal

pub returns-clause-fits : goal.returns-clause-fits
returns-clause-fits c =
    λ queue mode range id card noticed. told-fits queue mode range id card noticed

pub returns-clause-apart : goal.returns-clause-apart
returns-clause-apart c =
    λ text other behind rest n m same. packets-apart c.written_attributes_are_walked.ensures.size
    (λ body rest all. c.written_message_is_in_front.ensures.reading 768 0 0 0 body rest all)
    text other behind rest n m same

pub returns-clause-no_prefix : goal.returns-clause-no_prefix
returns-clause-no_prefix c =
    λ text other behind n m longer. sym
    (returns-clause-apart c text other behind [] n m (sym longer ∙ sym (append-nil other)))
