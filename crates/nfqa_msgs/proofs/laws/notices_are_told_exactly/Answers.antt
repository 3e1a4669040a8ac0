use Rattle.nfqa_msgs.proofs.NoticeTexts.{exactly_told, nothing_told}
use Rattle.nfqa_msgs.proofs.laws.notices_are_told_exactly.Goals as goal

pub returns-clause-told : goal.returns-clause-told
returns-clause-told c =
    λ told fits. exactly_told told fits (c.notices_are_told_apart.ensures.back told fits)

pub returns-clause-nothing : goal.returns-clause-nothing
returns-clause-nothing c = nothing_told
