use Rattle.nfqa_msgs.proofs.NoticeRoundTrip.{told_by-back, one_value, no_prefix}
use Rattle.nfqa_msgs.proofs.laws.notices_are_told_apart.Goals as goal

pub returns-clause-back : goal.returns-clause-back
returns-clause-back c =
    λ told fits. told_by-back c.written_attributes_are_walked.ensures.size
    (λ row all. c.written_attributes_are_walked.ensures.row row all)
    (λ body behind all. c.written_message_is_in_front.ensures.reading 768 0 0 0 body behind all)
    told fits

pub returns-clause-one : goal.returns-clause-one
returns-clause-one c =
    λ told other fits others same. one_value c.written_attributes_are_walked.ensures.size
    (λ row all. c.written_attributes_are_walked.ensures.row row all)
    (λ body behind all. c.written_message_is_in_front.ensures.reading 768 0 0 0 body behind all)
    told other fits others same

pub returns-clause-no_prefix : goal.returns-clause-no_prefix
returns-clause-no_prefix c =
    λ told other behind fits others longer. no_prefix c.written_attributes_are_walked.ensures.size
    (λ body rest all. c.written_message_is_in_front.ensures.reading 768 0 0 0 body rest all)
    told other behind fits others longer
