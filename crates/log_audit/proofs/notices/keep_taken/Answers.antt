use Rattle.std.proofs.lemmas.Bool.{and_parts}
use Rattle.log_audit.proofs.NoticeStore.{keeps_taken}
use Rattle.log_audit.proofs.notices.keep_taken.Goals as goal

pub notice_of_card-requires-clause-protocol : goal.notice_of_card-requires-clause-protocol
notice_of_card-requires-clause-protocol c = (and_parts _ _ c.requires.packet).0

pub notice_of_card-requires-clause-link : goal.notice_of_card-requires-clause-link
notice_of_card-requires-clause-link c = (and_parts _ _ c.requires.packet).1

pub returns : goal.returns
returns c =
    keeps_taken c.keep_first.result c.args.number c.args.here c.args.id c.args.card.now
    c.in_ok-notice.notice c.args.notices.now c.keep_first.new.notices c.in_ok-notice.ensures
    c.keep_first.ensures
