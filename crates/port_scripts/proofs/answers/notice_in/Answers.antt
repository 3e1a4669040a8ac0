use Rattle.port_scripts.proofs.Notices.{notice_is}
use Rattle.port_scripts.proofs.answers.notice_in.Goals as goal

pub returns : goal.returns
returns c =
    notice_is c.args.bytes.now c.decode_shared_notice.result
    c.notices_are_told_exactly.ensures.told c.notices_are_told_exactly.ensures.nothing
    c.decode_shared_notice.ensures.found c.decode_shared_notice.ensures.none
