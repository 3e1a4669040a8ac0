use Rattle.log_audit.proofs.NoticeStore.{keeps_bound, keeps_unbound}
use Rattle.log_audit.proofs.notices.keep.Goals as goal

pub returns-in-Some : goal.returns-in-Some
returns-in-Some c =
    keeps_bound c.keep_of.result c.args.here c.args.entry.now c.args.notices.now
    c.keep_of.new.notices c.in-Some.field-0 c.in-Some.is c.keep_of.ensures

pub returns-in-None : goal.returns-in-None
returns-in-None c = keeps_unbound c.args.here c.args.entry.now c.args.notices.now c.in-None.is
