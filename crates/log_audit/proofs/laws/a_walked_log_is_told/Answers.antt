use Rattle.log_audit.proofs.ToldEntries.{tell_whole}
use Rattle.log_audit.proofs.laws.a_walked_log_is_told.Goals as goal

pub returns : goal.returns
returns c =
    λ known script place port dids is keyed walks.
    tell_whole known script place port is keyed c.datagrams_are_short.ensures.words
    (λ notes. c.one_worker_is_no_pool.ensures.nothing_waits script place port notes) dids walks
