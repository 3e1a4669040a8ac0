use Rattle.log_audit.proofs.MessageCuts.{cut_first, cut_none, used_within}
use Rattle.log_audit.proofs.MessageBytes.{own_message}
use Rattle.log_audit.proofs.laws.datagrams_are_cut_message_by_message.Goals as goal

pub returns-clause-first : goal.returns-clause-first
returns-clause-first c = cut_first

pub returns-clause-none : goal.returns-clause-none
returns-clause-none c = cut_none

pub returns-clause-used : goal.returns-clause-used
returns-clause-used c = λ bytes m used first. (used_within bytes m used first).1

pub returns-clause-own : goal.returns-clause-own
returns-clause-own c = own_message
