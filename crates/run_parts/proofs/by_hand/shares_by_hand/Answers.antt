use Rattle.run_parts.proofs.ShareExamples.{across_shares, callers_behind, early_line, lineless}
use Rattle.run_parts.proofs.ShareExamples.{within_a_share}
use Rattle.run_parts.proofs.by_hand.shares_by_hand.Goals as goal

pub returns-clause-across : goal.returns-clause-across
returns-clause-across c = across_shares

pub returns-clause-within : goal.returns-clause-within
returns-clause-within c = within_a_share

pub returns-clause-lineless : goal.returns-clause-lineless
returns-clause-lineless c = lineless

pub returns-clause-early : goal.returns-clause-early
returns-clause-early c = early_line

pub returns-clause-behind : goal.returns-clause-behind
returns-clause-behind c = callers_behind
