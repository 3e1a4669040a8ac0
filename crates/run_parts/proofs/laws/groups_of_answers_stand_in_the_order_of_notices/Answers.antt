use Rattle.run_parts.proofs.Workers.{first_group_first, second_group_second}
use Rattle.run_parts.proofs.laws.groups_of_answers_stand_in_the_order_of_notices.Goals as goal

pub returns-clause-first : goal.returns-clause-first
returns-clause-first c = first_group_first

pub returns-clause-second : goal.returns-clause-second
returns-clause-second c = second_group_second
