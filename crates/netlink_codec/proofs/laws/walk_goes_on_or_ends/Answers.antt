use Rattle.netlink_codec.proofs.Rows.{attributes-end, attributes-step}
use Rattle.netlink_codec.proofs.laws.walk_goes_on_or_ends.Goals as goal

pub returns-clause-goes_on : goal.returns-clause-goes_on
returns-clause-goes_on c = λ body stands. attributes-step body stands

pub returns-clause-ends : goal.returns-clause-ends
returns-clause-ends c = λ body ends. attributes-end body ends
