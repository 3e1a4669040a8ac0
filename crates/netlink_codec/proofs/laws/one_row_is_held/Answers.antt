use Rattle.netlink_codec.proofs.Rows.{Holds-attributes, attributes-Holds}
use Rattle.netlink_codec.proofs.laws.one_row_is_held.Goals as goal

pub returns-clause-walked : goal.returns-clause-walked
returns-clause-walked c = λ body row held. Holds-attributes row body held

pub returns-clause-held : goal.returns-clause-held
returns-clause-held c = λ body h. attributes-Holds body h
