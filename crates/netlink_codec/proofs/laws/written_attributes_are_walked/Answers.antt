use Rattle.netlink_codec.proofs.Rows.{attributes-row, attributes-row_alone, length-attribute_text}
use Rattle.netlink_codec.proofs.laws.written_attributes_are_walked.Goals as goal

pub returns-clause-row : goal.returns-clause-row
returns-clause-row c = λ row fits. attributes-row_alone row fits

pub returns-clause-behind : goal.returns-clause-behind
returns-clause-behind c = λ row behind fits. attributes-row row behind fits

pub returns-clause-size : goal.returns-clause-size
returns-clause-size c = λ a. length-attribute_text a
