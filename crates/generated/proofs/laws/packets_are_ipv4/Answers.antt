use Rattle.std.proofs.Common.{arith}
use Rattle.generated.proofs.Headers.{packet_fields, packet_starts, total_length_said}
use Rattle.generated.proofs.Lengths.{length-packet, packet_is_short}
use Rattle.generated.proofs.laws.packets_are_ipv4.Goals as goal

pub returns-clause-start : goal.returns-clause-start
returns-clause-start c = packet_starts

pub returns-clause-fields : goal.returns-clause-fields
returns-clause-fields c = packet_fields

pub returns-clause-total_length : goal.returns-clause-total_length
returns-clause-total_length c = total_length_said

pub returns-clause-least : goal.returns-clause-least
returns-clause-least c = λ w. omega (arith, length-packet w)

pub returns-clause-most : goal.returns-clause-most
returns-clause-most c = packet_is_short
