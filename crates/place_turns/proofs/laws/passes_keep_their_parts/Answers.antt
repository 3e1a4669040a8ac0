use Rattle.place_turns.proofs.LockParts.{fed_parts, sends_parts, may_look_parts, down_parts}
use Rattle.place_turns.proofs.laws.passes_keep_their_parts.Goals as goal

pub returns : goal.returns
returns c = record {
  fed = fed_parts;
  sent = sends_parts;
  looked = may_look_parts;
  down = down_parts;
}
