use Rattle.place_turns.proofs.LowerLaws.{Laws}
use Rattle.place_turns.proofs.OnwardBalance.{fed_keeps, may_look_keeps}
use Rattle.std.proofs.Common.{[]}
use Rattle.place_turns.proofs.RequestBalance.{sends_keep}
use Rattle.place_turns.proofs.laws.passes_stay_balanced.Goals as goal

laws : goal.After-rows_stay_balanced → Laws
laws c = record {
  enters = c.rows_stay_balanced.ensures.enters;
  appends = c.rows_stay_balanced.ensures.appends;
  loses = c.rows_stay_balanced.ensures.loses;
  looks = c.rows_stay_balanced.ensures.looks;
  arrival = c.what_goes_on_is_in_time.ensures.arrival;
  request = c.what_goes_on_is_in_time.ensures.request;
  in_time = c.histories_stay_sound.ensures.in_time;
  front = c.each_front_of_a_legal_history_is_legal.ensures;
}

pub returns : goal.returns
returns c = record {
  fed = fed_keeps (laws c);
  sent = sends_keep (laws c);
  looked = λ s entered old new looked is. may_look_keeps (laws c) s entered [] old new looked is;
}
