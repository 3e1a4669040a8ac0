use Rattle.place_rows.proofs.RowMeetings.{Laws, gather_none, gather_one, spread_one, turn_round}
use Rattle.place_rows.proofs.RowMeetings.{have_met}
use Rattle.place_rows.proofs.laws.rows_meet_by_the_first.Goals as goal

laws : goal.After-a_part_is_known_by_its_ways → Laws
laws c = record {
  sides = c.parts_are_put_together_in_any_order.ensures.sides;
  order = c.parts_are_put_together_in_any_order.ensures.order;
  both = c.a_part_is_known_by_its_ways.ensures.union;
}

pub returns : goal.returns
returns c = record {
  begins = gather_none;
  gathers = gather_one (laws c);
  turns = turn_round;
  spreads = spread_one (laws c);
  met = have_met;
}
