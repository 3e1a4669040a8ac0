use Rattle.locked_place.proofs.EntryPoints.{Laws}
use Rattle.locked_place.proofs.ArrivalNotices.{turned_away, has_sender, offered}
use Rattle.locked_place.proofs.RequestEffects.{asked}
use Rattle.locked_place.proofs.QuietEntries.{closed, down}
use Rattle.locked_place.proofs.laws.senders_keep_up.Goals as goal

laws : goal.After-replies_tell_how_many_left → Laws
laws c = record {
  own = c.an_entry_is_of_its_queue_alone.ensures.own;
  others = c.an_entry_is_of_its_queue_alone.ensures.others;
  state = c.a_legal_history_goes_on.ensures.state;
  tells = c.replies_tell_how_many_left.ensures;
}

pub returns : goal.returns
returns c = record {
  turned_away = λ es a o back senders told away. turned_away (laws c) es a o back senders away told;
  has_sender = has_sender;
  offered = λ es a room port letter olds news. offered es a room port letter olds news (laws c);
  asked = λ es port call r senders. asked es port call r senders (laws c);
  closed = closed (laws c);
  down = down (laws c);
}
