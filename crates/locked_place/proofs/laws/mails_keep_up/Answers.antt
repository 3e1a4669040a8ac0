use Rattle.locked_place.proofs.EntryPoints.{Laws}
use Rattle.locked_place.proofs.ArrivalNotices.{mails_turned_away, mails_offered}
use Rattle.locked_place.proofs.RequestEffects.{mails_asked}
use Rattle.locked_place.proofs.QuietEntries.{mails_closed, mails_down}
use Rattle.locked_place.proofs.laws.mails_keep_up.Goals as goal

laws : goal.After-replies_tell_how_many_left → Laws
laws c = record {
  own = c.an_entry_is_of_its_queue_alone.ensures.own;
  others = c.an_entry_is_of_its_queue_alone.ensures.others;
  state = c.a_legal_history_goes_on.ensures.state;
  tells = c.replies_tell_how_many_left.ensures;
}

pub returns : goal.returns
returns c = record {
  turned_away = λ es a o back time senders away.
      mails_turned_away (laws c) es a o back senders away time;
  offered = λ es a room port letter time olds news.
      mails_offered es a room port letter olds news time;
  asked = λ es port call r time senders. mails_asked es port call r senders time;
  closed = mails_closed;
  down = mails_down;
}
