use Rattle.port_scripts.proofs.PortEnd.{answered_words, closing_last, opening_words}
use Rattle.port_scripts.proofs.closings.ports_close_at_the_end.Goals as goal

pub returns : goal.returns
returns c = record {
  opening = opening_words;
  answer = answered_words;
  closing = closing_last;
}
