use Rattle.nfqa_msgs.specs.RequestReading.{decoded}
use Rattle.packet_moves.proofs.MessageWords.{words_spell, raw_is_whole, spelling_in_words}
use Rattle.packet_moves.proofs.laws.words_are_the_one_spelling.Goals as goal

pub returns : goal.returns
returns c = record {
  words = λ port call m. words_spell port call m.whole (decoded m);
  bytes = λ port call m. raw_is_whole port call m.whole (decoded m);
  spelled = spelling_in_words c.spelling_decodes_to_its_request.ensures.front
      c.spelling_decodes_to_its_request.ensures.request c.one_message_in_front.ensures.read;
}
