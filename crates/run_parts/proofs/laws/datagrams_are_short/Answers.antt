use Rattle.run_parts.proofs.Datagrams.{bytes_size, messages_short, words_fit}
use Rattle.run_parts.proofs.laws.datagrams_are_short.Goals as goal

pub returns-clause-bytes : goal.returns-clause-bytes
returns-clause-bytes c = bytes_size (record {
  message = c.written_message_is_in_front.ensures.size;
  attribute = c.written_attributes_are_walked.ensures.size;
})

pub returns-clause-words : goal.returns-clause-words
returns-clause-words c = words_fit (record {
  message = c.written_message_is_in_front.ensures.size;
  attribute = c.written_attributes_are_walked.ensures.size;
})

pub returns-clause-payloads : goal.returns-clause-payloads
returns-clause-payloads c = messages_short
