use Rattle.generated.proofs.Records.{length-records, record_at, records_front}
use Rattle.generated.proofs.laws.records_are_of_words.Goals as goal

pub returns-clause-count : goal.returns-clause-count
returns-clause-count c = length-records

pub returns-clause-each : goal.returns-clause-each
returns-clause-each c = record_at

pub returns-clause-front : goal.returns-clause-front
returns-clause-front c = records_front
