use Rattle.text_lines.proofs.HexWords.{is_spelled, is_read}
use Rattle.text_lines.proofs.laws.bytes_are_spelled.Goals as goal

pub returns : goal.returns
returns c = λ most word bytes. (is_spelled most word bytes, is_read most word bytes)
