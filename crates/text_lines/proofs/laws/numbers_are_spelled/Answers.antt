use Rattle.text_lines.proofs.Numerals.{is_numeral, is_number}
use Rattle.text_lines.proofs.laws.numbers_are_spelled.Goals as goal

pub returns : goal.returns
returns c = λ word n. (is_numeral word n, is_number word n)
