use Rattle.std.proofs.Common.{◌≡◌, ◌<◌, length, ap, sym, refl, arith}
use Rattle.text_lines.proofs.TextCuts.{words_of-empty, words_of-word}
use Rattle.text_lines.proofs.WordCuts.{is_word_end}
use Rattle.text_lines.specs.Words.{first_word}
use Rattle.text_lines.proofs.word.next_word.Goals as goal

pub returns-then-is_empty-clause-word : goal.returns-then-is_empty-clause-word
returns-then-is_empty-clause-word c =
    let line = c.after_blanks-line.result.now in
    let none : length line ≡ 0 = grind arith in
    rw (← c.after_blanks-line.ensures.words, words_of-empty line none) refl

pub returns-clause-word : goal.returns-clause-word
returns-clause-word c =
    let line = c.after_blanks-line.result.now in
    let n = c.word_length.result in
    let some : 0 < length line = grind arith in
    let first : 0 < n =
    grind (arith, c.word_length.ensures.at, c.after_blanks-line.ensures.no_blank) in
    rw (c.split_at.ensures.front, c.split_at.ensures.back, ← c.after_blanks-line.ensures.words)
    (ap first_word
    (sym (words_of-word n line c.word_length.ensures.before c.word_length.ensures.at first
    c.word_length.ensures.within)))

pub returns-clause-rest : goal.returns-clause-rest
returns-clause-rest c =
    is_word_end c.args.line.now c.after_blanks-line.result.now c.split_at.result.1.now
    c.word_length.result c.after_blanks-line.ensures.no_longer c.after_blanks-line.ensures.end
    c.split_at.ensures.back c.word_length.ensures.within c.word_length.ensures.at
