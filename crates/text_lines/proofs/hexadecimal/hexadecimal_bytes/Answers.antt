use Rattle.std.proofs.Common.{◌≡◌, ◌∙◌, true, Ok, sym}
use Rattle.hex.specs.Hex.{decode_of}
use Rattle.text_lines.specs.Hexadecimal.{are_pairs}
use Rattle.text_lines.proofs.HexWords.{pairs_spell}
use Rattle.text_lines.proofs.hexadecimal.hexadecimal_bytes.Goals as goal

pub returns-in-Ok-clause-few : goal.returns-in-Ok-clause-few
returns-in-Ok-clause-few c =
    let pairs : are_pairs c.args.most c.args.word.now ≡ true =
    sym c.are_pairs.ensures ∙ c.if-not-are_pairs.false in
    let read : decode_of c.args.word.now ≡ Ok c.in-Ok.bytes.items = c.in-Ok.ensures.ok in
    (pairs_spell c.args.most c.args.word.now c.in-Ok.bytes.items pairs read).few
