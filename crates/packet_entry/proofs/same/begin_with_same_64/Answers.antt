use Rattle.std.proofs.Common.{take, ◌∙◌, sym, arith}
use Rattle.std.proofs.lemmas.Bool.{eqb-true, eq-eqb}
use Rattle.std.proofs.lemmas.List.{length-take-le}
use Rattle.packet_entry.proofs.Lanes.{empty_word}
use Rattle.packet_entry.proofs.same.begin_with_same_64.Goals as goal

pub returns : goal.returns
returns c =
    let first = length-take-le 64 c.args.a.now c.requires.first in
    let second = length-take-le 64 c.args.b.now c.requires.second in
    let word =
    empty_word (take 64 c.args.a.now) (take 64 c.args.b.now) (first ∙ sym second)
    (omega (arith, first)) in
    (λ is. word.0 (eqb-true _ 0 is), λ same. eq-eqb _ 0 (word.1 same))
