use Rattle.std.proofs.Common.{◌∙◌, ◌++◌, take, ap, sym, arith}
use Rattle.std.proofs.lemmas.Fmt.{decimal_digit}
use Rattle.std.proofs.lemmas.List.{take_more_set, length-set}
use Rattle.journals.proofs.Decimals.{one_digit}
use Rattle.journals.proofs.placing.put_digit.Goals as goal

pub bounds-to-at : goal.bounds-to-at
bounds-to-at c =
    omega (arith, c.requires.room, one_digit c.args.number c.requires.few)

pub returns : goal.returns
returns c =
    let one = one_digit c.args.number c.requires.few in
    record {
      bytes =
          take_more_set c.args.to.now c.args.at _ (omega (arith, c.requires.room, one))
          ∙ ap (λ l. take c.args.at c.args.to.now ++ l)
          (sym (decimal_digit c.args.number c.requires.few));
      moved = omega (arith, one);
      len = length-set c.args.to.now c.args.at _;
    }
