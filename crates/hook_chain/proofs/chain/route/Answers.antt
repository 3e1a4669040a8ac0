use Rattle.std.proofs.Common.{◌∙◌}
use Rattle.hook_chain.proofs.Views.{first_is, next_is}
use Rattle.hook_chain.proofs.chain.route.Goals as goal

pub returns : goal.returns
returns c = record {
  exact = c.enter.ensures
      ∙ first_is c.args.tables.now c.args.key c.of.result c.args.from c.first_table.result
      c.first_table.ensures
      ∙ next_is c.args.tables.now c.args.key c.of.result c.args.packet.now c.args.from c.of.ensures;
}
