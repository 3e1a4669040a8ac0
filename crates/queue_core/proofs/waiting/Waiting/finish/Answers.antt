use Rattle.std.proofs.Common.{◌∙◌, arith}
use Rattle.queue_core.specs.Few.{none_in_either}
use Rattle.queue_core.proofs.waiting.Waiting.finish.Goals as goal

pub destroy_empty-requires : goal.destroy_empty-requires
destroy_empty-requires c =
    omega (
      arith,
      (none_in_either c.self.inside.few.items c.self.inside.many
          (c.self.view_is ∙ c.requires.empty)).0,
    )

pub finish-requires : goal.finish-requires
finish-requires c = record {
  empty = (none_in_either c.self.inside.few.items c.self.inside.many
      (c.self.view_is ∙ c.requires.empty)).1;
}
