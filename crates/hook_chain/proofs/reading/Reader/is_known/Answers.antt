use Rattle.std.proofs.Common.{refl}
use Rattle.hook_chain.proofs.Names.{list_any-map}
use Rattle.hook_chain.proofs.reading.Reader.is_known.Goals as goal

pub returns : goal.returns
returns c = rw (list_any-map c.args.name.now _, c.is_among.ensures, c.as_slice.ensures.value) refl
