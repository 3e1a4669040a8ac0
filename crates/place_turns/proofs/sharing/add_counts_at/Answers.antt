use Rattle.std.proofs.Common.{refl, length}
use Rattle.std.proofs.lemmas.Option.{slice_get_read}
use Rattle.place_turns.proofs.sharing.add_counts_at.Goals as goal

pub add_counts-requires : goal.add_counts-requires
add_counts-requires c =
    c.requires.can c.index_mut.result.now
    (slice_get_read c.args.into.now.items (length c.args.into.now.items) c.args.place
    c.index_mut.result.now refl c.requires.there c.index_mut.ensures.value)

pub returns : goal.returns
returns c = record {
  before = c.index_mut.result.now;
  after = c.add_counts.new.into;
  had = slice_get_read c.args.into.now.items (length c.args.into.now.items) c.args.place
      c.index_mut.result.now refl c.requires.there c.index_mut.ensures.value;
  has = refl;
  turns = c.add_counts.ensures;
}
