use Rattle.turn_lock.proofs.Trees.{covers-pieces, apart_pieces, live_kept, live_cut}
use Rattle.turn_lock.proofs.laws.a_cut_shares_a_part_out.Goals as goal

pub returns : goal.returns
returns c =
    record {
      ways = covers-pieces;
      apart = apart_pieces;
      pieces = λ p h. (live_kept p h, live_cut p h);
    }
