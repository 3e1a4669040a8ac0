use Rattle.std.proofs.Common.{◌≡◌, length, arith}
use Rattle.host_io.proofs.Pieces.{read_on}
use Rattle.host_io.proofs.whole.read_on.Goals as goal

pub returns-clause-prefix : goal.returns-clause-prefix
returns-clause-prefix g c told =
    let len : c.len.result ≡ length c.args.bytes.now.items = omega arith in
    rw c.in_ok-extend_from_slice.ensures.items
    (read_on _ c.args.bytes.now.items c.args.piece.now c.read.new.out c.in_ok-n.n
    (c.requires.prefix told) (rw len at (c.in_ok-n.ensures.bytes told)))
