use Rattle.std.proofs.Common.{IsTrue, ap, sym, ◌∙◌, Some, arith}
use Rattle.host_io.specs.Host.{later_still}
use Rattle.host_io.proofs.Pieces.{goes_on, written_further}
use Rattle.host_io.proofs.whole.write_on.Goals as goal

pub write_piece-requires-clause-behind : goal.write_piece-requires-clause-behind
write_piece-requires-clause-behind g c told =
    let before = c.loop-n.invariant in
    let told_first : IsTrue (g.H.Host.tells c.args.host.now) =
    (rw (sym before.later.tells_same) told) in
    goes_on _ _ c.args.at c.loop-n.done c.args.bytes.now (c.requires.behind told_first)
    before.within before.same (λ some. before.stored some told_first)

pub loop-n-preserved : goal.loop-n-preserved
loop-n-preserved g c =
    let before = c.loop-n.invariant in
    let n = c.in-Ok.n in
    record {
      within = c.in-Ok.ensures.within;
      open_end = λ _. omega (arith, c.in-Ok.ensures.within, c.if-done-bytes.false);
      same = λ none. absurd (c.if-n-eq0.false (omega (arith, none)));
      stored =
          λ some told.
          c.in-Ok.ensures.stored (rw before.later.tells_same told)
          ∙ ap Some (written_further (g.H.Host.content c.args.host.now c.args.name.now)
          (g.H.Host.content c.loop-n.host c.args.name.now) c.args.at c.loop-n.done n
          c.args.bytes.now (c.requires.behind told) before.within before.same
          (λ some. before.stored some told));
      files = λ other apart. c.in-Ok.ensures.files other apart ∙ before.files other apart;
      later = later_still before.later c.in-Ok.ensures.later;
      reads = c.in-Ok.ensures.reads ∙ before.reads;
      writes = omega (arith, before.writes, c.in-Ok.ensures.writes, c.if-n-eq0.false);
    }
