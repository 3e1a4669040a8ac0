use Rattle.std.proofs.Common.{◌≡◌, ◌≤◌, ◌+◌, drop, min}
use Rattle.nfq_live.specs.Crews.{all_sent}
use Rattle.live_work.specs.Numbers.{most_counted}
use Rattle.nfq_live.proofs.NoticeCounts.{sent_by}
use Rattle.nfq_live.proofs.crew.Crew.sent.Given as goal

abbrev pub invariant-loop-pass : goal.invariant-loop-pass
invariant-loop-pass l = record {
  most : l.sent ≤ most_counted;
  sum : min (l.sent + (sent_by l.port (drop l.pass-index l.pass-items)
      + sent_by l.port l.self.closed.items)) most_counted ≡ all_sent l.self l.port;
}

abbrev pub invariant-loop-pass-2 : goal.invariant-loop-pass-2
invariant-loop-pass-2 l = record {
  most : l.sent ≤ most_counted;
  sum : min (l.sent + sent_by l.port (drop l.pass-index l.pass-items)) most_counted
      ≡ all_sent l.self l.port;
}
