use Rattle.std.proofs.Common.{◌≡◌, ◌<◌, ◌∙◌, ℕ, ap, arith, length, sym}
use Rattle.nfq_live.specs.Crews.{all_sent}
use Rattle.live_work.specs.Numbers.{most_counted}
use Rattle.nfq_live.proofs.NoticeCounts.{all_received, counted_more}
use Rattle.nfq_live.proofs.crew.Crew.has_received_all.Goals as goal

pub loop-at-preserved : goal.loop-at-preserved
loop-at-preserved c =
    let crew = c.args.self.now in
    let port = c.index-in-loop-at.result.now in
    let mind = c.index.result.now in
    let less : c.loop-at.at < length crew.ports.items =
    omega (arith, c.loop-at-test.true, c.len-at-end.ensures) in
    let same : c.sent.result ≡ mind.received = omega (arith, c.if-sent-received.false) in
    let few : mind.received < most_counted =
    omega (arith, c.if-received.false, same, c.sent.ensures) in
    record {
      so_far = counted_more crew c.loop-at.at port mind less (omega (arith, less, c.requires.both))
          c.index-in-loop-at.ensures c.index.ensures few
          (ap (λ (p : ℕ). all_sent crew p) (sym c.port.ensures) ∙ sym c.sent.ensures ∙ same)
          c.loop-at.invariant.so_far;
    }

pub returns : goal.returns
returns c = λ yes plane script crew minds.
    all_received c.counts_say_what_was_sent.ensures plane script c.args.self.now
    (λ i less. c.loop-at.invariant.so_far i
    (omega (arith, less, c.loop-at-test.false, c.len-at-end.ensures))) crew minds
