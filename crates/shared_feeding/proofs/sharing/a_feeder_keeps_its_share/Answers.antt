use Rattle.shared_feeding.proofs.ShareInvariant.{begins, falls, feeds, meets, waits}
use Rattle.shared_feeding.proofs.sharing.a_feeder_keeps_its_share.Goals as goal

pub returns : goal.returns
returns c = record {
  begins = λ feeders feeder front. begins feeders feeder front;
  meets = λ feeders feeder time fallen front xs es is. meets feeders feeder front time fallen xs es
      is;
  waits = λ feeders feeder time later fallen front xs less is. waits feeders feeder front time
      later fallen xs less is;
  feeds = λ places feeders feeder time route fallen card front old new some less of is are. feeds
      places feeders feeder front time route fallen card old new some less of is are;
  falls = λ places feeders feeder time fallen d front old new less of is are. falls places feeders
      feeder front c.a_device_that_packets_pass_leaves_nothing_waiting.ensures.entries time fallen
      d old new less of is are;
}
