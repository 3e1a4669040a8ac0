use Rattle.fate_ledger.proofs.FateWays.{Laws}
use Rattle.fate_ledger.proofs.FinalDepartures.{left_for_good}
use Rattle.fate_ledger.proofs.laws.what_left_last_is_over.Goals as goal

pub returns : goal.returns
returns c =
    let laws : Laws = record {
      counts = c.replies_tell_how_many_left.ensures;
      config_gone = c.what_is_flushed_is_destroyed.ensures.config;
      port_gone = c.what_is_flushed_is_destroyed.ensures.port;
      device_gone = c.what_is_flushed_is_destroyed.ensures.device;
      arrival = c.an_arrival_leaves_as_its_outcome_says.ensures;
    } in record {
      over = λ tables key number entered es lost h legal sound kept last not_.
          left_for_good number es h last laws tables key entered lost legal sound kept not_;
    }
