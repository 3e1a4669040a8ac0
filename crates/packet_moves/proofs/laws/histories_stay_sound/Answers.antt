use Rattle.std.proofs.Common.{refl}
use Rattle.packet_moves.specs.Planes.{with_closed, without_device}
use Rattle.packet_moves.proofs.LowerLaws.{Laws}
use Rattle.packet_moves.proofs.CallSoundness.{fed_keeps, sends_keep}
use Rattle.packet_moves.proofs.Flushes.{closing_keeps, down_keeps}
use Rattle.packet_moves.proofs.VisitNumbers.{wait_in_time}
use Rattle.packet_moves.proofs.laws.histories_stay_sound.Goals as goal

laws : goal.After-soundness_is_kept_move_by_move → Laws
laws c = record {
  conserves = c.each_packet_stays_or_leaves.ensures;
  port_gone = c.what_is_flushed_is_destroyed.ensures.port;
  device_gone = c.what_is_flushed_is_destroyed.ensures.device;
  is_move = c.an_entry_is_a_move.ensures;
  goes_on = c.a_legal_history_goes_on.ensures.all;
  enters = c.soundness_is_kept_move_by_move.ensures.enters;
  comes = c.soundness_is_kept_move_by_move.ensures.comes;
  loses = c.soundness_is_kept_move_by_move.ensures.lost;
}

pub returns : goal.returns
returns c = record {
  begins = λ s order. record {
    legal = λ queue. tt;
    sound = c.soundness_is_kept_move_by_move.ensures.nothing s.tables s.key;
  };
  fed = fed_keeps (laws c);
  sent = sends_keep (laws c);
  closed = λ s port w.
      closing_keeps (laws c) s port w (with_closed w port) refl refl refl;
  down = λ s device w.
      down_keeps (laws c) s device w (without_device w device) refl refl refl;
  in_time = wait_in_time (laws c);
}
