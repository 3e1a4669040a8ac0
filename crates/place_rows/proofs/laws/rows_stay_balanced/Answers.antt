use Rattle.std.proofs.Common.{ℕ, List, [], sym, subst}
use Rattle.histories.specs.Moves.{Move, move_after}
use Rattle.histories.specs.Journeys.{IsSoundBut}
use Rattle.histories.specs.History.{AreLegal}
use Rattle.turn_lock.specs.Places.{IsPlaced}
use Rattle.place_rows.proofs.RowBalance.{turned_sound, looked_sound, none_moved}
use Rattle.place_rows.proofs.Flushes.{Laws, closing_sound, down_sound}
use Rattle.place_rows.proofs.laws.rows_stay_balanced.Goals as goal

laws : goal.After-what_is_flushed_is_destroyed → Laws
laws c = record {
  comes = c.soundness_is_kept_move_by_move.ensures.comes;
  port_gone = c.what_is_flushed_is_destroyed.ensures.port;
  device_gone = c.what_is_flushed_is_destroyed.ensures.device;
}

pub returns-clause-begins : goal.returns-clause-begins
returns-clause-begins c = λ s known none. record {
  legal = λ k v at.
      subst AreLegal (sym (none k v at).0) (λ queue. tt);
  placed = λ k v at.
      subst (λ (own : List ℕ). IsPlaced v.seen own) (sym (none k v at).1) tt;
  sound = subst (λ (ms : List Move). IsSoundBut s.tables s.key [] [] ms []) (sym (none_moved known
      none))
      (c.soundness_is_kept_move_by_move.ensures.nothing s.tables s.key);
}

pub returns-clause-appends : goal.returns-clause-appends
returns-clause-appends c = λ s owed entered olds news lost place found e is turn.
    turned_sound s _ _ entered olds news lost place found _ is turn
    (c.soundness_is_kept_move_by_move.ensures.comes s.tables s.key (move_after found e) owed
    entered _ lost)

pub returns-clause-looks : goal.returns-clause-looks
returns-clause-looks c = looked_sound

pub returns-clause-closed : goal.returns-clause-closed
returns-clause-closed c = λ s port owed entered olds news lost place found is turn.
    turned_sound s owed owed entered olds news lost place found _ is turn
    (closing_sound (laws c) s.tables s.key port owed entered lost _ found)

pub returns-clause-down : goal.returns-clause-down
returns-clause-down c = λ s device owed entered olds news lost place found is turn.
    turned_sound s owed owed entered olds news lost place found _ is turn
    (down_sound (laws c) s.tables s.key device owed entered lost _ found)
