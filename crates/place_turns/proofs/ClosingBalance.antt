-- Ports that close leave their pass balanced.
use Rattle.std.proofs.Common.{ℕ, List, [], ◌++◌}
use Rattle.packet_entry.specs.declared.packet.Card.{Card}
use Rattle.histories.specs.declared.entry.Entry.{Entry}
use Rattle.histories.specs.declared.histories.Lost.{Lost}
use Rattle.histories.specs.Happenings.{closings}
use Rattle.histories.specs.Journeys.{Arrival}
use Rattle.packet_moves.specs.declared.setting.Setting.{Setting}
use Rattle.place_rows.specs.Rows.{Known, TurnsOne, IsTurnAt}
use Rattle.place_rows.specs.Shares.{IsBalanced, IsBalancedBut}
use Rattle.place_turns.specs.Passes.{Shuts}

-- what the law of rows says of a turn in which a port closes
abbrev pub ClosedKeeps : Type 0
ClosedKeeps = (s : Setting) (port : ℕ) (owed : List Arrival) (entered : List Card)
    (olds news : List Known) (lost : List Lost) (place : ℕ) (found : List Entry) →
    IsBalancedBut s owed entered olds lost →
    IsTurnAt place olds news found (found ++ closings port found) →
    IsBalancedBut s owed entered news lost

pub closed_one : ClosedKeeps → (s : Setting) (port : ℕ) (entered : List Card) (lost : List Lost)
    (olds news : List Known) (place : ℕ) → TurnsOne place olds news (Shuts port) →
    IsBalanced s entered olds lost → IsBalanced s entered news lost
closed_one keeps s port entered lost olds news place one is =
    let in_ = one.turns.1 in
    keeps s port [] entered olds news lost place in_.found is
    (record {
      one = record {
        before = one.before;
        after = one.after;
        had = one.had;
        has = one.has;
        turns = in_.turn;
      };
      legal = in_.legal;
    })

-- and of one that only looks
abbrev pub LookKeeps : Type 0
LookKeeps = (s : Setting) (owed : List Arrival) (entered : List Card)
    (olds news : List Known) (lost : List Lost) (place : ℕ) (found : List Entry) →
    IsBalancedBut s owed entered olds lost → IsTurnAt place olds news found found →
    IsBalancedBut s owed entered news lost
