-- Devices that go down leave their pass balanced.
use Rattle.std.proofs.Common.{ℕ, List, [], ◌++◌, inr, refl}
use Rattle.std.specs.Prelude.{Result, Ok, Err, IfOk, OnErr}
use Rattle.packet_entry.specs.declared.packet.Card.{Card}
use Rattle.packet_entry.specs.declared.no_memory.NoMemory.{NoMemory}
use Rattle.histories.specs.declared.entry.Entry.{Entry}
use Rattle.histories.specs.declared.histories.Lost.{Lost}
use Rattle.histories.specs.Happenings.{downs}
use Rattle.histories.specs.Journeys.{Arrival}
use Rattle.packet_moves.specs.declared.setting.Setting.{Setting}
use Rattle.locked_place.specs.Turns.{GoesDownIn, LooksOn}
use Rattle.place_rows.specs.Rows.{Known, TurnsOne, IsTurnAt}
use Rattle.place_rows.specs.Shares.{IsBalanced, IsBalancedBut}
use Rattle.place_turns.specs.Trails.{Trail}
use Rattle.plane.proofs.CallBalance.{LooksKeep}

-- what the law of rows says of a turn in which a device goes down
abbrev pub DownKeeps : Type 0
DownKeeps = (s : Setting) (device : ℕ) (owed : List Arrival) (entered : List Card)
    (olds news : List Known) (lost : List Lost) (place : ℕ) (found : List Entry) →
    IsBalancedBut s owed entered olds lost →
    IsTurnAt place olds news found (found ++ downs device found) →
    IsBalancedBut s owed entered news lost

pub down_one : DownKeeps → LooksKeep → (s : Setting) (device : ℕ) (entered : List Card)
    (lost : List Lost) (olds news : List Known) (place : ℕ) (r : Result ℕ NoMemory) →
    IfOk r (λ count. TurnsOne place olds news (λ v w. GoesDownIn device v w count)) →
    OnErr r (TurnsOne place olds news LooksOn) →
    IsBalanced s entered olds lost → IsBalanced s entered news lost
down_one keeps looks s device entered lost olds news place (Ok count) one looked is =
    keeps s device [] entered olds news lost place one.turns.found is
    (record {
      one = record {
        before = one.before;
        after = one.after;
        had = one.had;
        has = one.has;
        turns = one.turns.turn;
      };
      legal = one.turns.legal;
    })
down_one keeps looks s device entered lost olds news place (Err e) one looked is =
    let old : Trail = record { known = olds; lost = lost } in
    let new : Trail = record { known = news; lost = lost } in
    looks s entered old new (inr (refl, (place, looked))) is
