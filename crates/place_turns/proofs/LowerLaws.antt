-- The laws of the crates below on which the proofs of balance stand.
use Rattle.std.proofs.Common.{◌≡◌, ◌≢◌, ℕ, List, [], ◌∷◌, ◌++◌, Option, Bool}
use Rattle.packet_entry.specs.declared.packet.Card.{Card}
use Rattle.nfqa_msgs.specs.declared.request.Request.{Request}
use Rattle.queue_core.specs.declared.event.Event.TheVariants.{Arrive, Ask}
use Rattle.queue_core.specs.State.{Bound}
use Rattle.queue_core.specs.Step.{step}
use Rattle.queue_core.specs.Laws.{times, waiting_in}
use Rattle.histories.specs.declared.entry.Entry.{Entry}
use Rattle.histories.specs.declared.histories.Lost.{Lost}
use Rattle.histories.specs.Happenings.{all_handed}
use Rattle.histories.specs.History.{AreLegal, IsLegal}
use Rattle.histories.specs.Journeys.{Arrival, entering, asks, came, visit_of}
use Rattle.histories.specs.Moves.{move_after}
use Rattle.packet_moves.specs.declared.setting.Setting.{Setting}
use Rattle.packet_moves.specs.HandedOn.{AreInTime, LeavesAlone, WaitInTime, is_out_of_time}
use Rattle.place_rows.specs.Rows.{Known, IsTurnAt}
use Rattle.place_rows.specs.Shares.{IsBalancedBut}

pub record Laws : Type 0 where
  pub enters : (s : Setting) (card : Card) (owed : List Arrival) (entered : List Card)
      (known : List Known) (lost : List Lost) → IsBalancedBut s owed entered known lost →
      IsBalancedBut s (entering s.tables s.key card ++ owed) (entered ++ card ∷ []) known lost
  pub appends : (s : Setting) (owed : List Arrival) (entered : List Card)
      (olds news : List Known) (lost : List Lost) (place : ℕ) (found : List Entry) (e : Entry) →
      IsBalancedBut s (came (move_after found e) ++ owed) entered olds lost →
      IsTurnAt place olds news found (found ++ e ∷ []) →
      IsBalancedBut s (asks s.tables s.key (move_after found e) ++ owed) entered news lost
  pub loses : (s : Setting) (a : Arrival) (owed : List Arrival) (entered : List Card)
      (known : List Known) (lost : List Lost) → a.card.visit ≢ 1 →
      IsBalancedBut s (a ∷ owed) entered known lost →
      IsBalancedBut s owed entered known (lost ++ visit_of a ∷ [])
  pub looks : (s : Setting) (owed : List Arrival) (entered : List Card)
      (olds news : List Known) (lost : List Lost) (place : ℕ) (found : List Entry) →
      IsBalancedBut s owed entered olds lost → IsTurnAt place olds news found found →
      IsBalancedBut s owed entered news lost
  pub arrival : (q : Option Bound) (card : Card) (bypass room : Bool) →
      LeavesAlone card (step q (Arrive card bypass room))
  pub request : (q : Option Bound) (port call : ℕ) (request : Request) →
      times (λ number visit. is_out_of_time visit) (waiting_in q) ≡ 0 →
      AreInTime (all_handed (step q (Ask port call request)).left)
  pub in_time : (es : List Entry) → AreLegal es → WaitInTime es
  pub front : (es more : List Entry) → IsLegal (es ++ more) → IsLegal es
