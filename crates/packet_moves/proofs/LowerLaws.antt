-- The laws of the crates below on which the proofs here stand.
use Rattle.std.proofs.Common.{◌≡◌, ◌≢◌, ℕ, List, [], ◌∷◌, ◌++◌, Option}
use Rattle.packet_entry.specs.declared.packet.Card.{Card}
use Rattle.hook_chain.specs.Rules.{RuleTables}
use Rattle.queue_core.specs.declared.event.Event.{Event}
use Rattle.queue_core.specs.State.{Bound}
use Rattle.queue_core.specs.Step.{port_closed, device_down}
use Rattle.queue_core.specs.Laws.{IsConserving, AllAreGone}
use Rattle.histories.specs.declared.histories.Lost.{Lost}
use Rattle.histories.specs.declared.entry.Entry.{Entry}
use Rattle.histories.specs.History.{AreLegal, IsStep, replay, history}
use Rattle.histories.specs.Moves.{Move, moves, move_after}
use Rattle.histories.specs.Journeys.{Arrival, IsSoundBut, entering, asks, came, visit_of}

pub record Laws : Type 0 where
  pub conserves : (q : Option Bound) (e : Event) → IsConserving q e
  pub port_gone : (q : Option Bound) → AllAreGone (port_closed q)
  pub device_gone : (q : Option Bound) (device : ℕ) → AllAreGone (device_down q device)
  pub is_move : (es : List Entry) (e : Entry) →
      moves (es ++ e ∷ []) ≡ moves es ++ move_after es e ∷ []
  pub goes_on : (es : List Entry) (e : Entry) → AreLegal es →
      IsStep (replay (history e.queue es)) e → AreLegal (es ++ e ∷ [])
  pub enters : (tables : RuleTables) (key : ℕ) (card : Card) (owed : List Arrival)
      (entered : List Card) (ms : List Move) (lost : List Lost) →
      IsSoundBut tables key owed entered ms lost →
      IsSoundBut tables key (entering tables key card ++ owed) (entered ++ card ∷ []) ms lost
  pub comes : (tables : RuleTables) (key : ℕ) (m : Move) (owed : List Arrival)
      (entered : List Card) (ms : List Move) (lost : List Lost) →
      IsSoundBut tables key (came m ++ owed) entered ms lost →
      IsSoundBut tables key (asks tables key m ++ owed) entered (ms ++ m ∷ []) lost
  pub loses : (tables : RuleTables) (key : ℕ) (a : Arrival) (owed : List Arrival)
      (entered : List Card) (ms : List Move) (lost : List Lost) → a.card.visit ≢ 1 →
      IsSoundBut tables key (a ∷ owed) entered ms lost →
      IsSoundBut tables key owed entered ms (lost ++ visit_of a ∷ [])
