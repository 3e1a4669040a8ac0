-- What is left once all places ended: their entries, by queue, which are sound for all that was fed
-- and lost, and what the ports heard of them.
use Rattle.std.specs.Prelude.{◌≡◌, ℕ, List, length}
use Rattle.histories.specs.declared.entry.Entry.{Entry}
use Rattle.histories.specs.Grouping.{IsGrouped}
use Rattle.histories.specs.History.{AreLegal}
use Rattle.histories.specs.Journeys.{AreSound}
use Rattle.packet_moves.specs.declared.setting.Setting.{Setting}
use Rattle.place_rows.specs.declared.ending.PortReceiver.{PortReceiver}
use Rattle.place_rows.specs.Lists.{Every, AllFrom, flat}
use Rattle.place_rows.specs.Ending.{Holder, IsListOf, rows_of, all_fed, all_lost}
use Rattle.place_rows.specs.Hearing.{HasHeardOf}

-- These are all entries of so many places, of which these holders had all passes: there is one list
-- a place, and each entry of it is one holder's own.
pub record AreAllEntries (s : Setting) (places : ℕ) (holders : List Holder)
    (receivers : List PortReceiver) (es : List Entry) : Type 0 where
  pub lists : List (List Entry)
  pub as_many : length lists ≡ places
  pub each : AllFrom (IsListOf places (rows_of holders)) 0 lists
  pub grouped : IsGrouped (flat lists) es
  pub legal : AreLegal es
  pub sound : AreSound s.tables s.key (all_fed holders) es (all_lost holders)
  pub heard : Every (λ (p : PortReceiver). HasHeardOf es (rows_of holders) p.port p.receiver)
      receivers
