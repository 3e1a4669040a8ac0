-- Where a packet stands on its way, as the code has it, beside what the turns of a pass say.
use Rattle.std.specs.Prelude.{◌≡◌, ◌<◌, ℕ, suc, List, Some}
use Rattle.packet_entry.specs.declared.packet.Card.{Card}
use Rattle.packet_entry.specs.Numbers.{last_visit}
use Rattle.hook_chain.specs.declared.chain.Next.{Next}
use Rattle.hook_chain.specs.declared.chain.Next.TheVariants.{Released, To}
use Rattle.queue_core.specs.Laws.{way_by}
use Rattle.queue_core.specs.Step.{Open}
use Rattle.histories.specs.declared.histories.Lost.{Lost}
use Rattle.histories.specs.Places.{place_for}
use Rattle.packet_moves.specs.declared.fed.Fed.{Fed}
use Rattle.packet_moves.specs.declared.fed.Fed.TheVariants as fed
use Rattle.packet_moves.specs.declared.setting.Setting.{Setting}
use Rattle.packet_moves.specs.declared.came.Came.{Came}
use Rattle.packet_moves.specs.declared.came.Came.TheVariants.{Ended, GoesOn}
use Rattle.packet_moves.specs.OnTheWay.{IsTurned}
use Rattle.locked_place.specs.declared.arrivals.Placed.{Placed}
use Rattle.locked_place.specs.declared.arrivals.Placed.TheVariants as placed
use Rattle.locked_place.specs.Turns.{LooksOn}
use Rattle.place_rows.specs.Rows.{Known, TurnsOne}
use Rattle.place_turns.specs.Trails.{Trail}
use Rattle.place_turns.specs.Moving.{Goes, Carries}

-- how it goes on from there
abbrev pub CameTo : Goes → Trail → Came → Trail → Fed → Type 0
CameTo on t (Ended ended) u f = (u ≡ t) × (f ≡ ended)
CameTo on t (GoesOn card route) u f = on t card route u f

-- where it stands after its arrival
abbrev pub StandsAs : Setting → Placed → Came → Type 0
StandsAs s (placed.Waiting port) came = came ≡ Ended fed.Waiting
StandsAs s (placed.Back outcome card) came = IsTurned s card (way_by outcome) came

-- it goes on from the queue only before its last visit
abbrev pub GoesInTime : Placed → Type 0
GoesInTime (placed.Waiting port) = Unit {0}
GoesInTime (placed.Back outcome card) = way_by outcome ≡ Open → card.visit < last_visit

-- where it comes back it has this visit
abbrev pub ComesWith : ℕ → Placed → Type 0
ComesWith visit (placed.Waiting port) = Unit {0}
ComesWith visit (placed.Back outcome card) = card.visit ≡ visit

abbrev pub trail : List Known → List Lost → Trail
trail known lost = record { known = known; lost = lost }

-- With memory for so many arrivals from here on, it's as if it had been moved on from where it was
-- before this step, with memory for one more, whatever was lost before.
abbrev pub IsMoved : ℕ → Setting → List Known → List Known → Card → Next → Came → Type 0
IsMoved places s olds news card route came =
    (memory : ℕ) (lost : List Lost) (u : Trail) (f : Fed) →
    CameTo (Carries memory places s) (trail news lost) came u f →
    Carries (suc memory) places s (trail olds lost) card (Some route) u f

-- it found no memory for an arrival by this route
abbrev pub LooksFor : ℕ → List Known → List Known → Next → Type 0
LooksFor places olds news Released = ⊥
LooksFor places olds news (To queue bypass table) = TurnsOne (place_for queue places) olds news
    LooksOn

-- it was moved on to its rest or its end
pub record IsCarried (places : ℕ) (s : Setting) (old : Trail) (came : Came) (new : Trail) (f : Fed)
    : Type 0 where
  pub memory : ℕ
  pub moved : CameTo (Carries memory places s) old came new f

-- wherever it is moved on to from there, it was so from where it stood before
abbrev pub StepsTo : ℕ → Setting → Trail → Came → Trail → Came → Type 0
StepsTo places s old before new after =
    (memory : ℕ) (u : Trail) (f : Fed) → CameTo (Carries memory places s) new after u f →
    IsCarried places s old before u f
