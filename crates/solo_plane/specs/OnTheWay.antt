-- How a packet goes on from where it stands, beside what the definitions say.
use Rattle.std.specs.Prelude.{◌≡◌, ℕ, List, Option}
use Rattle.packet_entry.specs.declared.packet.Card.{Card}
use Rattle.hook_chain.specs.declared.chain.Next.{Next}
use Rattle.queue_core.specs.Step.{Way}
use Rattle.packet_moves.specs.declared.came.Came.{Came}
use Rattle.packet_moves.specs.declared.came.Came.TheVariants.{Ended, GoesOn}
use Rattle.packet_moves.specs.declared.fed.Fed.{Fed}
use Rattle.packet_moves.specs.declared.setting.Setting.{Setting}
use Rattle.packet_moves.specs.World.{World}
use Rattle.packet_moves.specs.Moving.{Carried, ending, goes_on, settled, carry}
use Rattle.packet_moves.specs.Moving.{carry_on}

-- how it goes on from there
abbrev pub came_to : (World → Card → Next → Carried) → World → Came → Carried
came_to on w (Ended fed) = ending w fed
came_to on w (GoesOn card route) = goes_on (on w card) w route

-- after an arrival it stands so, by what left the queue at once
abbrev pub CameAs : Setting → World → List (Card × Way) → Came → Type 0
CameAs s w left came =
    (on : World → Card → Next → Carried) → settled on s w left ≡ came_to on w came

-- With memory for so many arrivals from here on, it's as if it had been moved on from where it was
-- before this step, with memory for some.
pub record StepsTo (memory : ℕ) (s : Setting) (old new : World) (card : Card) (route : Option Next)
    (came : Came) : Type 0 where
  pub from : ℕ
  pub steps : carry_on from s old card route ≡ came_to (carry memory s) new came

-- it was moved on from there to its rest or end, with memory for some number of arrivals
pub record IsCarried (s : Setting) (old : World) (came : Came) (new : World) (fed : Fed) : Type 0
  where
    pub memory : ℕ
    pub moved : came_to (carry memory s) old came ≡ ending new fed
