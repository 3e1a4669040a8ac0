-- One step of a packet on its way, and all of them.
use Rattle.std.proofs.Common.{◌≡◌, ◌<◌, ◌+◌, ◌-◌, ℕ, suc, Option, Some, sym, ap, ◌∙◌}
use Rattle.std.proofs.Common.{arith, List}
use Rattle.packet_entry.specs.declared.packet.Card.{Card}
use Rattle.packet_entry.specs.Numbers.{last_visit}
use Rattle.hook_chain.specs.declared.chain.Next.{Next}
use Rattle.packet_moves.specs.declared.fed.Fed.{Fed}
use Rattle.packet_moves.specs.declared.setting.Setting.{Setting}
use Rattle.packet_moves.specs.declared.came.Came.{Came}
use Rattle.packet_moves.specs.declared.came.Came.TheVariants.{Ended, GoesOn}
use Rattle.packet_moves.specs.World.{World}
use Rattle.packet_moves.specs.Moving.{carry}
use Rattle.packet_moves.specs.OnTheWay.{HasVisit, arrivals_left}
use Rattle.solo_plane.specs.OnTheWay.{StepsTo, IsCarried, came_to}

pub nearer : (visit : ℕ) (came : Came) → visit < last_visit → HasVisit (visit + 1) came →
    arrivals_left came < suc (last_visit - visit)
nearer visit (Ended fed) early has = omega arith
nearer visit (GoesOn card route) early has = omega (arith, has)

-- where the packets that were fed stay the same
pub moved_from : (memory : ℕ) (s : Setting) (old new : World) (card : Card) (route : Next)
    (came : Came) → new.fed ≡ old.fed →
    ((memory : ℕ) (cards : List Card) → carry (suc memory) s (record old { fed = cards }) card route
    ≡ came_to (carry memory s) (record new { fed = cards }) came) →
    StepsTo memory s old new card (Some route) came
moved_from memory s old new card route came same moved =
    record {
      from = suc memory;
      steps = moved memory old.fed
          ∙ ap (λ (cards : List Card). came_to (carry memory s) (record new { fed = cards }) came)
          (sym same);
    }

pub carried_on : (s : Setting) (old mid new : World)
    (card : Card) (route : Option Next) (came : Came)
    (fed : Fed) → ((memory : ℕ) → StepsTo memory s old mid card route came) →
    IsCarried s mid came new fed → IsCarried s old (GoesOn card route) new fed
carried_on s old mid new card route came fed steps is =
    let one = steps is.memory in record { memory = one.from; moved = one.steps ∙ is.moved }
