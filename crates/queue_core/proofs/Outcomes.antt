-- What leaves in an arrival's step leaves as the outcome says.
use Rattle.std.proofs.Common.{◌≡◌, ◌<◌, ℕ, zero, suc, [], ◌∷◌, get_or}
use Rattle.std.proofs.Common.{Option, Bool, sym, ap, ◌∙◌, arith}
use Rattle.std.specs.Prelude.{Contains}
use Rattle.packet_entry.specs.declared.packet.Card.{Card}
use Rattle.queue_core.specs.declared.event.Reply.{Reply}
use Rattle.queue_core.specs.declared.event.Reply.TheVariants.{Arrived}
use Rattle.queue_core.specs.declared.offers.Outcome.{Outcome}
use Rattle.queue_core.specs.State.{Bound}
use Rattle.queue_core.specs.Step.{Stepped, Way, arrive}
use Rattle.queue_core.specs.Laws.{way_by}
use Rattle.queue_core.specs.Walk.{walk_arrivals}

-- each packet that leaves is the one that arrives, and leaves by the way of this outcome
pub record LeavesSo (card : Card) (s : Stepped) : Type 0 where
  pub so : (o : Outcome) (l : Card × Way) → s.reply ≡ Arrived o → Contains s.left l →
      l ≡ (card, way_by o)

one : (x l : Card × Way) (k : ℕ) → k < 1 → get_or (x ∷ []) k l ≡ l → x ≡ l
one x l zero within at = at
one x l (suc k) within at = absurd (omega (arith, within))

leaves_so_at : (card : Card) (q : Option Bound) (p : Outcome) →
    LeavesSo card (record { state = q; reply = Arrived p; left = (card, way_by p) ∷ [] })
leaves_so_at card q p = record {
  so = λ o l reply left.
      let same : p ≡ o = cc in
      sym (one (card, way_by p) l left.0 left.1 left.2) ∙ ap (λ r. (card, way_by r)) same;
}

waits_so : (card : Card) (q : Option Bound) (reply : Reply) →
    LeavesSo card (record { state = q; reply = reply; left = [] })
waits_so card q reply = record { so = λ o l told left. absurd (omega (arith, left.1)) }

pub leaves_so : (q : Option Bound) (card : Card) (bypass room : Bool) →
    LeavesSo card (arrive q card bypass room)
leaves_so = walk_arrivals (λ card room s. LeavesSo card s) (record {
  leaves = λ q card room o stays timely. leaves_so_at card q o;
  joins = λ b card room early had. waits_so card _ _;
})
