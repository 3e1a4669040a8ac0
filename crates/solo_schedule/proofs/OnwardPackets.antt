-- What each arrival keeps, packets that move on keep.
use Rattle.std.proofs.Common.{ℕ, zero, suc, List, [], ◌∷◌, Option, Some, None}
use Rattle.packet_entry.specs.declared.packet.Card.{Card}
use Rattle.hook_chain.specs.declared.chain.Decision.{Decision}
use Rattle.hook_chain.specs.declared.chain.Next.{Next}
use Rattle.hook_chain.specs.declared.chain.Next.TheVariants.{Released, To}
use Rattle.hook_chain.specs.Route.{onward_of}
use Rattle.queue_core.specs.Step.{Way}
use Rattle.histories.specs.declared.entry.Entry.{Entry}
use Rattle.histories.specs.Journeys.{Arrival}
use Rattle.packet_moves.specs.declared.setting.Setting.{Setting}
use Rattle.packet_moves.specs.World.{World, Port}
use Rattle.packet_moves.specs.Moving.{Carried, arrival_to, arrived, turned_away, settled, carry}
use Rattle.packet_moves.specs.Moving.{carry_on, goes_on, route_after}
use Rattle.solo_schedule.specs.Numbers.{enough_arrivals}
use Rattle.solo_schedule.specs.Sending.{all_moved}

-- what is known of entries and ports
abbrev pub Known : Type 1
Known = List Entry → (ℕ → Option Port) → Type 0

abbrev pub Of : Known → World → Type 0
Of Q w = Q w.entries w.ports

module _ (s : Setting) (Q : Known)
    (step : (w : World) (a : Arrival) → Of Q w → Of Q (arrived s w a)) where
  goes_keeps : (on : Next → Carried) → ((route : Next) → Of Q (on route).world) → (w : World) →
      (route : Option Next) → Of Q w → Of Q (goes_on on w route).world
  goes_keeps on keeps w None q = q
  goes_keeps on keeps w (Some route) q = keeps route

  settled_keeps : (on : World → Card → Next → Carried) →
      ((w : World) (card : Card) (route : Next) → Of Q w → Of Q (on w card route).world) →
      (w : World) (left : List (Card × Way)) → Of Q w → Of Q (settled on s w left).world
  settled_keeps on keeps w [] q = q
  settled_keeps on keeps w (l ∷ ls) q =
      goes_keeps (on w l.0) (λ route. keeps w l.0 route q) w (route_after s l) q

  pub carry_keeps : (memory : ℕ) (w : World) (card : Card) (route : Next) → Of Q w →
      Of Q (carry memory s w card route).world
  carry_keeps zero w card Released q = q
  carry_keeps zero w card (To queue bypass table) q = q
  carry_keeps (suc memory) w card Released q = q
  carry_keeps (suc memory) w card (To queue bypass table) q =
      let a = arrival_to queue bypass table card in
      settled_keeps (carry memory s) (carry_keeps memory) (arrived s w a) (turned_away s w a)
      (step w a q)

  pub all_moved_keeps : (hs : List (Card × Decision)) (w : World) → Of Q w →
      Of Q (all_moved s hs w)
  all_moved_keeps [] w q = q
  all_moved_keeps (h ∷ hs) w q =
      let on = onward_of s.tables s.key h.0 h.1 in
      all_moved_keeps hs (carry_on enough_arrivals s w h.0 on).world
      (goes_keeps (carry enough_arrivals s w h.0)
      (λ route. carry_keeps enough_arrivals w h.0 route q) w on q)
