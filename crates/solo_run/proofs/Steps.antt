-- What a closing, a device that goes down and a packet that is fed make of a run.
use Rattle.std.proofs.Common.{◌≡◌, ◌≢◌, ◌<◌, ◌∙◌, ℕ, suc, List, [], ◌∷◌, ◌++◌, length, Option}
use Rattle.std.proofs.Common.{Some, None, false, refl, sym, ap, subst, arith, inl, inr, cond, min}
use Rattle.std.specs.Prelude.{count_by, slice_index_or, option_map}
use Rattle.std.proofs.lemmas.Bool.Decides.{eqb_tells}
use Rattle.std.proofs.lemmas.List.Sums.{sum_by-append}
use Rattle.packet_entry.specs.declared.packet.Card.{Card}
use Rattle.hook_chain.specs.Route.{next}
use Rattle.queue_core.specs.Numbers.{largest_count}
use Rattle.histories.specs.declared.log.Did.{Did}
use Rattle.histories.specs.declared.log.Did.TheVariants.{Closed}
use Rattle.histories.specs.Logs.{is_received}
use Rattle.inspector_script.specs.Scripts.{ScriptValue}
use Rattle.packet_moves.specs.declared.fed.Fed.{Fed}
use Rattle.packet_moves.specs.declared.setting.Setting.{Setting}
use Rattle.packet_moves.specs.World.{World, Port, closed}
use Rattle.packet_moves.specs.Moving.{Carried}
use Rattle.packet_moves.specs.Planes.{IsFed, entered, with_closed, without_device}
use Rattle.packet_moves.specs.Soundness.{IsSound}
use Rattle.solo_schedule.specs.Numbers.{enough_arrivals}
use Rattle.solo_schedule.specs.Schedule.{fed}
use Rattle.solo_run.specs.RunState.{IsGoing, Keeps, KeepsBut, mind_of, mind_at, port_at}
use Rattle.solo_run.specs.declared.inspector.Inspector.{Inspector}
use Rattle.solo_run.proofs.EnoughMemory.{GoesOnInTime, carry_enough}
use Rattle.solo_run.proofs.Minds.{carry_leaves}
use Rattle.solo_run.proofs.RunProgress.{goes_same, goes_at}

-- ---- a port closes

abbrev pub shut : Inspector → Inspector
shut m = record m { is_open = false }

received_so : (dids : List Did) →
    min (count_by is_received (dids ++ Closed ∷ [])) largest_count
    ≡ min (count_by is_received dids) largest_count
received_so dids =
    omega (
      arith,
      sum_by-append (λ (d : Did). cond (is_received d) 1 0) dids (Closed ∷ []),
    )

closed_mind : (place : ℕ) (o : Option Port) →
    mind_of place (option_map closed o) ≡ shut (mind_of place o)
closed_mind place None = refl
closed_mind place (Some p) = rw (received_so p.dids) refl

closed_others : (w : World) (port place p : ℕ) → p ≢ port →
    mind_of place ((with_closed w port).ports p) ≡ mind_of place (w.ports p)
closed_others w port place p other =
    elim (eqb_tells p port) [
      | inl (yes_, same) ↦ absurd (other same)
      | inr (no_, apart) ↦ rw no_ refl
    ]

closed_this : (w : World) (port place : ℕ) →
    mind_of place ((with_closed w port).ports port) ≡ shut (mind_of place (w.ports port))
closed_this w port place =
    elim (eqb_tells port port) [
      | inl (yes_, same) ↦ rw yes_ (closed_mind place (w.ports port))
      | inr (no_, apart) ↦ absurd (apart refl)
    ]

pub closed_keeps : (old new : World) (port : ℕ) → new ≡ with_closed old port →
    KeepsBut port old new
closed_keeps old new port is =
    subst (λ (v : World). KeepsBut port old v) (sym is) (record {
      fed = refl;
      open_ports = λ p other.
          ap (λ (i : Inspector). i.is_open) (closed_others old port 0 p other);
    })

pub closed_goes : (script : ScriptValue) (s : Setting) (old new : World)
    (minds after : List Inspector) (place : ℕ) → place < length script.ports →
    IsGoing script s old minds → new ≡ with_closed old (port_at script place) →
    IsSound s [] new → length after ≡ length minds →
    ((k : ℕ) (d : Inspector) → k ≢ place → slice_index_or after k d ≡ slice_index_or minds k d) →
    ((d : Inspector) → slice_index_or after place d ≡ shut (slice_index_or minds place d)) →
    IsGoing script s new after
closed_goes script s old new minds after place within going is sound many others this =
    let port = port_at script place in
    goes_at script s old new minds after place shut within going
    (ap (λ (v : World). v.lost) is ∙ going.whole) sound many others this
    (λ k p other. ap (λ (v : World). mind_of k (v.ports p)) is ∙ closed_others old port k p other)
    (ap (λ (v : World). mind_at script v place) is ∙ closed_this old port place)

-- ---- a device goes down

pub down_keeps : (old new : World) (device : ℕ) → new ≡ without_device old device → Keeps old new
down_keeps old new device is =
    subst (λ (v : World). Keeps old v) (sym is) (record { fed = refl; open_ports = λ p. refl })

pub down_goes : (script : ScriptValue) (s : Setting) (old new : World) (minds : List Inspector)
    (device : ℕ) → IsGoing script s old minds → new ≡ without_device old device →
    IsSound s [] new → IsGoing script s new minds
down_goes script s old new minds device going is sound =
    goes_same script s old new minds going (ap (λ (v : World). v.lost) is ∙ going.whole) sound
    (λ place p. ap (λ (v : World). mind_of place (v.ports p)) is)

-- ---- a packet is fed

fed_world : GoesOnInTime → (s : Setting) (old : World) (card : Card) (new : World) (f : Fed) →
    card.visit ≡ 0 → IsFed s old card new f → new.lost ≡ [] →
    new ≡ fed s (Some card) old
fed_world laws s old card new f fresh is whole =
    let enough = carry_enough laws (suc is.memory) enough_arrivals s (entered old card) card
    (next s.tables s.key card 1) (omega (arith, fresh)) (omega arith)
    (ap (λ (c : Carried). c.world.lost) is.moved ∙ whole) in
    ap (λ (c : Carried). c.world) (sym is.moved ∙ enough)

fed_cards : (s : Setting) (old : World) (card : Card) (new : World) (f : Fed) →
    IsFed s old card new f → new.fed ≡ old.fed ++ card ∷ []
fed_cards s old card new f is =
    ap (λ (c : Carried). c.world.fed) (sym is.moved)
    ∙ (carry_leaves (suc is.memory) s (entered old card) card (next s.tables s.key card 1)).fed

fed_minds : (s : Setting) (old : World) (card : Card) (new : World) (f : Fed) →
    IsFed s old card new f → (place p : ℕ) →
    mind_of place (new.ports p) ≡ mind_of place (old.ports p)
fed_minds s old card new f is place p =
    ap (λ (c : Carried). mind_of place (c.world.ports p)) (sym is.moved)
    ∙ (carry_leaves (suc is.memory) s (entered old card) card (next s.tables s.key card 1)).minds
    place p

pub record Feeds (s : Setting) (card : Card) (old new : World) : Type 0 where
  pub world : new ≡ fed s (Some card) old
  pub cards : new.fed ≡ old.fed ++ card ∷ []
  pub minds : (place p : ℕ) → mind_of place (new.ports p) ≡ mind_of place (old.ports p)

pub feeds : GoesOnInTime → (s : Setting) (old : World) (card : Card) (new : World) (f : Fed) →
    card.visit ≡ 0 → IsFed s old card new f → new.lost ≡ [] → Feeds s card old new
feeds laws s old card new f fresh is whole = record {
  world = fed_world laws s old card new f fresh is whole;
  cards = fed_cards s old card new f is;
  minds = fed_minds s old card new f is;
}

pub fed_goes : (script : ScriptValue) (s : Setting) (old new : World) (minds : List Inspector)
    (card : Card) → IsGoing script s old minds → Feeds s card old new → new.lost ≡ [] →
    IsSound s [] new → IsGoing script s new minds
fed_goes script s old new minds card going is whole sound =
    goes_same script s old new minds going whole sound is.minds
