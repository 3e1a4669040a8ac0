-- A plane that closes, with all its passes: there is one order of all that happened.
use Rattle.std.proofs.Common.{◌≡◌, ◌<◌, ◌≤◌, ℕ, List, ◌∷◌, refl, sym, ap, subst, ◌∙◌, arith}
use Rattle.std.proofs.Common.{length, zero, suc, []}
use Rattle.std.specs.Prelude.{map, slice_get, Some, None, option_map}
use Rattle.histories.specs.declared.entry.Entry.{Entry}
use Rattle.histories.specs.declared.histories.Histories.{Histories}
use Rattle.histories.specs.History.{history}
use Rattle.histories.specs.Places.{place_for}
use Rattle.total_order.specs.Orders.{EachIs, untimed}
use Rattle.total_order.specs.Places.{AreTimedLists, Lists}
use Rattle.total_order.specs.Steps.{log_of}
use Rattle.total_order.specs.TotalOrder.{HasTotalOrder}
use Rattle.place_rows.specs.declared.ending.PortReceiver.{PortReceiver}
use Rattle.place_rows.specs.Lists.{AllFrom, Every}
use Rattle.place_rows.specs.Rows.{TimedKnown, known_of, Known, id_of}
use Rattle.place_rows.specs.Timed.{AreTimedEntries, IsPostedIn, IsTimedListOf}
use Rattle.place_turns.specs.Timely.{AreTimely, feeder}
use Rattle.plane.specs.declared.plane.Plane.{Plane}
use Rattle.plane.specs.Closings.{log_among, receiver_of}
use Rattle.plane.specs.Passes.{FeederView, IsFeederOf, IsPortOf, PortView}
use Rattle.plane.specs.Planes.{order_of, places_of}
use Rattle.plane.specs.Remaining.{AreTimelyIn, TimelyPass, port_in, row_in, times_in, holder_of}
use Rattle.plane.proofs.KnownEvents.{steps_of}
use Rattle.plane.proofs.OrderAtClose.{Held, all_timed, at, AreApart}
use Rattle.std.proofs.lemmas.List.{length-map}
use Rattle.std.proofs.lemmas.Option.{slice_get-map}
use Rattle.turn_lock.specs.Places.{Ascends}
use Rattle.turn_lock.specs.Views.{HasSeenOwn}
use Rattle.histories.specs.declared.log.PortLog.{PortLog}
use Rattle.locked_place.specs.Times.{plain_view}
use Rattle.place_turns.specs.Passes.{AreOf}
use Rattle.plane.proofs.RowSplits.{some_same}
use Rattle.plane.proofs.PortLogs.{all_logged, one_place}
use Rattle.plane.proofs.OrderAtClose as all

-- ---- rows of passes

-- a row has a pass for each place
row_long : (plane : Plane) (row : List TimedKnown) (t : PortView) → known_of row ≡ t.trail.known →
    AreOf plane.shared t.locks t.trail.known → length row ≡ places_of plane
row_long plane row t same is =
    sym (length-map row plain_view) ∙ ap length same ∙ is.as_many ∙ ap length is.locks_are
    ∙ length-map plane.shared.locks.items id_of ∙ plane.shared.sized

-- and has seen its own
row_placed : (row : List TimedKnown) (known : List Known) → known_of row ≡ known →
    ((k : ℕ) (v : Known) → slice_get known k ≡ Some v → HasSeenOwn v) → (k : ℕ) (v : TimedKnown) →
    slice_get row k ≡ Some v → HasSeenOwn v
row_placed row known same placed k v there =
    subst (λ n. Ascends 0 n v.own) (length-map v.seen (λ x. x.0))
    (placed k (plain_view v)
    (ap (λ (l : List Known). slice_get l k) (sym same) ∙ slice_get-map plain_view row k
    ∙ ap (option_map plain_view) there))

-- who feeds is no port
no_port : (port : ℕ) → feeder.port ≡ Some port → ⊥
no_port port is = absurd (cc is)

module _ (plane : Plane) (lists : List (List (Entry × ℕ))) (logs : List PortLog)
    (many : length lists ≡ places_of plane) where
  -- the row of who feeds
  abbrev held_feeder : (p : FeederView) (row : List TimedKnown) (clock : ℕ) → IsFeederOf plane p →
      known_of row ≡ p.trail.known → AreTimely clock row feeder → Held lists logs
  held_feeder p row clock is same timely = record {
    row = row;
    as_many = sym (length-map row plain_view) ∙ ap length same ∙ is.of.as_many
        ∙ ap length is.of.locks_are ∙ length-map plane.shared.locks.items id_of
        ∙ plane.shared.sized ∙ sym many;
    placed = row_placed row p.trail.known same is.balanced.placed;
    clock = clock;
    holder = feeder;
    timely = timely;
    heard = tt;
    logged = λ port is. absurd (no_port port is);
  }

  -- the row of a port
  held_port : (t : TimelyPass) → IsPortOf plane t.port →
      EachIs (IsPostedIn lists) t.port.receiver.received → log_of t.port.port logs ≡ t.port.dids →
      Held lists logs
  held_port t is posted logged = record {
    row = t.row;
    as_many = row_long plane t.row t.port t.same is.of ∙ sym many;
    placed = row_placed t.row t.port.trail.known t.same is.balanced.placed;
    clock = t.clock;
    holder = holder_of t.port;
    timely = t.timely;
    heard = posted;
    logged = λ port same.
        ap (λ p. log_of p logs) (sym (some_same t.port.port port same)) ∙ logged;
  }

  -- and of several
  held_ports : (ts : List TimelyPass) → Every (IsPortOf plane) (map port_in ts) →
      Every (λ (p : PortReceiver). EachIs (IsPostedIn lists) p.receiver.received)
      (map receiver_of (map port_in ts)) →
      Every (λ (p : PortView). log_of p.port logs ≡ p.dids) (map port_in ts) →
      List (Held lists logs)
  held_ports [] is posted logged = []
  held_ports (t ∷ ts) is posted logged =
      held_port t is.0 posted.0 logged.0 ∷ held_ports ts is.1 posted.1 logged.1

  -- their rows are those of the passes
  rows_held : (ts : List TimelyPass) (is : Every (IsPortOf plane) (map port_in ts))
      (posted : Every (λ (p : PortReceiver). EachIs (IsPostedIn lists) p.receiver.received)
      (map receiver_of (map port_in ts)))
      (logged : Every (λ (p : PortView). log_of p.port logs ≡ p.dids) (map port_in ts)) →
      map (all.row_in lists logs) (held_ports ts is posted logged) ≡ map row_in ts
  unfolding held_ports held_port
  rows_held [] is posted logged = refl
  rows_held (t ∷ ts) is posted logged =
      ap (λ (l : List (List TimedKnown)). t.row ∷ l) (rows_held ts is.1 posted.1 logged.1)

  -- each is of the port with its number
  held_at : (ts : List TimelyPass) (is : Every (IsPortOf plane) (map port_in ts))
      (posted : Every (λ (p : PortReceiver). EachIs (IsPostedIn lists) p.receiver.received)
      (map receiver_of (map port_in ts)))
      (logged : Every (λ (p : PortView). log_of p.port logs ≡ p.dids) (map port_in ts)) →
      (n port : ℕ) (x : Held lists logs) → slice_get (held_ports ts is posted logged) n ≡ Some x →
      x.holder.port ≡ Some port →
      (p : PortView) × (slice_get (map port_in ts) n ≡ Some p) × (p.port ≡ port)
  unfolding held_ports held_port
  held_at [] is posted logged n port x there its = absurd (cc there)
  held_at (t ∷ ts) is posted logged zero port x there its = (
    t.port,
    refl,
    some_same t.port.port port
        (ap (λ (h : Held lists logs). h.holder.port)
        (some_same (held_port t is.0 posted.0 logged.0) x there) ∙ its),
  )
  held_at (t ∷ ts) is posted logged (suc n) port x there its =
      held_at ts is.1 posted.1 logged.1 n port x there its

  -- no two rows are of one port
  rows_apart : (first : Held lists logs) (ts : List TimelyPass)
      (is : Every (IsPortOf plane) (map port_in ts))
      (posted : Every (λ (p : PortReceiver). EachIs (IsPostedIn lists) p.receiver.received)
      (map receiver_of (map port_in ts)))
      (logged : Every (λ (p : PortView). log_of p.port logs ≡ p.dids) (map port_in ts)) →
      first.holder.port ≡ None → ((port : ℕ) → times_in port (map port_in ts) ≤ 1) →
      AreApart lists logs (first ∷ held_ports ts is posted logged)
  rows_apart first ts is posted logged none once zero m port x y there here its also =
      absurd (cc (none, there, its))
  rows_apart first ts is posted logged none once (suc n) zero port x y there here its also =
      absurd (cc (none, here, also))
  rows_apart first ts is posted logged none once (suc n) (suc m) port x y there here its also =
      let one = held_at ts is posted logged n port x there its in
      let two = held_at ts is posted logged m port y here also in
      ap suc (one_place (map port_in ts) once n m one.0 two.0 one.1 two.1 (one.2 ∙ sym two.2))

-- ---- one order

-- what the law says of lists with times
abbrev pub Orders : Type 0
Orders = (places : ℕ) (lists : Lists) (h : Histories) → AreTimedLists places lists h →
    HasTotalOrder h

module _ (plane : Plane) (p : FeederView) (row : List TimedKnown) (clock : ℕ)
    (feeds : IsFeederOf plane p) (known : known_of row ≡ p.trail.known)
    (timely : AreTimely clock row feeder) where
  -- of passes with their rows
  passes_order : Orders → (ts : List TimelyPass) (receivers : List PortReceiver)
      (h : Histories) → Every (IsPortOf plane) (map port_in ts) →
      ((port : ℕ) → times_in port (map port_in ts) ≤ 1) →
      receivers ≡ map receiver_of (map port_in ts) →
      AreTimedEntries (places_of plane) (row ∷ map row_in ts) receivers h.entries →
      h.logs ≡ map (log_among (map port_in ts)) (order_of plane) → HasTotalOrder h
  passes_order orders ts receivers h is once heard all_entries logs =
      orders (length lists) (steps_of lists (at lists h.logs helds each)) h
      (all_timed lists h.logs helds each
      (rows_apart plane lists h.logs many first ts is posted logged refl once) h refl some same)
    where
      lists : List (List (Entry × ℕ))
      lists = all_entries.lists

      many : length lists ≡ places_of plane
      many = all_entries.as_many

      posted : Every (λ (r : PortReceiver). EachIs (IsPostedIn lists) r.receiver.received)
          (map receiver_of (map port_in ts))
      posted = subst (Every (λ (r : PortReceiver). EachIs (IsPostedIn lists) r.receiver.received))
          heard all_entries.posted

      logged : Every (λ (q : PortView). log_of q.port h.logs ≡ q.dids) (map port_in ts)
      logged = all_logged plane (map port_in ts) h.logs logs is once

      first : Held lists h.logs
      first = held_feeder plane lists h.logs many p row clock feeds known timely

      helds : List (Held lists h.logs)
      helds = first ∷ held_ports plane lists h.logs many ts is posted logged

      each : AllFrom (IsTimedListOf (length lists) (map (all.row_in lists h.logs) helds)) 0 lists
      each = subst (λ n. AllFrom (IsTimedListOf n (map (all.row_in lists h.logs) helds)) 0 lists)
          (sym many)
          (subst (λ (rows : List (List TimedKnown)). AllFrom (IsTimedListOf (places_of plane) rows)
          0 lists)
          (ap (λ (rows : List (List TimedKnown)). row ∷ rows)
          (sym (rows_held plane lists h.logs many ts is posted logged)))
          all_entries.each)

      some : 0 < length lists
      some =
          let places = plane.shared.some in
          let sized = plane.shared.sized in
          omega (arith, places, sized, many)

      same : (queue : ℕ) (list : List (Entry × ℕ)) →
          slice_get lists (place_for queue (length lists)) ≡ Some list →
          history queue h.entries ≡ history queue (untimed list)
      same queue list there =
          all_entries.same queue list
          (subst (λ n. slice_get lists (place_for queue n) ≡ Some list) many there)

-- of the passes that were joined into a row
pub closed_order : (plane : Plane) (p : FeederView) → IsFeederOf plane p → Orders →
    (ps : List PortView) (last : List TimedKnown) (receivers : List PortReceiver)
    (h : Histories) → (t : AreTimelyIn p ps last) → Every (IsPortOf plane) ps →
    ((port : ℕ) → times_in port ps ≤ 1) → receivers ≡ map receiver_of ps →
    AreTimedEntries (places_of plane) (t.first ∷ map row_in t.passes) receivers h.entries →
    h.logs ≡ map (log_among ps) (order_of plane) → HasTotalOrder h
closed_order plane p feeds orders ps last receivers h t is once heard all_entries logs =
    passes_order plane p t.first t.clock feeds t.same t.timely orders t.passes receivers h
    (subst (Every (IsPortOf plane)) (sym t.are) is)
    (subst (λ (l : List PortView). (port : ℕ) → times_in port l ≤ 1) (sym t.are) once)
    (heard ∙ ap (map receiver_of) (sym t.are)) all_entries
    (logs ∙ ap (λ (l : List PortView). map (log_among l) (order_of plane)) (sym t.are))
