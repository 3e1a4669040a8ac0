-- What holds of each line's outcome holds of the step: the tables of Step, gone through once. A
-- proof that something holds of every step is a record of leaves, one for each line (`Lines`) or
-- one for each shape of an outcome (`Shapes`).
use Rattle.std.proofs.Common.{ap, subst}
use Rattle.std.specs.Prelude.{◌≡◌, refl, ℕ, List, [], ◌∷◌, Option, Some, None, Bool, true, false}
use Rattle.std.specs.Prelude.{take, length, cond, ◌||◌, ◌&&◌, ◌==◌, not, is_some, is_none}
use Rattle.packet_entry.specs.declared.packet.Card.{Card}
use Rattle.packet_entry.specs.Numbers.{last_visit}
use Rattle.nfqa_headers.specs.declared.verdict_header.Head.{Head}
use Rattle.nfqa_msgs.specs.declared.request.Request.{Request}
use Rattle.nfqa_msgs.specs.declared.request.Request.TheVariants as request
use Rattle.nfqa_msgs.specs.Numbers.{copy_none, command_bind}
use Rattle.nfqa_msgs.specs.Numbers.{command_unbind, command_pf_bind, command_pf_unbind}
use Rattle.nfqa_msgs.specs.Numbers.{input_device, output_device}
use Rattle.queue_core.specs.declared.offers.Outcome.{Outcome}
use Rattle.queue_core.specs.declared.offers.Outcome.TheVariants as outcome
use Rattle.queue_core.specs.declared.event.Event.{Event}
use Rattle.queue_core.specs.declared.event.Event.TheVariants as event
use Rattle.queue_core.specs.declared.event.Reply.TheVariants as reply
use Rattle.queue_core.specs.Ids.{after}
use Rattle.queue_core.specs.Decision.{Edit, is_verdict}
use Rattle.queue_core.specs.declared.settings.Settings.{Settings}
use Rattle.queue_core.specs.State.{Bound, bound_to, fails_open, settings_of, settings_after}
use Rattle.queue_core.specs.State.{with_settings}
use Rattle.queue_core.specs.Share.{share}
use Rattle.queue_core.specs.Step.{Stepped, Way, Gone, Open, Decided, gone, goes_on, waits, next_id}
use Rattle.queue_core.specs.Step.{with_last}
use Rattle.queue_core.specs.Step.{one_more, one_dropped, one_user_dropped, is_full, arrive_bound}
use Rattle.queue_core.specs.Step.{arrive_in_time, unchanged, ConfigAsk, config, is_command}
use Rattle.queue_core.specs.Step.{has_unknown_flags, has_refused_flags, ended, set_up}
use Rattle.queue_core.specs.Step.{verdict, verdict_under, carried_out, card_under}
use Rattle.queue_core.specs.Step.{batch, batch_under, shared_out, untouched, flushed}
use Rattle.queue_core.specs.Step.{port_closed, arrive, step}
use Rattle.queue_core.specs.Laws.{stays_in, way_by}

-- What may be known of a step: of the queue before it, the event, and what the step gives. Its
-- premises are part of it, as in `P q e s = Holds q → Holds s.state`.
abbrev pub Known : Type 1
Known = Option Bound → Event → Stepped → Type 0

-- the requests of a port, by their parts
abbrev pub asks_config : ℕ → ℕ → ℕ → ConfigAsk → Event
asks_config port call queue a =
    event.Ask port call (request.Config queue a.command a.params a.maximum a.flags a.mask)

abbrev pub asks_verdict : ℕ → ℕ → ℕ → Option Head → Edit → Event
asks_verdict port call queue head edit =
    event.Ask port call (request.Verdict queue head edit.mark edit.payload edit.priority)

abbrev pub asks_batch : ℕ → ℕ → ℕ → Option Head → Option ℕ → Option ℕ → Event
asks_batch port call queue head mark priority =
    event.Ask port call (request.Batch queue head mark priority)

-- the queue is the port's own: what is asked isn't refused with EPERM
abbrev pub IsOwn : Bound → ℕ → Type 0
IsOwn b port = not (b.port == port) ≡ false

-- it isn't the packet's 33rd visit
abbrev pub IsInTime : Card → Type 0
IsInTime card = (card.visit == last_visit) ≡ false

-- the port's mailbox has room
abbrev pub HasRoom : Bool → Type 0
HasRoom room = not room ≡ false

-- ---- by lines

pub record Lines (P : Known) : Type 0 where
  -- arrivals, line by line
  pub loop : (q : Option Bound) (card : Card) (bypass room : Bool) →
      P q (event.Arrive card bypass room) (gone q outcome.Loop card)
  pub no_queue : (card : Card) (room : Bool) → IsInTime card →
      P None (event.Arrive card false room) (gone None outcome.NoQueue card)
  pub bypassed : (card : Card) (room : Bool) → IsInTime card →
      P None (event.Arrive card true room) (goes_on None outcome.Bypassed card)
  pub no_copy : (b : Bound) (card : Card) (bypass room : Bool) → IsInTime card →
      P (Some b) (event.Arrive card bypass room) (gone (Some b) outcome.CopyNone card)
  pub overflow_open : (b : Bound) (card : Card) (bypass room : Bool) → IsInTime card →
      P (Some b) (event.Arrive card bypass room) (goes_on (Some b) outcome.OverflowOpen card)
  pub overflow : (b : Bound) (card : Card) (bypass room : Bool) → IsInTime card →
      P (Some b) (event.Arrive card bypass room)
      (gone (Some (one_dropped b)) outcome.Overflow card)
  pub user_full_open : (b : Bound) (card : Card) (bypass room : Bool) → IsInTime card →
      P (Some b) (event.Arrive card bypass room)
      (goes_on (Some (with_last b (next_id b))) (outcome.UserFullOpen (next_id b)) card)
  pub user_full : (b : Bound) (card : Card) (bypass room : Bool) → IsInTime card →
      P (Some b) (event.Arrive card bypass room)
      (gone (Some (one_user_dropped b (next_id b))) (outcome.UserFull (next_id b)) card)
  pub joins : (b : Bound) (card : Card) (bypass room : Bool) → IsInTime card → HasRoom room →
      P (Some b) (event.Arrive card bypass room) (waits b (next_id b) card)
  -- any request that changes nothing, by whichever line
  pub answered : (q : Option Bound) (port call : ℕ) (asked : Request) (errno : ℕ) →
      P q (event.Ask port call asked) (unchanged q errno)
  -- config requests, line 8 and line 11 with BIND and without
  pub ends : (b : Bound) (port call queue : ℕ) (a : ConfigAsk) → IsOwn b port →
      P (Some b) (asks_config port call queue a) (ended b)
  pub binds : (port call queue : ℕ) (a : ConfigAsk) →
      P None (asks_config port call queue a) (set_up (bound_to port) a)
  pub sets_up : (b : Bound) (port call queue : ℕ) (a : ConfigAsk) → IsOwn b port →
      P (Some b) (asks_config port call queue a) (set_up b a)
  -- a verdict on what waits under its id, and a batch on its share
  pub decides : (b : Bound) (port call queue : ℕ) (head : Head) (edit : Edit) (card : Card) →
      IsOwn b port → card_under b head.id ≡ Some card →
      P (Some b) (asks_verdict port call queue (Some head) edit)
      (carried_out b head edit (Some card))
  pub shares : (b : Bound) (port call queue : ℕ) (head : Head) (mark priority : Option ℕ)
      (w : ℕ × Card) (ws : List (ℕ × Card)) → IsOwn b port →
      share b.waiting head.id ≡ w ∷ ws →
      P (Some b) (asks_batch port call queue (Some head) mark priority)
      (shared_out b head mark priority (w ∷ ws))
  -- a port that is closed, and a device that goes down
  pub none_closed : (port : ℕ) → P None (event.PortClosed port) (untouched None)
  pub closes : (b : Bound) (port : ℕ) →
      P (Some b) (event.PortClosed port) (port_closed (Some b))
  pub none_down : (q : Option Bound) (device : ℕ) →
      P q (event.DeviceDown device) (untouched q)
  pub flushes : (b : Bound) (device : ℕ) → P (Some b) (event.DeviceDown device) (flushed b)

-- One test of a table: what holds of its line where the test passes, and of the lines after it
-- where it doesn't, holds of the table.
pub either : {X : Type 0} (P : X → Type 0) (b : Bool) (s t : X) → (b ≡ true → P s) →
    (b ≡ false → P t) → P (cond b s t)
either P true s t h k = h refl
either P false s t h k = k refl

-- a share stands first among those that wait
share_first : (ws : List (ℕ × Card)) (maximum : ℕ) →
    take (length (share ws maximum)) ws ≡ share ws maximum
share_first [] maximum = refl
share_first (w ∷ ws) maximum =
    either (λ vs. take (length vs) (w ∷ ws) ≡ vs) (after w.0 maximum) [] (w ∷ share ws maximum)
    (λ is. refl) (λ no. ap (λ vs. w ∷ vs) (share_first ws maximum))

pub stands_first : (ws vs : List (ℕ × Card)) (maximum : ℕ) → share ws maximum ≡ vs →
    take (length vs) ws ≡ vs
stands_first ws vs maximum is =
    subst (λ us. take (length us) ws ≡ us) is (share_first ws maximum)

module _ (P : Known) (lines : Lines P) where
  arrives : (b : Bound) (card : Card) (bypass room : Bool) → IsInTime card →
      P (Some b) (event.Arrive card bypass room) (arrive_bound b card room)
  arrives b card bypass room early =
      let Q : Stepped → Type 0 = λ s. P (Some b) (event.Arrive card bypass room) s in
      either Q (b.mode == copy_none) _ _ (λ is. lines.no_copy b card bypass room early)
      (λ no. either Q (is_full b && fails_open b) _ _
      (λ is. lines.overflow_open b card bypass room early)
      (λ no. either Q (is_full b) _ _ (λ is. lines.overflow b card bypass room early)
      (λ no. either Q (not room && fails_open b) _ _
      (λ is. lines.user_full_open b card bypass room early)
      (λ no. either Q (not room) _ _ (λ is. lines.user_full b card bypass room early)
      (λ had. lines.joins b card bypass room early had)))))

  arrives_in_time : (q : Option Bound) (card : Card) (bypass room : Bool) → IsInTime card →
      P q (event.Arrive card bypass room) (arrive_in_time q card bypass room)
  arrives_in_time None card false room early = lines.no_queue card room early
  arrives_in_time None card true room early = lines.bypassed card room early
  arrives_in_time (Some b) card bypass room early = arrives b card bypass room early

  configures : (q : Option Bound) (port call queue : ℕ) (a : ConfigAsk) →
      P q (asks_config port call queue a) (config q port a)
  configures None port call queue a =
      let Q : Stepped → Type 0 = λ s. P None (asks_config port call queue a) s in
      let answered = λ (errno : ℕ). lines.answered None port call
      (request.Config queue a.command a.params a.maximum a.flags a.mask) errno in
      either Q (is_command command_pf_bind a.command || is_command command_pf_unbind a.command) _ _
      (λ is. answered _)
      (λ no. either Q (is_some a.flags && is_none a.mask) _ _ (λ is. answered _)
      (λ no. either Q (has_unknown_flags a.flags) _ _ (λ is. answered _)
      (λ no. either Q (has_refused_flags a.flags a.mask) _ _ (λ is. answered _)
      (λ no. either Q (is_command command_bind a.command && false) _ _ (λ is. answered _)
      (λ no. either Q (is_command command_unbind a.command) _ _ (λ is. answered _)
      (λ no. either Q (is_some a.command && not (is_command command_bind a.command)) _ _
      (λ is. answered _)
      (λ no. either Q (is_none a.command && true) _ _ (λ is. answered _)
      (λ no. lines.binds port call queue a))))))))
  configures (Some b) port call queue a =
      let Q : Stepped → Type 0 = λ s. P (Some b) (asks_config port call queue a) s in
      let answered = λ (errno : ℕ). lines.answered (Some b) port call
      (request.Config queue a.command a.params a.maximum a.flags a.mask) errno in
      either Q (is_command command_pf_bind a.command || is_command command_pf_unbind a.command) _ _
      (λ is. answered _)
      (λ no. either Q (is_some a.flags && is_none a.mask) _ _ (λ is. answered _)
      (λ no. either Q (has_unknown_flags a.flags) _ _ (λ is. answered _)
      (λ no. either Q (has_refused_flags a.flags a.mask) _ _ (λ is. answered _)
      (λ no. either Q (not (b.port == port)) _ _ (λ is. answered _)
      (λ own. either Q (is_command command_bind a.command && true) _ _ (λ is. answered _)
      (λ no. either Q (is_command command_unbind a.command) _ _
      (λ is. lines.ends b port call queue a own)
      (λ no. either Q (is_some a.command && not (is_command command_bind a.command)) _ _
      (λ is. answered _)
      (λ no. either Q (is_none a.command && false) _ _ (λ is. answered _)
      (λ no. lines.sets_up b port call queue a own)))))))))

  decides_on : (b : Bound) (port call queue : ℕ) (head : Head) (edit : Edit) → IsOwn b port →
      (o : Option Card) → card_under b head.id ≡ o →
      P (Some b) (asks_verdict port call queue (Some head) edit) (carried_out b head edit o)
  decides_on b port call queue head edit own None found =
      lines.answered (Some b) port call
      (request.Verdict queue (Some head) edit.mark edit.payload edit.priority) _
  decides_on b port call queue head edit own (Some card) found =
      lines.decides b port call queue head edit card own found

  rules : (q : Option Bound) (port call queue : ℕ) (head : Option Head) (edit : Edit) →
      P q (asks_verdict port call queue head edit) (verdict q port head edit)
  rules None port call queue head edit =
      lines.answered None port call
      (request.Verdict queue head edit.mark edit.payload edit.priority) _
  rules (Some b) port call queue None edit =
      lines.answered (Some b) port call
      (request.Verdict queue None edit.mark edit.payload edit.priority) _
  rules (Some b) port call queue (Some head) edit =
      let answered = λ (errno : ℕ). lines.answered (Some b) port call
      (request.Verdict queue (Some head) edit.mark edit.payload edit.priority) errno in
      either
      (λ r. P (Some b) (asks_verdict port call queue (Some head) edit)
      (verdict_under r (Some b) edit))
      (not (b.port == port)) _ _ (λ is. answered _)
      (λ own. either
      (λ r. P (Some b) (asks_verdict port call queue (Some head) edit)
      (verdict_under r (Some b) edit))
      (not (is_verdict head.verdict)) _ _ (λ is. answered _)
      (λ no. decides_on b port call queue head edit own (card_under b head.id) refl))

  shares_on : (b : Bound) (port call queue : ℕ) (head : Head) (mark priority : Option ℕ) →
      IsOwn b port → (ws : List (ℕ × Card)) → share b.waiting head.id ≡ ws →
      P (Some b) (asks_batch port call queue (Some head) mark priority)
      (shared_out b head mark priority ws)
  shares_on b port call queue head mark priority own [] is =
      lines.answered (Some b) port call (request.Batch queue (Some head) mark priority) _
  shares_on b port call queue head mark priority own (w ∷ ws) is =
      lines.shares b port call queue head mark priority w ws own is

  batches : (q : Option Bound) (port call queue : ℕ) (head : Option Head)
      (mark priority : Option ℕ) →
      P q (asks_batch port call queue head mark priority) (batch q port head mark priority)
  batches None port call queue head mark priority =
      lines.answered None port call (request.Batch queue head mark priority) _
  batches (Some b) port call queue None mark priority =
      lines.answered (Some b) port call (request.Batch queue None mark priority) _
  batches (Some b) port call queue (Some head) mark priority =
      let answered = λ (errno : ℕ). lines.answered (Some b) port call
      (request.Batch queue (Some head) mark priority) errno in
      either
      (λ r. P (Some b) (asks_batch port call queue (Some head) mark priority)
      (batch_under r (Some b) mark priority))
      (not (b.port == port)) _ _ (λ is. answered _)
      (λ own. either
      (λ r. P (Some b) (asks_batch port call queue (Some head) mark priority)
      (batch_under r (Some b) mark priority))
      (not (is_verdict head.verdict)) _ _ (λ is. answered _)
      (λ no. shares_on b port call queue head mark priority own (share b.waiting head.id) refl))

  -- what holds of each line's outcome holds of the step
  pub walk : (q : Option Bound) (e : Event) → P q e (step q e)
  walk q (event.Arrive card bypass room) =
      either (λ s. P q (event.Arrive card bypass room) s) (card.visit == last_visit) _ _
      (λ is. lines.loop q card bypass room)
      (λ early. arrives_in_time q card bypass room early)
  walk q (event.Ask port call (request.Config queue command params maximum flags mask)) =
      configures q port call queue
      (record {
        command = command;
        params = params;
        maximum = maximum;
        flags = flags;
        mask = mask;
      })
  walk q (event.Ask port call (request.Verdict queue head mark payload priority)) =
      rules q port call queue head (record { mark = mark; payload = payload; priority = priority })
  walk q (event.Ask port call (request.Batch queue head mark priority)) =
      batches q port call queue head mark priority
  walk None (event.PortClosed port) = lines.none_closed port
  walk (Some b) (event.PortClosed port) = lines.closes b port
  walk None (event.DeviceDown device) = lines.none_down None device
  walk (Some b) (event.DeviceDown device) =
      either (λ s. P (Some b) (event.DeviceDown device) s)
      ((device == input_device) || (device == output_device)) _ _
      (λ is. lines.flushes b device) (λ no. lines.none_down (Some b) device)

-- ---- by shapes of outcomes

-- what arrives leaves at once, as its outcome says
abbrev pub left_at_once : Option Bound → Outcome → Card → Stepped
left_at_once q o card =
    record { state = q; reply = reply.Arrived o; left = (card, way_by o) ∷ [] }

-- the queue's counts, which an arrival that leaves at once may change
abbrev pub with_counts : Bound → ℕ → ℕ → ℕ → Bound
with_counts b last dropped user_dropped =
    record b { last = last; dropped = dropped; user_dropped = user_dropped }

abbrev pub settled : Bound → Stepped
settled b = record { state = Some b; reply = reply.Answer 0 0; left = [] }

-- a packet is let through before its 33rd visit alone
abbrev pub IsTimely : Card → Way → Type 0
IsTimely card Gone = Unit {0}
IsTimely card Open = IsInTime card
IsTimely card (Decided decision) = Unit {0}

pub record Shapes (P : Known) : Type 0 where
  -- what arrives leaves: the queue stays as it is, or counts it
  pub leaves : (q : Option Bound) (card : Card) (bypass room : Bool) (o : Outcome) →
      stays_in o ≡ 0 → IsTimely card (way_by o) →
      P q (event.Arrive card bypass room) (left_at_once q o card)
  pub counts : (b : Bound) (last dropped user_dropped : ℕ) (card : Card) (bypass room : Bool)
      (o : Outcome) → stays_in o ≡ 0 → IsTimely card (way_by o) →
      P (Some b) (event.Arrive card bypass room)
      (left_at_once (Some (with_counts b last dropped user_dropped)) o card)
  -- or it waits
  pub joins : (b : Bound) (card : Card) (bypass room : Bool) → IsInTime card → HasRoom room →
      P (Some b) (event.Arrive card bypass room) (waits b (next_id b) card)
  -- a request changes nothing
  pub answered : (q : Option Bound) (port call : ℕ) (asked : Request) (errno : ℕ) →
      P q (event.Ask port call asked) (unchanged q errno)
  -- the queue ends
  pub ends : (b : Bound) (port call queue : ℕ) (a : ConfigAsk) → IsOwn b port →
      P (Some b) (asks_config port call queue a) (ended b)
  -- settings change, of a new queue or of one that there is
  pub binds : (port call queue : ℕ) (a : ConfigAsk) (s : Settings) →
      P None (asks_config port call queue a) (settled (with_settings (bound_to port) s))
  pub sets_up : (b : Bound) (port call queue : ℕ) (a : ConfigAsk) (s : Settings) →
      IsOwn b port → P (Some b) (asks_config port call queue a) (settled (with_settings b s))
  -- one leaves, or a share
  pub decides : (b : Bound) (port call queue : ℕ) (head : Head) (edit : Edit) (card : Card) →
      IsOwn b port → card_under b head.id ≡ Some card →
      P (Some b) (asks_verdict port call queue (Some head) edit)
      (carried_out b head edit (Some card))
  pub shares : (b : Bound) (port call queue : ℕ) (head : Head) (mark priority : Option ℕ)
      (w : ℕ × Card) (ws : List (ℕ × Card)) → IsOwn b port →
      share b.waiting head.id ≡ w ∷ ws →
      P (Some b) (asks_batch port call queue (Some head) mark priority)
      (shared_out b head mark priority (w ∷ ws))
  -- all leave, or nothing happens
  pub none_closed : (port : ℕ) → P None (event.PortClosed port) (untouched None)
  pub closes : (b : Bound) (port : ℕ) →
      P (Some b) (event.PortClosed port) (port_closed (Some b))
  pub none_down : (q : Option Bound) (device : ℕ) →
      P q (event.DeviceDown device) (untouched q)
  pub flushes : (b : Bound) (device : ℕ) → P (Some b) (event.DeviceDown device) (flushed b)

-- the settings that a queue has once a config request has set it up
abbrev pub set_by : ConfigAsk → Bound → Settings
set_by a b = settings_after a.params a.maximum a.flags a.mask (settings_of b)

module _ (P : Known) (shapes : Shapes P) where
  by_lines : Lines P
  by_lines = record {
    loop = λ q card bypass room. shapes.leaves q card bypass room outcome.Loop refl tt;
    no_queue = λ card room early.
        shapes.leaves None card false room outcome.NoQueue refl tt;
    bypassed = λ card room early.
        shapes.leaves None card true room outcome.Bypassed refl early;
    no_copy = λ b card bypass room early.
        shapes.leaves (Some b) card bypass room outcome.CopyNone refl tt;
    overflow_open = λ b card bypass room early.
        shapes.leaves (Some b) card bypass room outcome.OverflowOpen refl early;
    overflow = λ b card bypass room early.
        shapes.counts b b.last (one_more b.dropped) b.user_dropped card bypass room
        outcome.Overflow refl tt;
    user_full_open = λ b card bypass room early.
        shapes.counts b (next_id b) b.dropped b.user_dropped card bypass room
        (outcome.UserFullOpen (next_id b)) refl early;
    user_full = λ b card bypass room early.
        shapes.counts b (next_id b) b.dropped (one_more b.user_dropped) card bypass room
        (outcome.UserFull (next_id b)) refl tt;
    joins = shapes.joins;
    answered = shapes.answered;
    ends = shapes.ends;
    binds = λ port call queue a.
        shapes.binds port call queue a (set_by a (bound_to port));
    sets_up = λ b port call queue a own.
        shapes.sets_up b port call queue a (set_by a b) own;
    decides = shapes.decides;
    shares = shapes.shares;
    none_closed = shapes.none_closed;
    closes = shapes.closes;
    none_down = shapes.none_down;
    flushes = shapes.flushes;
  }

  -- what holds of each shape of outcome holds of the step
  pub walk_by_shape : (q : Option Bound) (e : Event) → P q e (step q e)
  walk_by_shape = walk P by_lines

-- ---- arrivals alone

-- What may be known of an arrival's step. It says nothing of the state that the queue has then.
abbrev pub KnownOfArrivals : Type 1
KnownOfArrivals = Card → Bool → Stepped → Type 0

pub record Arrivals (A : KnownOfArrivals) : Type 0 where
  pub leaves : (q : Option Bound) (card : Card) (room : Bool) (o : Outcome) → stays_in o ≡ 0 →
      IsTimely card (way_by o) → A card room (left_at_once q o card)
  pub joins : (b : Bound) (card : Card) (room : Bool) → IsInTime card → HasRoom room →
      A card room (waits b (next_id b) card)

module _ (A : KnownOfArrivals) (arrivals : Arrivals A) where
  abbrev OfArrivals : Known
  OfArrivals q (event.Arrive card bypass room) s = A card room s
  OfArrivals q (event.Ask port call asked) s = Unit {0}
  OfArrivals q (event.PortClosed port) s = Unit {0}
  OfArrivals q (event.DeviceDown device) s = Unit {0}

  arrival_shapes : Shapes OfArrivals
  arrival_shapes = record {
    leaves = λ q card bypass room o stays timely. arrivals.leaves q card room o stays timely;
    counts = λ b last dropped user_dropped card bypass room o stays timely.
        arrivals.leaves _ card room o stays timely;
    joins = λ b card bypass room early had. arrivals.joins b card room early had;
    answered = λ q port call asked errno. tt;
    ends = λ b port call queue a own. tt;
    binds = λ port call queue a s. tt;
    sets_up = λ b port call queue a s own. tt;
    decides = λ b port call queue head edit card own found. tt;
    shares = λ b port call queue head mark priority w ws own is. tt;
    none_closed = λ port. tt;
    closes = λ b port. tt;
    none_down = λ q device. tt;
    flushes = λ b device. tt;
  }

  -- what holds of an arrival that leaves, and of one that waits, holds of each
  pub walk_arrivals : (q : Option Bound) (card : Card) (bypass room : Bool) →
      A card room (arrive q card bypass room)
  walk_arrivals q card bypass room =
      walk_by_shape OfArrivals arrival_shapes q (event.Arrive card bypass room)
