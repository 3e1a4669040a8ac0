-- Ports that close and devices that go down: their entries put in no notice, and leave queues with
-- their port or absent.
use Rattle.std.proofs.Common.{◌≡◌, ℕ, List, [], ◌∷◌, ◌++◌, Option, Some, None, Bool, true, false}
use Rattle.std.proofs.Common.{refl, sym, subst, append-nil, append_assoc, inl, inr}
use Rattle.std.specs.Prelude.{flat_map, IfSome, IsSome, if◌then◌else◌, ◌==◌}
use Rattle.std.proofs.lemmas.Bool.{cases_Bool}
use Rattle.std.proofs.lemmas.List.{append_cancel_left}
use Rattle.queue_core.specs.State.{Bound}
use Rattle.queue_core.specs.Step.{step}
use Rattle.queue_core.specs.declared.event.Event.{Event}
use Rattle.queue_core.specs.declared.event.Event.TheVariants.{PortClosed, DeviceDown}
use Rattle.queue_core.specs.declared.event.Reply.{Reply}
use Rattle.mailbox.specs.Views.{SenderView}
use Rattle.total_order.specs.Orders.{untimed}
use Rattle.histories.specs.declared.entry.Entry.{Entry}
use Rattle.histories.specs.States.{state_of, entry_in, every_number}
use Rattle.histories.specs.Happenings.{closing_of, closings, down_of, downs}
use Rattle.locked_place.specs.Points.{point_after}
use Rattle.histories.specs.Letters.{letters_of_event, letters_under, lacks_room, lacks_under}
use Rattle.locked_place.specs.Mails.{MailsGoOn}
use Rattle.locked_place.specs.Times.{all_at, AreMailed}
use Rattle.locked_place.specs.Views.{AreNotified, port_of}
use Rattle.locked_place.proofs.EntryPoints.{Laws}
use Rattle.locked_place.proofs.SenderSteps.{port_after, notified_on, mailed_on, follows_same}

record IsQuiet (e : Entry) : Type 1 where
  letters : (port : ℕ) (q : Option Bound) → letters_under port q e ≡ []
  lacks : (port : ℕ) (q : Option Bound) → lacks_under port q e ≡ false
  ports : (P : ℕ → Type 0) (q : Option Bound) → IfSome (port_of q) P →
      IfSome (port_of (step q e.event).state) P

abbrev AreQuiet : List Entry → Type 1
AreQuiet [] = Unit {1}
AreQuiet (e ∷ es) = IsQuiet e × AreQuiet es

both_quiet : (es fs : List Entry) → AreQuiet es → AreQuiet fs → AreQuiet (es ++ fs)
both_quiet [] fs es_are fs_are = fs_are
both_quiet (e ∷ es) fs es_are fs_are = (es_are.0, both_quiet es fs es_are.1 fs_are)

-- what they do to senders: nothing
quiet_on : Laws → (es fs : List Entry) (senders : ℕ → Option SenderView) → AreQuiet fs →
    AreNotified es senders → AreNotified (es ++ fs) senders
quiet_on laws es [] senders are told =
    subst (λ (l : List Entry). AreNotified l senders) (sym (append-nil es)) told
quiet_on laws es (f ∷ fs) senders are told =
    subst (λ (l : List Entry). AreNotified l senders) (append_assoc es (f ∷ []) fs)
    (quiet_on laws (es ++ f ∷ []) fs senders are.1
    (notified_on laws es f 0 senders senders told
    (λ p. follows_same 0 (point_after es f) p (senders p)
    (are.0.letters p (state_of es f.queue)) (are.0.lacks p (state_of es f.queue)))
    (are.0.ports (λ p. IsSome (senders p)) (state_of es f.queue) (told.known f.queue))))

quiet_mails : (time : ℕ) (xs : List (Entry × ℕ)) (fs : List Entry)
    (senders : ℕ → Option SenderView) → AreQuiet fs → AreMailed xs senders →
    AreMailed (xs ++ all_at time fs) senders
quiet_mails time xs [] senders are told =
    subst (λ (l : List (Entry × ℕ)). AreMailed l senders) (sym (append-nil xs)) told
quiet_mails time xs (f ∷ fs) senders are told =
    subst (λ (l : List (Entry × ℕ)). AreMailed l senders)
    (append_assoc xs ((f, time) ∷ []) (all_at time fs))
    (quiet_mails time (xs ++ (f, time) ∷ []) fs senders are.1
    (mailed_on xs f time senders senders told
    (λ p. follows_same time (point_after (untimed xs) f) p (senders p)
    (are.0.letters p (state_of (untimed xs) f.queue))
    (are.0.lacks p (state_of (untimed xs) f.queue)))))

quiet_go_on : (time : ℕ) (es fs : List Entry) (senders : ℕ → Option SenderView) → AreQuiet fs →
    MailsGoOn time es senders (es ++ fs) senders
quiet_go_on time es fs senders are xs more same on told =
    subst (λ (m : List Entry). AreMailed (xs ++ all_at time m) senders)
    (append_cancel_left es fs more on) (quiet_mails time xs fs senders are told)

-- ---- they are so

-- an event that is no arrival, after which its queue has its port or is absent
module _ (event : Event)
    (none : (queue : ℕ) (b : Bound) (reply : Reply) → letters_of_event queue b event reply ≡ [])
    (some : lacks_room event ≡ false)
    (stays : (P : ℕ → Type 0) (q : Option Bound) → IfSome (port_of q) P →
    IfSome (port_of (step q event).state) P) where
  quiet : (queue : ℕ) (reply : Reply) →
      IsQuiet (record { queue = queue; event = event; reply = reply })
  quiet queue reply = record { letters = letters; lacks = lacks; ports = stays }
    where
      letters : (port : ℕ) (q : Option Bound) →
          letters_under port q (record { queue = queue; event = event; reply = reply }) ≡ []
      letters port None = refl
      letters port (Some b) =
          elim (cases_Bool (port == b.port)) [
            | inl h ↦ rw h (none queue b reply)
            | inr h ↦ rw h refl
          ]

      lacks : (port : ℕ) (q : Option Bound) →
          lacks_under port q (record { queue = queue; event = event; reply = reply }) ≡ false
      lacks port None = refl
      lacks port (Some b) =
          elim (cases_Bool (port == b.port)) [
            | inl h ↦ rw (h, some) refl
            | inr h ↦ rw h refl
          ]

closing_quiet : (port queue : ℕ) (q : Option Bound) → AreQuiet (closing_of port queue q)
closing_quiet port queue None = tt
closing_quiet port queue (Some b) = by_port (b.port == port)
  where
    by_port : (own : Bool) →
        AreQuiet (if own then entry_in queue (Some b) (PortClosed port) ∷ [] else [])
    by_port true = (
      quiet (PortClosed port) (λ queue b reply. refl) refl
          (λ P q. port_after P q (PortClosed port) tt) queue _,
      tt,
    )
    by_port false = tt

down_quiet : (device queue : ℕ) (q : Option Bound) → AreQuiet (down_of device queue q)
down_quiet device queue None = tt
down_quiet device queue (Some b) = (
  quiet (DeviceDown device) (λ queue b reply. refl) refl
      (λ P q. port_after P q (DeviceDown device) tt) queue _,
  tt,
)

all_quiet : (f : ℕ → List Entry) → ((n : ℕ) → AreQuiet (f n)) → (ns : List ℕ) →
    AreQuiet (flat_map f ns)
all_quiet f each [] = tt
all_quiet f each (n ∷ ns) = both_quiet _ _ (each n) (all_quiet f each ns)

closings_quiet : (port : ℕ) (es : List Entry) → AreQuiet (closings port es)
closings_quiet port es =
    all_quiet (λ q. closing_of port q (state_of es q))
    (λ q. closing_quiet port q (state_of es q)) every_number

downs_quiet : (device : ℕ) (es : List Entry) → AreQuiet (downs device es)
downs_quiet device es =
    all_quiet (λ q. down_of device q (state_of es q))
    (λ q. down_quiet device q (state_of es q)) every_number

pub closed : Laws → (es : List Entry) (port : ℕ) (senders : ℕ → Option SenderView) →
    AreNotified es senders → AreNotified (es ++ closings port es) senders
closed laws es port senders told =
    quiet_on laws es (closings port es) senders (closings_quiet port es) told

pub down : Laws → (es : List Entry) (device : ℕ) (senders : ℕ → Option SenderView) →
    AreNotified es senders → AreNotified (es ++ downs device es) senders
down laws es device senders told =
    quiet_on laws es (downs device es) senders (downs_quiet device es) told

pub mails_closed : (es : List Entry) (port time : ℕ) (senders : ℕ → Option SenderView) →
    MailsGoOn time es senders (es ++ closings port es) senders
mails_closed es port time senders =
    quiet_go_on time es (closings port es) senders (closings_quiet port es)

pub mails_down : (es : List Entry) (device time : ℕ) (senders : ℕ → Option SenderView) →
    MailsGoOn time es senders (es ++ downs device es) senders
mails_down es device time senders =
    quiet_go_on time es (downs device es) senders (downs_quiet device es)
