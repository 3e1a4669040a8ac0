-- Queues that are replayed entry by entry, and what is found of them.
use Rattle.std.specs.Prelude.{◌≡◌, ◌≤◌, ◌↔◌, ◌++◌, ◌∷◌, ℕ, List, [], Option, Some, None, false, ⊤}
use Rattle.std.specs.Prelude.{IsTrue, option_map}
use Rattle.std.specs.BTreeMap.{BTreeMap, get, is_at}
use Rattle.std.specs.Ordering.{nat_cmp}
use Rattle.nfqa_msgs.specs.Numbers.{longest_range}
use Rattle.queue_core.specs.State.{Bound}
use Rattle.queue_core.specs.Step.{step}
use Rattle.histories.specs.declared.entry.Entry.{Entry}
use Rattle.histories.specs.History.{history, replay, IsStep}
use Rattle.queue_replay.specs.Departed.{AreDeparted}
use Rattle.queue_replay.specs.declared.found.Found.{Found}
use Rattle.queue_replay.specs.declared.replayed.Replayed.{Replayed}

-- states by the queue's number; a queue that isn't kept is absent
abbrev pub QueueMap : Type 0
QueueMap = BTreeMap ℕ (Option Bound)

abbrev pub queue_in : Option (Option Bound) → Option Bound
queue_in None = None
queue_in (Some q) = q

-- the port that a queue is bound to
abbrev pub port_in : Option Bound → Option ℕ
port_in q = option_map (λ (b : Bound). b.port) q

-- this entry is replayed, and the other queues stay as they were
pub record Replays (old new : QueueMap) (e : Entry) : Type 0 where
  pub own : queue_in (get nat_cmp new e.queue)
      ≡ (step (queue_in (get nat_cmp old e.queue)) e.event).state
  pub others : (q : ℕ) → is_at (nat_cmp e.queue) q ≡ false →
      get nat_cmp new q ≡ get nat_cmp old q

-- each queue is the replay of its history
abbrev pub AreReplayed : List Entry → QueueMap → Type 0
AreReplayed before queues = (queue : ℕ) →
    queue_in (get nat_cmp queues queue) ≡ replay (history queue before)

-- the copy mode and the range of a bound queue
abbrev pub IsToldBy : Option Bound → Found → Type 0
IsToldBy None f = ⊤
IsToldBy (Some b) f = (f.mode ≡ b.mode) × (f.range ≡ b.range)

-- what is found as an entry comes to a queue in this state
pub record IsFound (q : Option Bound) (e : Entry) (f : Found) : Type 0 where
  pub port : f.port ≡ port_in q
  pub told : IsToldBy q f
  pub fits : f.range ≤ longest_range
  pub step : IsTrue f.is_step ↔ IsStep q e

-- at each of these entries, behind others, this is found of its queue's history so far
abbrev pub AreFound : List Entry → List Entry → List Found → Type 0
AreFound before [] [] = ⊤
AreFound before [] (f ∷ fs) = ⊥
AreFound before (e ∷ es) [] = ⊥
AreFound before (e ∷ es) (f ∷ fs) =
    IsFound (replay (history e.queue before)) e f × AreFound (before ++ e ∷ []) es fs

-- all entries are replayed
pub record IsReplayOf (es : List Entry) (r : Replayed) : Type 0 where
  pub found : AreFound [] es r.found
  pub departed : AreDeparted es r.departed
  pub queues : AreReplayed es r.queues
