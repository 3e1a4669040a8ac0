-- For proofs alone: what is kept of all queues' histories.
use Rattle.std.specs.Prelude.{◌≡◌, ℕ, ◌<◌, ◌↔◌, List, [], ◌∷◌, Option, Some, None, ⊤, false}
use Rattle.std.specs.BTreeMap.{BTreeMap, get, is_at}
use Rattle.std.specs.Ordering.{nat_cmp}
use Rattle.queue_core.specs.State.{Bound}
use Rattle.queue_core.specs.Step.{step}
use Rattle.histories.specs.declared.entry.Entry.{Entry}
use Rattle.histories.specs.History.{history, replay}
use Rattle.histories.specs.Numbers.{queue_count}
use Rattle.queue_replay.specs.Replays.{QueueMap, queue_in}
use Rattle.script_lines.specs.declared.line.Down.{Down}
use Rattle.feeder_audit.specs.declared.fed.Fed.{Fed}
use Rattle.feeder_audit.specs.Fitting.{FitsBy}
use Rattle.feeder_audit.specs.Rows.{IsKept, IsFedBy, all}

abbrev pub FedMap : Type 0
FedMap = BTreeMap ℕ Fed

-- the state of each queue
abbrev pub state_in : QueueMap → ℕ → Option Bound
state_in queues queue = queue_in (get nat_cmp queues queue)

abbrev pub IsKeptIn : List Down → Option Fed → Type 0
IsKeptIn downs None = ⊤
IsKeptIn downs (Some f) = IsKept downs f

-- of a queue that isn't kept no line is put in
abbrev pub IsFedIn : List Down → Option Bound → Option Fed → List Entry → Type 0
IsFedIn downs q None h = FitsBy q 0 h downs all
IsFedIn downs q (Some f) h = IsFedBy downs q f h

-- an entry is gone over at a queue in this state, and the other queues stay as they were
pub record FollowsIn (downs : List Down) (q : Option Bound) (old new : FedMap) (e : Entry) : Type 0
  where
    pub kept : IsKeptIn downs (get nat_cmp new e.queue)
    pub goes : (es : List Entry) → IsFedIn downs q (get nat_cmp old e.queue) (e ∷ es) →
        IsFedIn downs (step q e.event).state (get nat_cmp new e.queue) es
    pub came : (es : List Entry) →
        IsFedIn downs (step q e.event).state (get nat_cmp new e.queue) es →
        IsFedIn downs q (get nat_cmp old e.queue) (e ∷ es)
    pub others : (k : ℕ) → is_at (nat_cmp e.queue) k ≡ false →
        get nat_cmp new k ≡ get nat_cmp old k

-- all lines can be put into the history, which is over
abbrev pub IsWholeIn : List Down → Option Bound → Option Fed → Type 0
IsWholeIn downs q None = ⊤
IsWholeIn downs q (Some f) = IsFedBy downs q f []

-- into each, where they leave the queues in these states
abbrev pub AreWhole : List Down → (ℕ → Option Bound) → FedMap → Type 0
AreWhole downs states feds = (queue : ℕ) →
    IsWholeIn downs (states queue) (get nat_cmp feds queue)

abbrev pub AreKept : List Down → FedMap → Type 0
AreKept downs feds = (queue : ℕ) → IsKeptIn downs (get nat_cmp feds queue)

-- all entries are gone over: all lines can be put into each history exactly where they can be put
-- into what is left of it, which is nothing
pub record AreGoneOver (downs : List Down) (entries : List Entry) (feds : FedMap) : Type 0 where
  pub kept : AreKept downs feds
  pub whole : ((queue : ℕ) → queue < queue_count →
      FitsBy None 0 (history queue entries) downs all)
      ↔ AreWhole downs (λ queue. replay (history queue entries)) feds
