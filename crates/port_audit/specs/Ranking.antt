-- For proofs alone: the order of a queue's entries, judged entry by entry.
use Rattle.std.specs.Prelude.{◌≡◌, ◌<◌, ℕ, List, [], ◌∷◌, map, flat_map, Option, Some, None, false}
use Rattle.std.specs.Prelude.{nat_lt, if◌then◌else◌}
use Rattle.std.specs.BTreeMap.{BTreeMap, get, is_at}
use Rattle.std.specs.Ordering.{nat_cmp}
use Rattle.queue_core.specs.declared.event.Event.{Event}
use Rattle.queue_core.specs.declared.event.Event.TheVariants.{Arrive, Ask, PortClosed, DeviceDown}
use Rattle.histories.specs.Numbers.{queue_count}
use Rattle.histories.specs.declared.entry.Entry.{Entry}
use Rattle.histories.specs.History.{history}
use Rattle.run_parts.specs.Ascending.{AscendFrom}
use Rattle.run_parts.specs.Order.{Kind, Marked, kinds_of, early_rank, late_ranks, early_by, late_by}
use Rattle.run_parts.specs.Order.{IsOrdered}
use Rattle.port_audit.specs.declared.order.Ranks.{Ranks}
use Rattle.port_audit.specs.declared.dealing.MessageKind.{MessageKind}
use Rattle.port_audit.specs.declared.dealing.MessageKind.TheVariants as message
use Rattle.port_audit.specs.Dealing.{RowMap, side, IsTaken}
use Rattle.port_audit.specs.Kinds.{kinds_at}

-- A history is in order from these ranks on, where each port's messages ask with these kinds.
pub record IsOrderedFrom (ports : List ℕ) (low behind : ℕ) (told : ℕ → List Kind)
    (h : List Entry) : Type 0 where
  pub marks : List Marked
  pub entries : map (λ (m : Marked). m.entry) marks ≡ h
  pub kinds : (port : ℕ) → flat_map (kinds_of port) marks ≡ told port
  pub early : AscendFrom low (map (early_rank ports) marks)
  pub late : AscendFrom behind (flat_map (late_ranks ports) marks)

-- ---- ranks

-- the least rank that the next entry of a queue may have, among the openings and all else, and
-- among what was fed and the ends
abbrev pub RankMap : Type 0
RankMap = BTreeMap ℕ Ranks

abbrev pub early_in : Option Ranks → ℕ
early_in None = 0
early_in (Some r) = r.early

abbrev pub late_in : Option Ranks → ℕ
late_in None = 0
late_in (Some r) = r.late

abbrev pub early_at : RankMap → ℕ → ℕ
early_at ranks queue = early_in (get nat_cmp ranks queue)

abbrev pub late_at : RankMap → ℕ → ℕ
late_at ranks queue = late_in (get nat_cmp ranks queue)

-- the ranks after an entry of this kind, where it may stand there
abbrev pub late_then : ℕ → List ℕ → Option ℕ
late_then behind [] = Some behind
late_then behind (l ∷ ls) = if nat_lt l behind then None else Some l

abbrev pub ranked : ℕ → Option ℕ → Option Ranks
ranked early None = None
ranked early (Some late) = Some (record { early = early; late = late })

abbrev pub ranks_then : List ℕ → ℕ → ℕ → Kind → Event → Option Ranks
ranks_then ports low behind kind event =
    if nat_lt (early_by ports kind event) low
    then None
    else ranked (early_by ports kind event) (late_then behind (late_by ports kind event))

-- the late rank of an entry, if it has one
abbrev pub late_list : Option ℕ → List ℕ
late_list None = []
late_list (Some l) = l ∷ []

-- the other queues keep their ranks
abbrev pub KeepsRanks : ℕ → RankMap → RankMap → Type 0
KeepsRanks queue old new = (q : ℕ) → is_at (nat_cmp queue) q ≡ false →
    get nat_cmp new q ≡ get nat_cmp old q

-- in each queue's history the order holds, with the kinds in these rows
abbrev pub AreInOrder : List ℕ → RowMap MessageKind → List Entry → Type 0
AreInOrder ports rows es = (queue : ℕ) → queue < queue_count →
    IsOrdered ports (λ port. kinds_at rows port queue) (history queue es)

-- the kind of an entry's message is the first of its row, and is taken, or there is none; an entry
-- that is no request is taken for an answer
abbrev pub NextKind : ℕ → Event → RowMap MessageKind → RowMap MessageKind → Option MessageKind →
    Type 0
NextKind queue (Arrive card bypass room) old new kind =
    (kind ≡ Some message.Answers) × (new ≡ old)
NextKind queue (Ask port call request) old new kind = IsTaken (side port queue) old new kind
NextKind queue (PortClosed port) old new kind = (kind ≡ Some message.Answers) × (new ≡ old)
NextKind queue (DeviceDown device) old new kind = (kind ≡ Some message.Answers) × (new ≡ old)

-- no kind is left of any queue
abbrev pub NoneLeft : RowMap MessageKind → Type 0
NoneLeft rows = (port queue : ℕ) → queue < queue_count → kinds_at rows port queue ≡ []
