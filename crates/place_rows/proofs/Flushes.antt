-- Ports that close and devices that go down keep moves sound: nothing arrives, and what leaves is
-- destroyed.
use Rattle.std.proofs.Common.{◌≡◌, ℕ, List, [], ◌∷◌, ◌++◌, Option, Some, None, Bool, true, false}
use Rattle.std.proofs.Common.{refl, sym, ap, ◌∙◌, subst, append_assoc, append-nil}
use Rattle.std.specs.Prelude.{flat_map, All, ◌==◌, if◌then◌else◌}
use Rattle.std.proofs.lemmas.List.Elements.{All-head, All-tail}
use Rattle.packet_entry.specs.declared.packet.Card.{Card}
use Rattle.hook_chain.specs.Rules.{RuleTables}
use Rattle.queue_core.specs.declared.event.Event.TheVariants.{PortClosed}
use Rattle.queue_core.specs.State.{Bound}
use Rattle.queue_core.specs.Laws.{AllAreGone}
use Rattle.queue_core.specs.Step.{Way, Gone, step, port_closed, device_down}
use Rattle.histories.specs.declared.histories.Lost.{Lost}
use Rattle.histories.specs.declared.entry.Entry.{Entry}
use Rattle.histories.specs.Moves.{Move, moves_after, move_after}
use Rattle.histories.specs.Journeys.{Arrival, IsSoundBut, asks, came, arrival_of, going_on}
use Rattle.histories.specs.States.{state_of, entry_in, every_number}
use Rattle.histories.specs.Happenings.{closing_of, closings, down_of, downs}

-- what is known of moves and of the step
pub record Laws : Type 0 where
  pub comes : (tables : RuleTables) (key : ℕ) (m : Move) (owed : List Arrival)
      (entered : List Card) (ms : List Move) (lost : List Lost) →
      IsSoundBut tables key (came m ++ owed) entered ms lost →
      IsSoundBut tables key (asks tables key m ++ owed) entered (ms ++ m ∷ []) lost
  pub port_gone : (q : Option Bound) → AllAreGone (port_closed q)
  pub device_gone : (q : Option Bound) (device : ℕ) → AllAreGone (device_down q device)

-- nothing arrives by the entry, and what leaves is destroyed
record IsFlush (e : Entry) : Type 0 where
  none_arrives : arrival_of e.queue e.event ≡ []
  gone : (q : Option Bound) → All (λ (l : Card × Way). l.1 ≡ Gone) (step q e.event).left

abbrev AreFlushes : List Entry → Type 0
AreFlushes [] = Unit {0}
AreFlushes (e ∷ es) = IsFlush e × AreFlushes es

both_flush : (es fs : List Entry) → AreFlushes es → AreFlushes fs → AreFlushes (es ++ fs)
both_flush [] fs es_are fs_are = fs_are
both_flush (e ∷ es) fs es_are fs_are = (es_are.0, both_flush es fs es_are.1 fs_are)

gone_asks_nothing : (tables : RuleTables) (key : ℕ) (ls : List (Card × Way)) →
    All (λ (l : Card × Way). l.1 ≡ Gone) ls → flat_map (going_on tables key) ls ≡ []
gone_asks_nothing tables key [] gone = refl
gone_asks_nothing tables key ((card, way) ∷ ls) gone =
    let P : Card × Way → Type 0 = λ l. l.1 ≡ Gone in
    let first : going_on tables key (card, way) ≡ [] =
    ap (λ (y : Way). going_on tables key (card, y)) (All-head P (card, way) ls gone) in
    ap (λ (l : List Arrival). l ++ flat_map (going_on tables key) ls) first
    ∙ gone_asks_nothing tables key ls (All-tail P (card, way) ls gone)

module _ (laws : Laws) (tables : RuleTables) (key : ℕ) (owed : List Arrival)
    (entered : List Card) (lost : List Lost) where
  flushed_sound : (ms : List Move) (before fs : List Entry) → AreFlushes fs →
      IsSoundBut tables key owed entered ms lost →
      IsSoundBut tables key owed entered (ms ++ moves_after before fs) lost
  flushed_sound ms before [] are sound =
      subst (λ (l : List Move). IsSoundBut tables key owed entered l lost) (sym (append-nil ms))
      sound
  flushed_sound ms before (f ∷ fs) are sound =
      subst (λ (l : List Move). IsSoundBut tables key owed entered l lost)
      (append_assoc ms (move_after before f ∷ []) (moves_after (before ++ f ∷ []) fs))
      (flushed_sound (ms ++ move_after before f ∷ []) (before ++ f ∷ []) fs are.1 one)
    where
      arrives : came (move_after before f) ++ owed ≡ owed
      arrives = ap (λ (l : List Arrival). l ++ owed) are.0.none_arrives

      asked : asks tables key (move_after before f) ++ owed ≡ owed
      asked =
          ap (λ (l : List Arrival). l ++ owed)
          (gone_asks_nothing tables key (move_after before f).left
          (are.0.gone (state_of before f.queue)))

      one : IsSoundBut tables key owed entered (ms ++ move_after before f ∷ []) lost
      one =
          subst (λ (l : List Arrival).
          IsSoundBut tables key l entered (ms ++ move_after before f ∷ []) lost) asked
          (laws.comes tables key (move_after before f) owed entered ms lost
          (subst (λ (l : List Arrival). IsSoundBut tables key l entered ms lost)
          (sym arrives) sound))

closing_flush : Laws → (port queue : ℕ) (q : Option Bound) → AreFlushes (closing_of port queue q)
closing_flush laws port queue None = tt
closing_flush laws port queue (Some b) = by_port (b.port == port)
  where
    by_port : (own : Bool) →
        AreFlushes (if own then entry_in queue (Some b) (PortClosed port) ∷ [] else [])
    by_port true = (record { none_arrives = refl; gone = laws.port_gone }, tt)
    by_port false = tt

down_flush : Laws → (device queue : ℕ) (q : Option Bound) → AreFlushes (down_of device queue q)
down_flush laws device queue None = tt
down_flush laws device queue (Some b) =
    (record { none_arrives = refl; gone = λ q. laws.device_gone q device }, tt)

all_closings : Laws → (port : ℕ) (es : List Entry) (ns : List ℕ) →
    AreFlushes (flat_map (λ q. closing_of port q (state_of es q)) ns)
all_closings laws port es [] = tt
all_closings laws port es (n ∷ ns) =
    both_flush _ _ (closing_flush laws port n (state_of es n)) (all_closings laws port es ns)

all_downs : Laws → (device : ℕ) (es : List Entry) (ns : List ℕ) →
    AreFlushes (flat_map (λ q. down_of device q (state_of es q)) ns)
all_downs laws device es [] = tt
all_downs laws device es (n ∷ ns) =
    both_flush _ _ (down_flush laws device n (state_of es n)) (all_downs laws device es ns)

-- a port closes
pub closing_sound : Laws → (tables : RuleTables) (key port : ℕ) (owed : List Arrival)
    (entered : List Card) (lost : List Lost) (ms : List Move) (found : List Entry) →
    IsSoundBut tables key owed entered ms lost →
    IsSoundBut tables key owed entered (ms ++ moves_after found (closings port found)) lost
closing_sound laws tables key port owed entered lost ms found =
    flushed_sound laws tables key owed entered lost ms found (closings port found)
    (all_closings laws port found every_number)

-- a device goes down
pub down_sound : Laws → (tables : RuleTables) (key device : ℕ) (owed : List Arrival)
    (entered : List Card) (lost : List Lost) (ms : List Move) (found : List Entry) →
    IsSoundBut tables key owed entered ms lost →
    IsSoundBut tables key owed entered (ms ++ moves_after found (downs device found)) lost
down_sound laws tables key device owed entered lost ms found =
    flushed_sound laws tables key owed entered lost ms found (downs device found)
    (all_downs laws device found every_number)
