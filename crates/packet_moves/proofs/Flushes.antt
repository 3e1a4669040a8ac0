-- Ports that close and devices that go down keep histories sound: nothing arrives, and what leaves
-- is destroyed.
use Rattle.std.proofs.Common.{◌≡◌, ℕ, List, [], ◌∷◌, ◌++◌, Option, Some, None, Bool, true, false}
use Rattle.std.proofs.Common.{refl, sym, ap, ◌∙◌, subst, append_assoc, append-nil}
use Rattle.std.specs.Prelude.{flat_map, All, ◌==◌, if◌then◌else◌}
use Rattle.std.proofs.lemmas.List.Elements.{All-head, All-tail}
use Rattle.packet_entry.specs.declared.packet.Card.{Card}
use Rattle.queue_core.specs.declared.event.Event.TheVariants.{PortClosed}
use Rattle.queue_core.specs.State.{Bound}
use Rattle.queue_core.specs.Step.{Way, Gone, step}
use Rattle.histories.specs.declared.histories.Lost.{Lost}
use Rattle.histories.specs.declared.entry.Entry.{Entry}
use Rattle.histories.specs.History.{AreLegal}
use Rattle.histories.specs.Moves.{moves, move_after}
use Rattle.histories.specs.Journeys.{Arrival, IsSoundBut, asks, came, arrival_of, going_on}
use Rattle.histories.specs.States.{state_of, entry_in, every_number}
use Rattle.histories.specs.Happenings.{closing_of, closings, down_of, downs}
use Rattle.packet_moves.specs.declared.setting.Setting.{Setting}
use Rattle.packet_moves.specs.World.{World}
use Rattle.packet_moves.specs.Soundness.{IsSound}
use Rattle.packet_moves.proofs.LowerLaws.{Laws}

-- nothing arrives by the entry, and what leaves is destroyed
pub record IsFlush (e : Entry) : Type 0 where
  pub none_arrives : arrival_of e.queue e.event ≡ []
  pub gone : (q : Option Bound) → All (λ (l : Card × Way). l.1 ≡ Gone) (step q e.event).left

abbrev pub AreFlushes : List Entry → Type 0
AreFlushes [] = Unit {0}
AreFlushes (e ∷ es) = IsFlush e × AreFlushes es

both_flush : (es fs : List Entry) → AreFlushes es → AreFlushes fs → AreFlushes (es ++ fs)
both_flush [] fs es_are fs_are = fs_are
both_flush (e ∷ es) fs es_are fs_are = (es_are.0, both_flush es fs es_are.1 fs_are)

gone_asks_nothing : (s : Setting) (ls : List (Card × Way)) →
    All (λ (l : Card × Way). l.1 ≡ Gone) ls → flat_map (going_on s.tables s.key) ls ≡ []
gone_asks_nothing s [] gone = refl
gone_asks_nothing s ((card, way) ∷ ls) gone =
    let P : Card × Way → Type 0 = λ l. l.1 ≡ Gone in
    let first : going_on s.tables s.key (card, way) ≡ [] =
    ap (λ (y : Way). going_on s.tables s.key (card, y)) (All-head P (card, way) ls gone) in
    ap (λ (l : List Arrival). l ++ flat_map (going_on s.tables s.key) ls) first
    ∙ gone_asks_nothing s ls (All-tail P (card, way) ls gone)

sound_flush : Laws → (s : Setting) (owed : List Arrival) (fed : List Card) (lost : List Lost)
    (es fs : List Entry) → AreFlushes fs → IsSoundBut s.tables s.key owed fed (moves es) lost →
    IsSoundBut s.tables s.key owed fed (moves (es ++ fs)) lost
sound_flush laws s owed fed lost es [] are sound =
    subst (λ (l : List Entry). IsSoundBut s.tables s.key owed fed (moves l) lost)
    (sym (append-nil es)) sound
sound_flush laws s owed fed lost es (f ∷ fs) are sound =
    subst (λ (l : List Entry). IsSoundBut s.tables s.key owed fed (moves l) lost)
    (append_assoc es (f ∷ []) fs)
    (sound_flush laws s owed fed lost (es ++ f ∷ []) fs are.1 one)
  where
    arrives : came (move_after es f) ++ owed ≡ owed
    arrives = ap (λ (l : List Arrival). l ++ owed) are.0.none_arrives

    asked : asks s.tables s.key (move_after es f) ++ owed ≡ owed
    asked =
        ap (λ (l : List Arrival). l ++ owed)
        (gone_asks_nothing s (move_after es f).left (are.0.gone (state_of es f.queue)))

    one : IsSoundBut s.tables s.key owed fed (moves (es ++ f ∷ [])) lost
    one =
        rw (laws.is_move es f)
        (subst (λ (l : List Arrival).
        IsSoundBut s.tables s.key l fed (moves es ++ move_after es f ∷ []) lost) asked
        (laws.comes s.tables s.key (move_after es f) owed fed (moves es) lost
        (subst (λ (l : List Arrival). IsSoundBut s.tables s.key l fed (moves es) lost)
        (sym arrives) sound)))

closing_flush : Laws → (port queue : ℕ) (q : Option Bound) → AreFlushes (closing_of port queue q)
closing_flush laws port queue None = tt
closing_flush laws port queue (Some b) = by_port (b.port == port)
  where
    by_port : (own : Bool) →
        AreFlushes (if own then entry_in queue (Some b) (PortClosed port) ∷ [] else [])
    by_port true = (record { none_arrives = refl; gone = laws.port_gone }, tt)
    by_port false = tt

down_flush : Laws → (device queue : ℕ) (q : Option Bound) → AreFlushes (down_of device queue q)
down_flush laws device queue None = tt
down_flush laws device queue (Some b) =
    (record { none_arrives = refl; gone = λ q. laws.device_gone q device }, tt)

all_closings : Laws → (port : ℕ) (es : List Entry) (ns : List ℕ) →
    AreFlushes (flat_map (λ q. closing_of port q (state_of es q)) ns)
all_closings laws port es [] = tt
all_closings laws port es (n ∷ ns) =
    both_flush _ _ (closing_flush laws port n (state_of es n)) (all_closings laws port es ns)

all_downs : Laws → (device : ℕ) (es : List Entry) (ns : List ℕ) →
    AreFlushes (flat_map (λ q. down_of device q (state_of es q)) ns)
all_downs laws device es [] = tt
all_downs laws device es (n ∷ ns) =
    both_flush _ _ (down_flush laws device n (state_of es n)) (all_downs laws device es ns)

-- a port closes
pub closing_keeps : Laws → (s : Setting) (port : ℕ) (w new : World) →
    new.entries ≡ w.entries ++ closings port w.entries → new.fed ≡ w.fed → new.lost ≡ w.lost →
    AreLegal new.entries → IsSound s [] w → IsSound s [] new
closing_keeps laws s port w new entries fed lost legal is =
    record {
      legal = legal;
      sound = rw (entries, fed, lost)
          (sound_flush laws s [] w.fed w.lost w.entries (closings port w.entries)
          (all_closings laws port w.entries every_number) is.sound);
    }

-- a device goes down
pub down_keeps : Laws → (s : Setting) (device : ℕ) (w new : World) →
    new.entries ≡ w.entries ++ downs device w.entries → new.fed ≡ w.fed → new.lost ≡ w.lost →
    AreLegal new.entries → IsSound s [] w → IsSound s [] new
down_keeps laws s device w new entries fed lost legal is =
    record {
      legal = legal;
      sound = rw (entries, fed, lost)
          (sound_flush laws s [] w.fed w.lost w.entries (downs device w.entries)
          (all_downs laws device w.entries every_number) is.sound);
    }
