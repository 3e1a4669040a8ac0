-- Feeders' passes that are split off one, and joined again.
use Rattle.std.proofs.Common.{◌≡◌, ◌+◌, ℕ, List, [], ◌∷◌, ◌++◌, sym, ap, ◌∙◌, subst}
use Rattle.std.specs.Prelude.{map, slice_get, Some, true, false}
use Rattle.atomic_table.specs.Seated.{TableId}
use Rattle.packet_entry.specs.declared.packet.Card.{Card}
use Rattle.turn_lock.specs.Parts.{Empty, is_normal, void}
use Rattle.turn_lock.specs.Views.{HasSeenOwn, kept_view, split_view}
use Rattle.histories.specs.declared.histories.Lost.{Lost}
use Rattle.histories.specs.Journeys.{Arrival}
use Rattle.packet_moves.specs.declared.setting.Setting.{Setting}
use Rattle.locked_place.specs.Views.{PlaceLabel, label_of}
use Rattle.place_rows.specs.Joining.{RowJoined, together_at}
use Rattle.place_rows.specs.Rows.{Known, AreKnown}
use Rattle.place_rows.specs.Shares.{sent_in, IsBalanced, IsBalancedBut}
use Rattle.place_turns.specs.Trails.{Trail}
use Rattle.plane.specs.Feeders.{IsSplitOff, IsJoined}
use Rattle.plane.specs.Meetings.{with_known}
use Rattle.plane.specs.Passes.{FeederView}

-- what the laws of rows say of splitting
abbrev pub KeptStays : Type 0
KeptStays = (s : Setting) (owed : List Arrival) (entered : List Card) (known : List Known)
    (lost : List Lost) → IsBalancedBut s owed entered known lost →
    IsBalancedBut s owed entered (map kept_view known) lost

abbrev pub MadeBegins : Type 0
MadeBegins = (s : Setting) (owed : List Arrival) (entered : List Card) (known : List Known)
    (lost : List Lost) → IsBalancedBut s owed entered known lost →
    IsBalancedBut s [] [] (map split_view known) []

abbrev pub NoneSent : Type 0
NoneSent = (port : ℕ) (known : List Known) → sent_in port (map split_view known) ≡ 0

abbrev pub PartsSplit : Type 0
PartsSplit = (k : ℕ) (known : List Known) (rows : List (List Known)) →
    ((j : ℕ) (v : Known) → slice_get known j ≡ Some v →
    (is_normal v.part ≡ true) × (void v.part ≡ false)) →
    together_at k Empty (map kept_view known ∷ map split_view known ∷ rows)
    ≡ together_at k Empty (known ∷ rows)

-- ---- splitting

-- the pass that was split stays balanced, and the one that was split off is
pub kept_so : KeptStays → (s : Setting) (entered : List Card) (front : List Lost) (t u : Trail) →
    u.known ≡ map kept_view t.known → u.lost ≡ t.lost →
    IsBalanced s entered t.known (front ++ t.lost) → IsBalanced s entered u.known (front ++ u.lost)
kept_so keeps s entered front t u known lost is =
    subst (λ (k : List Known). IsBalanced s entered k (front ++ u.lost)) (sym known)
    (keeps s [] entered t.known (front ++ u.lost)
    (subst (λ (l : List Lost). IsBalanced s entered t.known (front ++ l)) (sym lost) is))

pub made_so : MadeBegins → (s : Setting) (entered : List Card) (lost : List Lost) (t m : Trail) →
    m.known ≡ map split_view t.known → m.lost ≡ [] → IsBalanced s entered t.known lost →
    IsBalanced s [] m.known m.lost
made_so begins s entered lost t m known none is =
    subst (λ (k : List Known). IsBalanced s [] k m.lost) (sym known)
    (subst (λ (l : List Lost). IsBalanced s [] (map split_view t.known) l) (sym none)
    (begins s [] entered t.known lost is))

-- a pass has a part of each lock, in normal form
live_parts : (named : ℕ → PlaceLabel) (known : List Known) → AreKnown label_of named known →
    (j : ℕ) (v : Known) → slice_get known j ≡ Some v →
    (is_normal v.part ≡ true) × (void v.part ≡ false)
live_parts named known are j v at = ((are j v at).normal, (are j v at).live)

-- a pass is what contracts see of it
same_feeder : (one two : FeederView) → one.locks ≡ two.locks →
    one.trail.known ≡ two.trail.known → one.trail.lost ≡ two.trail.lost → one.fed ≡ two.fed →
    one ≡ two
same_feeder one two locks known lost fed =
    ap (λ (ls : List TableId). record { locks = ls; trail = one.trail; fed = one.fed }) locks
    ∙ ap (λ (k : List Known). record {
      locks = two.locks;
      trail = record { known = k; lost = one.trail.lost };
      fed = one.fed;
    }) known
    ∙ ap (λ (l : List Lost). record {
      locks = two.locks;
      trail = record { known = two.trail.known; lost = l };
      fed = one.fed;
    }) lost
    ∙ ap (λ (cs : List Card). record { locks = two.locks; trail = two.trail; fed = cs }) fed

pub split_so : NoneSent → PartsSplit → (named : ℕ → PlaceLabel) (old new made : FeederView) →
    AreKnown label_of named old.trail.known → new.locks ≡ old.locks →
    new.trail.known ≡ map kept_view old.trail.known → new.trail.lost ≡ old.trail.lost →
    new.fed ≡ old.fed → made.locks ≡ old.locks →
    made.trail.known ≡ map split_view old.trail.known → made.trail.lost ≡ [] → made.fed ≡ [] →
    IsSplitOff old new made
split_so none_sent parts named old new made are locks known lost fed made_locks made_known made_lost
    made_fed = record {
      kept = same_feeder new
          (record old { trail = with_known old.trail (map kept_view old.trail.known) })
          locks known lost fed;
      made_so = same_feeder made
          (record {
            locks = old.locks;
            trail = record { known = map split_view old.trail.known; lost = [] };
            fed = [];
          }) made_locks made_known made_lost made_fed;
      none_sent = λ port.
          ap (sent_in port) made_known ∙ none_sent port old.trail.known;
      parts = λ k rows.
          ap (λ (x : List Known). together_at k Empty (x ∷ made.trail.known ∷ rows)) known
          ∙ ap (λ (x : List Known). together_at k Empty (map kept_view old.trail.known ∷ x ∷ rows))
          made_known
          ∙ parts k old.trail.known rows (live_parts named old.trail.known are);
    }

-- ---- joining

-- what the laws of rows say of joining
abbrev pub BalancedTogether : Type 0
BalancedTogether = (s : Setting) (entered more : List Card) (intos froms afters : List Known)
    (lost gone : List Lost) → IsBalancedBut s [] entered intos lost →
    IsBalancedBut s [] more froms gone → RowJoined 0 intos froms afters →
    IsBalancedBut s [] (entered ++ more) afters (lost ++ gone)

abbrev pub SentTogether : Type 0
SentTogether = (port : ℕ) (intos froms afters : List Known) →
    ((k : ℕ) (v : Known) → slice_get intos k ≡ Some v → HasSeenOwn v) →
    ((k : ℕ) (v : Known) → slice_get froms k ≡ Some v → HasSeenOwn v) →
    RowJoined 0 intos froms afters →
    sent_in port afters ≡ sent_in port intos + sent_in port froms

abbrev pub PartsJoin : Type 0
PartsJoin = (k : ℕ) (intos froms afters : List Known) (rows : List (List Known)) →
    RowJoined 0 intos froms afters →
    together_at k Empty (afters ∷ rows) ≡ together_at k Empty (intos ∷ froms ∷ rows)

-- the pass that both were joined into
pub both_so : BalancedTogether → (s : Setting) (own other all : List Card)
    (intos froms afters : List Known) (before more lost : List Lost) →
    IsBalanced s own intos before → IsBalanced s other froms more →
    RowJoined 0 intos froms afters → all ≡ own ++ other → lost ≡ before ++ more →
    IsBalanced s all afters lost
both_so together s own other all intos froms afters before more lost one two row fed were =
    subst (λ (cs : List Card). IsBalanced s cs afters lost) (sym fed)
    (subst (λ (l : List Lost). IsBalanced s (own ++ other) afters l) (sym were)
    (together s own other intos froms afters before more one two row))

pub joined_so : SentTogether → PartsJoin → (s : Setting) (into from after : FeederView) →
    IsBalanced s into.fed into.trail.known into.trail.lost →
    IsBalanced s from.fed from.trail.known from.trail.lost →
    RowJoined 0 into.trail.known from.trail.known after.trail.known → after.locks ≡ into.locks →
    after.fed ≡ into.fed ++ from.fed → after.trail.lost ≡ into.trail.lost ++ from.trail.lost →
    IsJoined into from after
joined_so sent parts s into from after one two row locks fed lost = record {
  rows = row;
  locks = locks;
  fed = fed;
  lost = lost;
  sent = λ port.
      sent port into.trail.known from.trail.known after.trail.known one.placed two.placed row;
  parts = λ k rows.
      sym (parts k into.trail.known from.trail.known after.trail.known rows row);
}
