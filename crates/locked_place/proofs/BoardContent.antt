-- What a board shows.
use Rattle.std.proofs.Common.{◌≡◌, ◌≤◌, ◌<◌, List, [], ◌∷◌, ◌++◌, length, sym, ap}
use Rattle.std.proofs.Common.{◌∙◌, arith, append-nil, append_assoc}
use Rattle.std.specs.Prelude.{map}
use Rattle.std.proofs.lemmas.List.{map-append, length-append}
use mathlib.Core.List.{IsPrefix}
use Rattle.glance.specs.declared.totals.Totals.{Totals}
use Rattle.glance.specs.Numbers.{waiting_span}
use Rattle.glance.specs.Words.{FitOneWord}
use Rattle.glance.specs.Views.{latest, last_of, opening}
use Rattle.histories.specs.declared.entry.Entry.{Entry}
use Rattle.histories.specs.States.{waiting_in_all, told}
use Rattle.locked_place.specs.Shown.{totals_after, Grow, IsShown}

-- ---- beginnings of lists
prefix_self : (xs : List Entry) → IsPrefix xs xs
prefix_self xs = ([], append-nil xs)

prefix_trans : (xs ys zs : List Entry) → IsPrefix xs ys → IsPrefix ys zs → IsPrefix xs zs
prefix_trans xs ys zs p q = (
  p.0 ++ q.0,
  sym (append_assoc xs p.0 q.0) ∙ (ap (λ (w : List Entry). w ++ q.0) p.1 ∙ q.1),
)

prefix_length : (xs ys : List Entry) → IsPrefix xs ys → length xs ≤ length ys
prefix_length xs ys p = omega (arith, sym (ap length p.1) ∙ length-append xs p.0)

-- ---- lists that grow
longer : (front : List Entry) (fs : List (List Entry)) (es after : List Entry) →
    Grow front fs es → IsPrefix es after → Grow front fs after
longer front [] es after grow more = prefix_trans front es after grow more
longer front (f ∷ fs) es after grow more = (grow.0, longer f fs es after grow.1 more)

pushed : (front : List Entry) (fs : List (List Entry)) (es after : List Entry) →
    Grow front fs es → IsPrefix es after → Grow front (fs ++ after ∷ []) after
pushed front [] es after grow more = (prefix_trans front es after grow more, prefix_self after)
pushed front (f ∷ fs) es after grow more = (grow.0, pushed f fs es after grow.1 more)

last_events : (t : Totals) (front : List Entry) (fs : List (List Entry)) (es : List Entry) →
    t.events ≤ length front → Grow front fs es →
    (last_of t (map totals_after fs)).events ≤ length es
last_events t front [] es few grow = omega (arith, few, prefix_length front es grow)
last_events t front (f ∷ fs) es few grow =
    last_events (totals_after f) f fs es (omega arith) grow.1

-- what was published last has no more events than there are
pub no_later : (es after : List Entry) (published : List Totals) → IsPrefix es after →
    IsShown es published → (latest published).events ≤ length after
no_later es after published more shown =
    rw shown.totals
    (omega (
      arith,
      last_events opening [] shown.fronts es (omega arith) shown.grow,
      prefix_length es after more,
    ))

-- totals that fit are published
pub shown_on : (es after : List Entry) (was now : List Totals) (t : Totals) → IsPrefix es after →
    IsShown es was → now ≡ was ++ t ∷ [] → latest now ≡ t → t.events ≡ length after →
    t.waiting ≡ told (waiting_in_all after) → t.waiting < waiting_span → IsShown after now
shown_on es after was now t more shown on last events waiting few =
    let all : t ≡ totals_after after =
    ap (λ n. record { events = n; waiting = t.waiting }) events
    ∙ ap (λ n. record { events = length after; waiting = n }) (omega (arith, waiting, few)) in
    record {
      fronts = shown.fronts ++ after ∷ [];
      totals = on
          ∙ ap (λ (ts : List Totals). ts ++ t ∷ []) shown.totals
          ∙ ap (λ u. map totals_after shown.fronts ++ u ∷ []) all
          ∙ sym (map-append totals_after shown.fronts (after ∷ []));
      grow = pushed [] shown.fronts es after shown.grow more;
      last = λ fits. last ∙ all;
    }

-- and others aren't
pub shown_still : (es after : List Entry) (published : List Totals) → IsPrefix es after →
    IsShown es published → (FitOneWord (totals_after after) → ⊥) → IsShown after published
shown_still es after published more shown unfit = record {
  fronts = shown.fronts;
  totals = shown.totals;
  grow = longer [] shown.fronts es after shown.grow more;
  last = λ fits. absurd (unfit fits);
}
