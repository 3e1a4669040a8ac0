-- Packets that left are seen to have left, once the turn in which they left has taken place; and so
-- before they arrive again.
use Rattle.std.proofs.Common.{◌≡◌, ◌∙◌, ◌+◌, ℕ, zero, suc, List, [], ◌∷◌, ◌++◌, Option, Some, None}
use Rattle.std.proofs.Common.{refl, sym, ap, subst, arith, inl, inr, append_assoc}
use Rattle.std.specs.Prelude.{map, slice_get}
use Rattle.std.proofs.lemmas.Bool.{eq-eqb}
use Rattle.std.proofs.lemmas.List.{map-append}
use Rattle.std.proofs.lemmas.List.Elements.{filter-append}
use Rattle.packet_entry.specs.declared.packet.Card.{Card}
use Rattle.hook_chain.specs.declared.chain.Decision.{Decision}
use Rattle.queue_core.specs.State.{Bound}
use Rattle.queue_core.specs.Step.{Way, Gone, Open, Decided, step}
use Rattle.queue_core.specs.Laws.{leaving_in}
use Rattle.queue_core.specs.declared.event.Event.{Event}
use Rattle.histories.specs.declared.entry.Entry.{Entry}
use Rattle.histories.specs.History.{history, is_of, replay_from}
use Rattle.histories.specs.Happenings.{all_handed}
use Rattle.histories.specs.States.{entry_of, state_of, step_of}
use Rattle.histories.specs.Stays.{departures, departures_from}
use Rattle.total_order.specs.Orders.{untimed}
use Rattle.total_order.specs.Steps.{Has, HasLeft}
use Rattle.packet_moves.specs.declared.came.Came.{Came}
use Rattle.packet_moves.specs.declared.setting.Setting.{Setting}
use Rattle.packet_moves.specs.OnTheWay.{IsTurned}
use Rattle.place_rows.specs.Rows.{TimedKnown}
use Rattle.place_turns.specs.Departures.{HasSeenLeave, HasSeenCome, HasSeenOff, HaveSeenAll}
use Rattle.place_turns.specs.Departures.{SeeOn}
use Rattle.place_turns.proofs.OwnEntries.{begins_with}

has_front : (number visit : ℕ) (cs ds : List Card) → Has number visit cs →
    Has number visit (cs ++ ds)
has_front number visit [] ds h = absurd h
has_front number visit (c ∷ cs) ds (inl e) = inl e
has_front number visit (c ∷ cs) ds (inr h) = inr (has_front number visit cs ds h)

has_behind : (number visit : ℕ) (cs ds : List Card) → Has number visit ds →
    Has number visit (cs ++ ds)
has_behind number visit [] ds h = h
has_behind number visit (c ∷ cs) ds h = inr (has_behind number visit cs ds h)

departed : (q : Option Bound) (es fs : List Entry) →
    departures_from q (es ++ fs) ≡ departures_from q es ++ departures_from (replay_from q es) fs
departed q [] fs = refl
departed q (e ∷ es) fs =
    ap (λ cs. leaving_in (step q e.event) ++ cs) (departed (step q e.event).state es fs)
    ∙ sym (append_assoc (leaving_in (step q e.event)) (departures_from (step q e.event).state es)
    (departures_from (replay_from (step q e.event).state es) fs))

departed_in : (queue : ℕ) (es fs : List Entry) →
    departures (history queue (es ++ fs))
    ≡ departures (history queue es) ++ departures_from (state_of es queue) (history queue fs)
departed_in queue es fs =
    ap departures (filter-append (is_of queue) es fs)
    ∙ departed None (history queue es) (history queue fs)

-- a packet that left has left however the list goes on
left_on : (number visit : ℕ) (es fs : List Entry) → HasLeft number visit es →
    HasLeft number visit (es ++ fs)
left_on number visit es fs is = record {
  queue = is.queue;
  left = subst (λ cs. Has number visit cs) (sym (departed_in is.queue es fs))
      (has_front number visit (departures (history is.queue es)) _ is.left);
}

-- the part of an entry's queue has it last
last_part : (queue : ℕ) (e : Entry) → e.queue ≡ queue → history queue (e ∷ []) ≡ e ∷ []
last_part queue e is = rw (eq-eqb e.queue queue is) refl

-- of packets that left in a step, each has left
abbrev HaveLeft : List Entry → List (Card × Way) → Type 0
HaveLeft es [] = Unit {0}
HaveLeft es (l ∷ ls) = HasLeft l.0.number l.0.visit es × HaveLeft es ls

-- what leaves in a step has left once its entry is there
left_by : (es : List Entry) (queue : ℕ) (event : Event) →
    HaveLeft (es ++ entry_of es queue event ∷ []) (step_of es queue event).left
left_by es queue event = each [] (step_of es queue event).left refl
  where
    e : Entry
    e = entry_of es queue event

    left : List (Card × Way)
    left = (step_of es queue event).left

    whole : departures (history queue (es ++ e ∷ []))
        ≡ departures (history queue es) ++ (map (λ (l : Card × Way). l.0) left ++ [])
    whole = departed_in queue es (e ∷ [])
        ∙ ap (λ fs. departures (history queue es) ++ departures_from (state_of es queue) fs)
        (last_part queue e refl)

    each : (front behind : List (Card × Way)) → front ++ behind ≡ left →
        HaveLeft (es ++ e ∷ []) behind
    each front [] is = tt
    each front (l ∷ ls) is = (
      record {
        queue = queue;
        left = subst (λ cs. Has l.0.number l.0.visit cs) (sym whole)
            (has_behind l.0.number l.0.visit (departures (history queue es)) _
            (subst (λ ms. Has l.0.number l.0.visit (map (λ (m : Card × Way). m.0) ms ++ [])) is
            (within front)));
      },
      each (front ++ l ∷ []) ls (append_assoc front (l ∷ []) ls ∙ is),
    )
      where
        within : (ms : List (Card × Way)) →
            Has l.0.number l.0.visit (map (λ (m : Card × Way). m.0) (ms ++ l ∷ ls) ++ [])
        within [] = inl (refl, refl)
        within (m ∷ ms) = inr (within ms)

-- ---- rows of passes

module _ (row news : List TimedKnown) (on : SeeOn row news) where
  -- a packet that was seen to leave is so as more is seen
  pub seen_leave_on : (number visit : ℕ) → HasSeenLeave row number visit →
      HasSeenLeave news number visit
  seen_leave_on number zero h = tt
  seen_leave_on number (suc visit) h =
      let then_ = on h.place h.pass h.there in
      let p = then_.turns in
      record {
        place = h.place;
        pass = then_.after;
        there = then_.at;
        so = subst (HasLeft number (suc visit))
            (sym (map-append (λ (x : Entry × ℕ). x.0) h.pass.seen p.0) ∙ ap untimed p.1)
            (left_on number (suc visit) (untimed h.pass.seen) (untimed p.0) h.so);
      }

  pub seen_all_on : (hs : List (Card × Decision)) → HaveSeenAll row hs → HaveSeenAll news hs
  seen_all_on [] are = tt
  seen_all_on (h ∷ hs) are =
      (seen_leave_on h.0.number h.0.visit are.0, seen_all_on hs are.1)

pub sees_itself : (row : List TimedKnown) → SeeOn row row
sees_itself row k v at = record { after = v; at = at; turns = ([], begins v.seen) }
  where
    begins : {X : Type 0} (xs : List X) → xs ++ [] ≡ xs
    begins [] = refl
    begins (x ∷ xs) = ap (λ l. x ∷ l) (begins xs)

pub sees_further : (row mid news : List TimedKnown) → SeeOn row mid → SeeOn mid news →
    SeeOn row news
sees_further row mid news one two k v at =
    let first = one k v at in
    let then_ = two k first.after first.at in
    record {
      after = then_.after;
      at = then_.at;
      turns = begins_with v.seen first.after.seen then_.after.seen first.turns then_.turns;
    }

-- a pass that has seen an entry at the end of these has seen what left in its step
module _ (row : List TimedKnown) (place : ℕ) (w : TimedKnown) (at : slice_get row place ≡ Some w)
    (es : List Entry) (queue : ℕ) (event : Event)
    (is : untimed w.seen ≡ es ++ entry_of es queue event ∷ []) where
  seen_one : (number visit : ℕ) → HasLeft number visit (es ++ entry_of es queue event ∷ []) →
      HasSeenLeave row number visit
  seen_one number zero h = tt
  seen_one number (suc visit) h =
      record {
        place = place;
        pass = w;
        there = at;
        so = subst (HasLeft number (suc visit)) (sym is) h;
      }

  pub seen_alone : (card : Card) (way : Way) →
      (step_of es queue event).left ≡ (card, way) ∷ [] → HasSeenLeave row card.number card.visit
  seen_alone card way alone =
      seen_one card.number card.visit
      (subst (HaveLeft (es ++ entry_of es queue event ∷ [])) alone (left_by es queue event)).0

  handed_seen : (left : List (Card × Way)) →
      HaveLeft (es ++ entry_of es queue event ∷ []) left → HaveSeenAll row (all_handed left)
  handed_seen [] are = tt
  handed_seen ((card, Gone) ∷ left) are = handed_seen left are.1
  handed_seen ((card, Open) ∷ left) are = handed_seen left are.1
  handed_seen ((card, Decided d) ∷ left) are =
      (seen_one card.number card.visit are.0, handed_seen left are.1)

  pub handed_all_seen : HaveSeenAll row (all_handed (step_of es queue event).left)
  handed_all_seen = handed_seen (step_of es queue event).left (left_by es queue event)

-- ---- a packet on its way

-- a packet that came back goes on, if it does, as one that was seen to leave
pub off_so : (row : List TimedKnown) (s : Setting) (card : Card) (way : Way) (came : Came) →
    IsTurned s card way came → HasSeenLeave row card.number card.visit → HasSeenOff row came
off_so row s card Gone came is seen =
    subst (HasSeenOff row) (sym is) tt
off_so row s card Open came is seen =
    subst (HasSeenOff row) (sym is) seen
off_so row s card (Decided decision) came is seen = absurd is

-- one that was seen to leave may arrive at the next visit
pub come_next : (row : List TimedKnown) (number visit : ℕ) → HasSeenLeave row number visit →
    HasSeenCome row number (visit + 1)
come_next row number visit seen =
    let next : suc visit ≡ visit + 1 = omega arith in
    subst (HasSeenCome row number) next seen

-- one that was fed has not been anywhere
pub nowhere_yet : (row : List TimedKnown) (number visit : ℕ) → visit ≡ 0 →
    HasSeenLeave row number visit
nowhere_yet row number visit is = subst (HasSeenLeave row number) (sym is) tt
