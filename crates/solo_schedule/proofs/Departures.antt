-- What leaves a queue: in an entry's step, and from then on as entries are appended.
use Rattle.std.proofs.Common.{◌≡◌, ◌∙◌, ◌+◌, ℕ, zero, suc, List, [], ◌∷◌, ◌++◌, Option, None}
use Rattle.std.proofs.Common.{refl, sym, ap, subst, inl, inr, arith, append_assoc}
use Rattle.std.specs.Prelude.{map}
use Rattle.std.proofs.lemmas.Bool.{eq-eqb}
use Rattle.std.proofs.lemmas.List.Elements.{filter-append}
use Rattle.packet_entry.specs.declared.packet.Card.{Card}
use Rattle.queue_core.specs.State.{Bound}
use Rattle.queue_core.specs.Step.{Way, Gone, Open, Decided, step}
use Rattle.queue_core.specs.Laws.{leaving_in}
use Rattle.queue_core.specs.declared.event.Event.{Event}
use Rattle.histories.specs.declared.entry.Entry.{Entry}
use Rattle.histories.specs.History.{history, is_of, replay_from}
use Rattle.histories.specs.Happenings as happening
use Rattle.histories.specs.States.{entry_of, state_of, step_of}
use Rattle.histories.specs.Stays.{departures, departures_from}
use Rattle.total_order.specs.Steps.{Has, HasCome, HasLeft}

pub has_front : (number visit : ℕ) (cs ds : List Card) → Has number visit cs →
    Has number visit (cs ++ ds)
has_front number visit [] ds h = absurd h
has_front number visit (c ∷ cs) ds (inl e) = inl e
has_front number visit (c ∷ cs) ds (inr h) = inr (has_front number visit cs ds h)

pub has_behind : (number visit : ℕ) (cs ds : List Card) → Has number visit ds →
    Has number visit (cs ++ ds)
has_behind number visit [] ds h = h
has_behind number visit (c ∷ cs) ds h = inr (has_behind number visit cs ds h)

departed : (q : Option Bound) (es fs : List Entry) →
    departures_from q (es ++ fs) ≡ departures_from q es ++ departures_from (replay_from q es) fs
departed q [] fs = refl
departed q (e ∷ es) fs =
    ap (λ cs. leaving_in (step q e.event) ++ cs) (departed (step q e.event).state es fs)
    ∙ sym (append_assoc (leaving_in (step q e.event)) (departures_from (step q e.event).state es)
    (departures_from (replay_from (step q e.event).state es) fs))

departed_in : (queue : ℕ) (es fs : List Entry) →
    departures (history queue (es ++ fs))
    ≡ departures (history queue es) ++ departures_from (state_of es queue) (history queue fs)
departed_in queue es fs =
    ap departures (filter-append (is_of queue) es fs)
    ∙ departed None (history queue es) (history queue fs)

left_on : (number visit : ℕ) (es fs : List Entry) → HasLeft number visit es →
    HasLeft number visit (es ++ fs)
left_on number visit es fs is = record {
  queue = is.queue;
  left = subst (λ cs. Has number visit cs) (sym (departed_in is.queue es fs))
      (has_front number visit (departures (history is.queue es)) _ is.left);
}

-- a packet that left comes again at the next visit
pub come_next : (number visit : ℕ) (es : List Entry) → HasLeft number visit es →
    HasCome number (visit + 1) es
come_next number zero es is = tt
come_next number (suc visit) es is =
    let next : suc (suc visit) ≡ suc visit + 1 = omega arith in
    subst (λ v. HasCome number v es) next is

-- of packets that go on, each has left
abbrev pub HaveLeft : {B : Type 0} → List Entry → List (Card × B) → Type 0
HaveLeft es [] = Unit {0}
HaveLeft es (l ∷ ls) = HasLeft l.0.number l.0.visit es × HaveLeft es ls

pub have_left_on : {B : Type 0} (es fs : List Entry) (ls : List (Card × B)) → HaveLeft es ls →
    HaveLeft (es ++ fs) ls
have_left_on es fs [] are = tt
have_left_on es fs (l ∷ ls) are =
    (left_on l.0.number l.0.visit es fs are.0, have_left_on es fs ls are.1)

-- the part of an entry's queue has it last
pub last_part : (queue : ℕ) (e : Entry) → e.queue ≡ queue → history queue (e ∷ []) ≡ e ∷ []
last_part queue e is = rw (eq-eqb e.queue queue is) refl

-- what leaves in a step has left once its entry is there
pub left_by : (es : List Entry) (queue : ℕ) (event : Event) →
    HaveLeft (es ++ entry_of es queue event ∷ []) (step_of es queue event).left
left_by es queue event = each [] (step_of es queue event).left refl
  where
    e : Entry
    e = entry_of es queue event

    left : List (Card × Way)
    left = (step_of es queue event).left

    whole : departures (history queue (es ++ e ∷ []))
        ≡ departures (history queue es) ++ (map (λ (l : Card × Way). l.0) left ++ [])
    whole = departed_in queue es (e ∷ [])
        ∙ ap (λ fs. departures (history queue es) ++ departures_from (state_of es queue) fs)
        (last_part queue e refl)

    each : (front behind : List (Card × Way)) → front ++ behind ≡ left →
        HaveLeft (es ++ e ∷ []) behind
    each front [] is = tt
    each front (l ∷ ls) is = (
      record {
        queue = queue;
        left = subst (λ cs. Has l.0.number l.0.visit cs) (sym whole)
            (has_behind l.0.number l.0.visit (departures (history queue es)) _
            (subst (λ ms. Has l.0.number l.0.visit (map (λ (m : Card × Way). m.0) ms ++ [])) is
            (within front)));
      },
      each (front ++ l ∷ []) ls (append_assoc front (l ∷ []) ls ∙ is),
    )
      where
        within : (ms : List (Card × Way)) →
            Has l.0.number l.0.visit (map (λ (m : Card × Way). m.0) (ms ++ l ∷ ls) ++ [])
        within [] = inl (refl, refl)
        within (m ∷ ms) = inr (within ms)

pub handed_left : (es : List Entry) (left : List (Card × Way)) → HaveLeft es left →
    HaveLeft es (happening.all_handed left)
handed_left es [] are = tt
handed_left es ((card, Gone) ∷ left) are = handed_left es left are.1
handed_left es ((card, Open) ∷ left) are = handed_left es left are.1
handed_left es ((card, Decided d) ∷ left) are = (are.0, handed_left es left are.1)
