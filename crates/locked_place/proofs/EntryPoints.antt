-- One entry more is one point more.
use Rattle.std.proofs.Common.{◌≡◌, ℕ, ◌+◌, List, [], ◌∷◌, ◌++◌, Option, Bool, true, false, sym}
use Rattle.std.proofs.Common.{ap, ◌∙◌, append-nil, append_assoc, cond, subst}
use Rattle.std.specs.Prelude.{flat_map, length, ◌==◌}
use Rattle.std.proofs.lemmas.Grind.{flat_map-append}
use Rattle.std.proofs.lemmas.List.Sums.{sum_by_push}
use Rattle.std.proofs.lemmas.Bool.{eqb-true}
use Rattle.packet_entry.specs.declared.letter.Letter.{Letter}
use Rattle.queue_core.specs.declared.event.Event.{Event}
use Rattle.queue_core.specs.Step.{step}
use Rattle.queue_core.specs.State.{Bound}
use Rattle.queue_core.specs.Laws.{Tells}
use Rattle.histories.specs.declared.entry.Entry.{Entry}
use Rattle.histories.specs.History.{replay, history, is_of}
use Rattle.histories.specs.States.{state_of}
use Rattle.locked_place.specs.Points.{Point, points, points_after, point_after}
use Rattle.locked_place.specs.Notices.{letters_to, letters_at, lacking, lacks_at}

-- what the laws of the crates below promise
pub record Laws : Type 0 where
  -- an entry more goes on with its own queue's history, and with no other
  pub own : (es : List Entry) (e : Entry) →
      history e.queue (es ++ e ∷ []) ≡ history e.queue es ++ e ∷ []
  pub others : (es : List Entry) (e : Entry) (queue : ℕ) → (e.queue == queue) ≡ false →
      history queue (es ++ e ∷ []) ≡ history queue es
  pub state : (es : List Entry) (e : Entry) →
      replay (es ++ e ∷ []) ≡ (step (replay es) e.event).state
  -- a reply tells how many packets left
  pub tells : (q : Option Bound) (e : Event) →
      Tells e (step q e).reply (length (step q e).left)

abbrev pub once : Bool → ℕ
once b = cond b 1 0

pub points_on : (es : List Entry) (e : Entry) →
    points (es ++ e ∷ []) ≡ points es ++ point_after es e ∷ []
points_on es e = after [] es
  where
    after : (before es : List Entry) → points_after before (es ++ e ∷ [])
        ≡ points_after before es ++ point_after (before ++ es) e ∷ []
    after before [] = ap (λ b. point_after b e ∷ []) (sym (append-nil before))
    after before (d ∷ es) =
        ap (λ ps. point_after before d ∷ ps)
        (after (before ++ d ∷ []) es
        ∙ ap (λ b. points_after (before ++ d ∷ []) es ++ point_after b e ∷ [])
        (append_assoc before (d ∷ []) es))

pub letters_on : (port : ℕ) (es : List Entry) (e : Entry) →
    letters_to port (es ++ e ∷ []) ≡ letters_to port es ++ letters_at port (point_after es e)
letters_on port es e =
    ap (flat_map (letters_at port)) (points_on es e)
    ∙ flat_map-append (letters_at port) (points es) (point_after es e ∷ [])
    ∙ ap (λ (ls : List Letter). letters_to port es ++ ls)
    (append-nil (letters_at port (point_after es e)))

pub lacking_on : (port : ℕ) (es : List Entry) (e : Entry) →
    lacking port (es ++ e ∷ []) ≡ lacking port es + once (lacks_at port (point_after es e))
lacking_on port es e =
    ap (λ ps. sum_of ps) (points_on es e)
    ∙ sum_by_push (λ p. once (lacks_at port p)) (points es) (point_after es e)
  where
    sum_of : List Point → ℕ
    sum_of ps = Rattle.std.specs.List.count_by (lacks_at port) ps

module _ (laws : Laws) where
  -- the state of a queue, one entry on
  pub state_own : (es : List Entry) (e : Entry) (queue : ℕ) → is_of queue e ≡ true →
      state_of (es ++ e ∷ []) queue ≡ (step (state_of es queue) e.event).state
  state_own es e queue own =
      subst (λ n. state_of (es ++ e ∷ []) n ≡ (step (state_of es n) e.event).state)
      (eqb-true e.queue queue own)
      (ap replay (laws.own es e) ∙ laws.state (history e.queue es) e)

  pub state_other : (es : List Entry) (e : Entry) (queue : ℕ) → is_of queue e ≡ false →
      state_of (es ++ e ∷ []) queue ≡ state_of es queue
  state_other es e queue other = ap replay (laws.others es e queue other)
