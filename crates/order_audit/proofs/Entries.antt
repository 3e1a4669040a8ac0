-- Entries of several queues, and those of steps.
use Rattle.std.proofs.Common.{◌≡◌, ℕ, List, [], ◌∷◌, ◌++◌, refl, sym, ap, subst, ◌∙◌, Bool, true}
use Rattle.std.proofs.Common.{false}
use Rattle.std.specs.Prelude.{if◌then◌else◌}
use Rattle.std.proofs.lemmas.List.{map-append}
use Rattle.std.proofs.lemmas.List.Elements.{filter-append}
use mathlib.Core.List.{IsPrefix}
use Rattle.queue_core.specs.declared.event.Event.TheVariants.{PortClosed}
use Rattle.queue_core.specs.declared.event.Reply.TheVariants.{Flushed}
use Rattle.histories.specs.declared.entry.Entry.{Entry}
use Rattle.histories.specs.declared.log.Did.{Did}
use Rattle.histories.specs.declared.log.PortLog.{PortLog}
use Rattle.histories.specs.History.{history, is_of}
use Rattle.total_order.specs.Orders.{part, GoesOn}
use Rattle.total_order.specs.Steps.{Step, AreTaken, IsCausedAs}
use Rattle.total_order.specs.TotalOrder.{queue_of, entries, IsCaused}

-- ---- entries of steps

-- a step more is an entry more
pub entries_more : (ss : List Step) (s : Step) → entries (ss ++ s ∷ []) ≡ entries ss ++ s.entry ∷ []
entries_more ss s = map-append (λ (t : Step). t.entry) ss (s ∷ [])

-- ---- histories go on

-- each queue's history goes on
abbrev pub GoOn : List Entry → List Entry → Type 0
GoOn es fs = (queue : ℕ) → IsPrefix (history queue es) (history queue fs)

-- so it does with an entry more
pub one_goes_on : (es : List Entry) (e : Entry) → GoOn es (es ++ e ∷ [])
one_goes_on es e queue = (
  history queue (e ∷ []),
  sym (filter-append (is_of queue) es (e ∷ [])),
)

-- entries as steps, of which no position matters
abbrev plain : List Entry → List Step
plain [] = []
plain (e ∷ es) = record { entry = e; at = 0 } ∷ plain es

-- they have the same entries
plain_entries : (es : List Entry) → entries (plain es) ≡ es
plain_entries [] = refl
plain_entries (e ∷ es) = ap (λ xs. e ∷ xs) (plain_entries es)

-- each queue's part of them is its history
plain_part : (queue : ℕ) (es : List Entry) →
    part queue_of queue (plain es) ≡ plain (history queue es)
plain_part queue [] = refl
plain_part queue (e ∷ es) = by (is_of queue e) (plain_part queue es)
  where
    by : (b : Bool) → part queue_of queue (plain es) ≡ plain (history queue es) →
        (if b then record { entry = e; at = 0 } ∷ part queue_of queue (plain es)
        else part queue_of queue (plain es))
        ≡ plain (if b then e ∷ history queue es else history queue es)
    by true rest = ap (λ xs. record { entry = e; at = 0 } ∷ xs) rest
    by false rest = rest

-- they are put together in the same way
plain_append : (es fs : List Entry) → plain (es ++ fs) ≡ plain es ++ plain fs
plain_append [] fs = refl
plain_append (e ∷ es) fs = ap (λ xs. record { entry = e; at = 0 } ∷ xs) (plain_append es fs)

-- what the law of total orders says: what a step rests on goes on to be before it
abbrev pub Persists : Type 0
Persists = (logs : List PortLog) (s : Step) (before after : List Step) →
    GoesOn queue_of before after → IsCaused logs before s → IsCaused logs after s

module _ (persists : Persists) where
  -- what an event rests on goes on to be before it
  pub caused_on : (logs : List PortLog) (s : Step) (es fs : List Entry) → GoOn es fs →
      IsCausedAs logs es s.at s.entry.event → IsCausedAs logs fs s.at s.entry.event
  caused_on logs s es fs on is =
      subst (λ xs. IsCausedAs logs xs s.at s.entry.event) (plain_entries fs)
      (persists logs s (plain es) (plain fs)
      (λ queue. (
        plain (on queue).0,
        ap (λ xs. xs ++ plain (on queue).0) (plain_part queue es)
            ∙ sym (plain_append (history queue es) (on queue).0)
            ∙ ap plain (on queue).1 ∙ sym (plain_part queue fs),
      ))
      (subst (λ xs. IsCausedAs logs xs s.at s.entry.event) (sym (plain_entries es)) is))

  -- the arrivals of notices that were before go on to be before
  pub taken_on : (ds : List Did) (es fs : List Entry) → GoOn es fs → AreTaken ds es →
      AreTaken ds fs
  taken_on ds es fs on are =
      caused_on (record { port = 0; dids = ds } ∷ [])
      (record {
        entry = record { queue = 0; event = PortClosed 0; reply = Flushed 0 };
        at = 0;
      }) es fs on are
