-- Histories that are followed entry by entry.
use Rattle.std.proofs.Common.{◌≡◌, ℕ, ◌+◌, ◌<◌, ◌^◌, List, [], ◌∷◌, ◌++◌, length}
use Rattle.std.proofs.Common.{true, false, cond, sym, ap, ◌∙◌, subst, arith, inl, inr}
use Rattle.std.proofs.Common.{append_assoc}
use Rattle.std.specs.Prelude.{◌==◌}
use Rattle.std.proofs.lemmas.Bool.{cases_Bool, eqb-true}
use Rattle.std.proofs.lemmas.List.{length-append, append-nil}
use Rattle.histories.specs.declared.entry.Entry.{Entry}
use Rattle.histories.specs.History.{replay, history, is_of, IsStep, AreLegal}
use Rattle.histories.specs.QueueHistories.{own_last, others_last, state_last, step_at}
use Rattle.pcap_io.specs.declared.capture.Frame.{Frame}
use Rattle.fate_ledger.specs.Fates.{happens_after, happenings_after, happenings}
use Rattle.fate_ledger.specs.declared.followed_queues.FollowedQueues.{FollowedQueues}
use Rattle.fate_ledger.specs.Following.{followed, AreNew, Follows, IsFollowed, AreFollowed, told_by}
use Rattle.fate_ledger.specs.Following.{Kept, lasts, noted_all, at_in, waiting_in, waiting_of}
use Rattle.fate_ledger.specs.Following.{place_after}
use Rattle.fate_ledger.specs.Following.{told, waiting_after}
use Rattle.fate_ledger.proofs.Steps.{entry_tells}
use Rattle.fate_ledger.proofs.LastEventTable.{all_noted}

-- ---- the events of entries

happenings_on_after : (p es : List Entry) (e : Entry) →
    happenings_after p (es ++ e ∷ []) ≡ happenings_after p es ++ happens_after (p ++ es) e
happenings_on_after p [] e =
    append-nil (happens_after p e)
    ∙ ap (λ (gs : List Entry). happens_after gs e) (sym (append-nil p))
happenings_on_after p (d ∷ es) e =
    ap (λ hs. happens_after p d ++ hs) (happenings_on_after (p ++ d ∷ []) es e
    ∙ ap (λ (gs : List Entry). happenings_after (p ++ d ∷ []) es ++ happens_after gs e)
    (append_assoc p (d ∷ []) es))
    ∙ sym (append_assoc (happens_after p d) (happenings_after (p ++ d ∷ []) es)
    (happens_after (p ++ d ∷ es) e))

pub happenings_on : (es : List Entry) (e : Entry) →
    happenings (es ++ e ∷ []) ≡ happenings es ++ happens_after es e
happenings_on es e = happenings_on_after [] es e

-- ---- one entry more

-- so many entries are followed, and these are still to come
pub record IsUnderway (entries rest : List Entry) (queues : FollowedQueues) (kept : Kept)
    (frames : List Frame) : Type 0 where
  pub before : List Entry
  pub split : entries ≡ before ++ rest
  pub followed : AreFollowed before queues
  pub noted : kept ≡ lasts (happenings before) 1 frames

-- the place of the next entry
place_is : (before : List Entry) (queues : FollowedQueues) (e : Entry) →
    length (history e.queue before) + 1 < 2 ^ 64 → AreFollowed before queues →
    place_after (at_in (followed queues e.queue)) ≡ length (history e.queue before) + 1
place_is before queues e few are =
    ap place_after (are e.queue).at ∙ (let small : place_after (length (history e.queue before))
    ≡ length (history e.queue before) + 1 = omega (arith, few) in small)

followed_on : (before : List Entry) (old new : FollowedQueues) (e : Entry) →
    length (history e.queue before) + 1 < 2 ^ 64 → AreFollowed before old → Follows old new e →
    IsStep (replay (history e.queue before)) e → AreFollowed (before ++ e ∷ []) new
followed_on before old new e few are follows is queue =
    elim (cases_Bool (e.queue == queue)) [
      | inl own ↦ (let same : e.queue ≡ queue = eqb-true e.queue queue own in
          subst (λ q. IsFollowed (history q (before ++ e ∷ [])) (followed new q)) same own_is)
      | inr other ↦ subst (λ gs. IsFollowed gs (followed new queue))
          (sym (others_last before e queue other)) (record {
            at = (follows.others queue other).at ∙ (are queue).at;
            waiting = (follows.others queue other).waiting ∙ (are queue).waiting;
          })
    ]
  where
    own_is : IsFollowed (history e.queue (before ++ e ∷ [])) (followed new e.queue)
    own_is = record {
      at = follows.at ∙ place_is before old e few are
          ∙ sym (ap length (own_last before e) ∙ length-append (history e.queue before) (e ∷ []));
      waiting = follows.waiting
          ∙ ap (waiting_after e.event e.reply) (are e.queue).waiting
          ∙ (entry_tells 0 (replay (history e.queue before)) e is).1
          ∙ sym (ap waiting_of (state_last before e));
    }

told_is : (before : List Entry) (queues : FollowedQueues) (e : Entry) →
    length (history e.queue before) + 1 < 2 ^ 64 → AreFollowed before queues →
    IsStep (replay (history e.queue before)) e → told_by queues e ≡ happens_after before e
told_is before queues e few are is =
    ap (λ at. told e.queue at e.event e.reply (waiting_in (followed queues e.queue)))
    (place_is before queues e few are)
    ∙ ap (told e.queue (length (history e.queue before) + 1) e.event e.reply)
    (are e.queue).waiting
    ∙ (entry_tells (length (history e.queue before) + 1) (replay (history e.queue before)) e is).0

no_longer : (queue : ℕ) (es : List Entry) → length (history queue es) < length es + 1
no_longer queue [] = omega arith
no_longer queue (e ∷ es) =
    elim (is_of queue e) as (λ b.
    length (cond b (e ∷ history queue es) (history queue es)) < length (e ∷ es) + 1) [
      | true ↦ omega (arith, no_longer queue es)
      | false ↦ omega (arith, no_longer queue es)
    ]

-- nothing is followed yet
pub underway_first : (entries rest : List Entry) (queues : FollowedQueues)
    (kept : Kept) (frames : List Frame) → rest ≡ entries → AreNew queues →
    kept ≡ lasts [] 1 frames → IsUnderway entries rest queues kept frames
underway_first entries rest queues kept frames all new none = record {
  before = [];
  split = sym all;
  followed = λ queue. record { at = (new queue).at; waiting = (new queue).waiting };
  noted = none;
}

pub underway_on : (entries rest after : List Entry) (e : Entry) (old new : FollowedQueues)
    (kept more : Kept) (frames : List Frame) → length entries < 2 ^ 64 →
    AreLegal entries → rest ≡ e ∷ after → Follows old new e →
    more ≡ noted_all (told_by old e) kept → IsUnderway entries rest old kept frames →
    IsUnderway entries after new more frames
underway_on entries rest after e old new kept more frames few legal front follows grown u =
    record {
      before = u.before ++ e ∷ [];
      split = there ∙ sym (append_assoc u.before (e ∷ []) after);
      followed = followed_on u.before old new e short u.followed follows is;
      noted = grown ∙ ap (λ hs. noted_all hs kept) (told_is u.before old e short u.followed is)
          ∙ ap (noted_all (happens_after u.before e)) u.noted
          ∙ all_noted (happenings u.before) (happens_after u.before e) frames
          ∙ ap (λ hs. lasts hs 1 frames) (sym (happenings_on u.before e));
    }
  where
    there : entries ≡ u.before ++ e ∷ after
    there = u.split ∙ ap (λ (gs : List Entry). u.before ++ gs) front

    is : IsStep (replay (history e.queue u.before)) e
    is = step_at u.before after e (subst AreLegal there legal)

    short : length (history e.queue u.before) + 1 < 2 ^ 64
    short = omega (
      arith,
      few,
      ap length there,
      length-append u.before (e ∷ after),
      no_longer e.queue u.before,
    )
