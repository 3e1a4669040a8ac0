-- All histories, gone over entry by entry.
use Rattle.std.proofs.Common.{◌≡◌, ◌<◌, ℕ, List, [], ◌∷◌, ◌++◌, Option, Some, None, Bool}
use Rattle.std.proofs.Common.{false, refl, sym, ap, ◌∙◌, subst}
use Rattle.std.specs.Prelude.{◌↔◌, IsTrue}
use Rattle.std.specs.BTreeMap.{get, is_at}
use Rattle.std.specs.Ordering.{nat_cmp}
use Rattle.std.proofs.lemmas.Bool.{eq-eqb}
use Rattle.queue_core.specs.State.{Bound}
use Rattle.queue_core.specs.Step.{step}
use Rattle.histories.specs.Numbers.{queue_count}
use Rattle.histories.specs.declared.entry.Entry.{Entry}
use Rattle.histories.specs.History.{history, replay}
use Rattle.script_lines.specs.declared.line.Down.{Down}
use Rattle.inspector_script.specs.Scripts.{ScriptValue}
use Rattle.run_parts.specs.Feeder.{AreFed, IsFed, IsFedBy, downs_in_effect}
use Rattle.queue_replay.specs.Replays.{QueueMap, AreReplayed}
use Rattle.histories.specs.NumberKeys.{not_of, each_number}
use Rattle.histories.specs.QueueHistories.{own_first, other_first, others_last, state_last}
use Rattle.feeder_audit.specs.declared.fed.Fed.{Fed}
use Rattle.feeder_audit.specs.Fitting.{FitsBy, Rises}
use Rattle.feeder_audit.specs.Rows.{all}
use Rattle.feeder_audit.specs.Queues.{FedMap, state_in, IsKeptIn, IsFedIn, FollowsIn, AreKept}
use Rattle.feeder_audit.specs.Queues.{AreWhole, IsWholeIn, AreGoneOver}
use Rattle.feeder_audit.proofs.RowMeaning.{from_first, all_open, all_put}
use Rattle.feeder_audit.proofs.Items.{fits_if, is_fed_if}
use Rattle.feeder_audit.proofs.AscendingTimes.{all_rise}

-- ---- entries that are gone over

-- the lines can be put into a whole history
abbrev Whole : List Down → List Entry → Type 0
Whole downs h = FitsBy None 0 h downs all

-- the entries before are gone over
pub record AreGoing (downs : List Down) (entries : List Entry) (feds : FedMap)
    (before rest : List Entry) : Type 0 where
  pub kept : AreKept downs feds
  pub short : (q : ℕ) (f : Fed) → get nat_cmp feds q ≡ Some f → q < queue_count
  pub goes : (q : ℕ) → Whole downs (history q entries) →
      IsFedIn downs (replay (history q before)) (get nat_cmp feds q) (history q rest)
  pub came : (q : ℕ) →
      IsFedIn downs (replay (history q before)) (get nat_cmp feds q) (history q rest) →
      Whole downs (history q entries)

pub none_gone : (downs : List Down) (entries : List Entry) (feds : FedMap) →
    ((q : ℕ) → get nat_cmp feds q ≡ None) → AreGoing downs entries feds [] entries
none_gone downs entries feds none = record {
  kept = λ q. subst (IsKeptIn downs) (sym (none q)) tt;
  short = λ q f there. absurd (let wrong : None ≡ Some f = sym (none q) ∙ there in cc);
  goes = λ q fed. subst (λ o. IsFedIn downs None o (history q entries)) (sym (none q)) fed;
  came = λ q fed. subst (λ o. IsFedIn downs None o (history q entries)) (none q) fed;
}

module _ (downs : List Down) (entries before others : List Entry) (e : Entry)
    (old new : FedMap) (are : AreGoing downs entries old before (e ∷ others))
    (follows : FollowsIn downs (replay (history e.queue before)) old new e)
    (few : e.queue < queue_count) where
  own_rest : history e.queue (e ∷ others) ≡ e ∷ history e.queue others
  own_rest = own_first e.queue e others (eq-eqb e.queue e.queue refl)

  own_state : (step (replay (history e.queue before)) e.event).state
      ≡ replay (history e.queue (before ++ e ∷ []))
  own_state = sym (state_last before e)

  -- nothing is so of another queue that wasn't
  other_fed : (q : ℕ) → is_at (nat_cmp e.queue) q ≡ false →
      IsFedIn downs (replay (history q before)) (get nat_cmp old q) (history q (e ∷ others))
      ≡ IsFedIn downs (replay (history q (before ++ e ∷ []))) (get nat_cmp new q)
      (history q others)
  other_fed q other =
      ap (λ es. IsFedIn downs (replay (history q before)) (get nat_cmp old q) es)
      (other_first q e others (not_of e.queue q other))
      ∙ ap (λ es. IsFedIn downs (replay es) (get nat_cmp old q) (history q others))
      (sym (others_last before e q (not_of e.queue q other)))
      ∙ ap (λ o. IsFedIn downs (replay (history q (before ++ e ∷ []))) o (history q others))
      (sym (follows.others q other))

  pub going_on : AreGoing downs entries new (before ++ e ∷ []) others
  going_on = record {
    kept = each_number (λ q. IsKeptIn downs (get nat_cmp new q)) e.queue follows.kept
        (λ q other. subst (IsKeptIn downs) (sym (follows.others q other)) (are.kept q));
    short = λ q f. each_number (λ k. get nat_cmp new k ≡ Some f → k < queue_count) e.queue
        (λ there. few)
        (λ k other there. are.short k f (sym (follows.others k other) ∙ there)) q;
    goes = each_number
        (λ q. Whole downs (history q entries) →
        IsFedIn downs (replay (history q (before ++ e ∷ []))) (get nat_cmp new q)
        (history q others))
        e.queue
        (λ fed. subst (λ (q : Option Bound). IsFedIn downs q (get nat_cmp new e.queue)
        (history e.queue others)) own_state (follows.goes (history e.queue others)
        (subst (IsFedIn downs (replay (history e.queue before)) (get nat_cmp old e.queue))
        own_rest (are.goes e.queue fed))))
        (λ q other fed. subst (λ (T : Type 0). T) (other_fed q other) (are.goes q fed));
    came = each_number
        (λ q. IsFedIn downs (replay (history q (before ++ e ∷ []))) (get nat_cmp new q)
        (history q others) → Whole downs (history q entries))
        e.queue
        (λ fed. are.came e.queue
        (subst (IsFedIn downs (replay (history e.queue before)) (get nat_cmp old e.queue))
        (sym own_rest) (follows.came (history e.queue others)
        (subst (λ (q : Option Bound). IsFedIn downs q (get nat_cmp new e.queue)
        (history e.queue others)) (sym own_state) fed))))
        (λ q other fed. are.came q (subst (λ (T : Type 0). T) (sym (other_fed q other)) fed));
  }

-- ---- at the end

module _ (downs : List Down) (entries : List Entry) (feds : FedMap)
    (are : AreGoing downs entries feds entries []) where
  fed_in : (q : Option Bound) (o : Option Fed) → IsWholeIn downs q o → IsFedIn downs q o []
  fed_in q None whole = all_put q 0 downs all refl
  fed_in q (Some f) whole = whole

  whole_in : (q : ℕ) (o : Option Fed) → get nat_cmp feds q ≡ o →
      ((queue : ℕ) → queue < queue_count → Whole downs (history queue entries)) →
      IsWholeIn downs (replay (history q entries)) o
  whole_in q None there each = tt
  whole_in q (Some f) there each =
      subst (λ o. IsFedIn downs (replay (history q entries)) o []) there
      (are.goes q (each q (are.short q f there)))

  pub all_gone : AreGoneOver downs entries feds
  all_gone = record {
    kept = are.kept;
    whole = (
      λ each q. whole_in q (get nat_cmp feds q) refl each,
      λ whole q few. are.came q
          (fed_in (replay (history q entries)) (get nat_cmp feds q) (whole q)),
    );
  }

-- ---- the answer

-- the law of one feeder
pub record OneFeeder : Type 0 where
  pub fed : (downs : List Down) (h : List Entry) → IsFed downs h → IsFedBy 1 downs h
  pub all : (downs : List Down) (h : List Entry) → IsFedBy 1 downs h → IsFed downs h

pub fed_exactly : (law : OneFeeder) (script : ScriptValue) (frames : ℕ) (entries : List Entry)
    (downs : List Down) (queues : QueueMap) (feds : FedMap) (b : Bool) →
    downs ≡ downs_in_effect script frames → AreReplayed entries queues →
    AreGoneOver downs entries feds → IsTrue b ↔ AreWhole downs (state_in queues) feds →
    IsTrue b ↔ AreFed 1 script frames entries
fed_exactly law script frames entries downs queues feds b are replayed gone is = (
  λ true_is queue few. subst (λ ds. IsFedBy 1 ds (history queue entries)) are
      (law.fed downs (history queue entries) (is_fed_if downs (history queue entries)
      (from_first 0 (history queue entries) downs rises
      (gone.whole.1 (λ q. subst (λ (o : Option Bound). IsWholeIn downs o (get nat_cmp feds q))
      (replayed q) (is.0 true_is q)) queue few)))),
  λ fed. is.1 (λ q. subst (λ (o : Option Bound). IsWholeIn downs o (get nat_cmp feds q))
      (sym (replayed q)) (gone.whole.0 (λ queue few.
      all_open 0 (history queue entries) downs (fits_if downs (history queue entries)
      (law.all downs (history queue entries)
      (subst (λ ds. IsFedBy 1 ds (history queue entries)) (sym are) (fed queue few))))) q)),
)
  where
    rises : Rises 0 downs
    rises = subst (Rises 0) (sym are) (all_rise script frames)
