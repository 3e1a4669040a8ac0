-- A stage behind the openings ends where all passes meet.
use Rattle.std.proofs.Common.{◌++◌, ◌<◌, ◌∙◌, ◌≡◌, ◌⊎◌, Bool, List, [], ap, append_assoc, false}
use Rattle.std.proofs.Common.{inl, inr, refl, subst, sym, true, ℕ}
use Rattle.std.proofs.lemmas.Bool.{cases_Bool}
use Rattle.histories.specs.declared.entry.Entry.{Entry}
use Rattle.inspector_script.specs.Scripts.{ScriptValue}
use Rattle.run_parts.specs.Log.{Note}
use Rattle.run_parts.specs.Ports.{is_port}
use Rattle.live_runs.specs.Meetings.{ArePorts, IsMeeting}
use Rattle.live_runs.specs.Owners.{IsFeeders, IsOf}
use Rattle.live_runs.specs.Passes.{AreMet, Pass, feeder_number, is_pass, seen_at}
use Rattle.live_runs.specs.Ports.{IsPort}
use Rattle.live_runs.specs.Seen.{Grows, OursAre, Seen, all_theirs, entries}
use Rattle.live_runs.specs.Stages.{Adds, Follows, IsPlain, Stage, Went, WentFeeding, early_of}
use Rattle.live_runs.specs.Stages.{late_of}
use Rattle.live_runs.specs.Stands.{Stand}
use Rattle.live_runs.proofs.StageNotes.{adds_nothing}
use Rattle.live_runs.proofs.OwnInSegment.{segment_is}
use Rattle.live_runs.proofs.BetweenMeetings.{following, segments}
use Rattle.live_runs.proofs.LowerLaws.{ClosingLaws, LogLaws}
use Rattle.live_runs.proofs.Marks.{grown_ours, grows_as, nothing_ours, ours_append}
use Rattle.live_runs.proofs.PortNotes.{meets}
use Rattle.live_runs.proofs.OwnEntries.{pass_cases, port_passes}

module _ (logs : LogLaws) (laws : ClosingLaws) (workers : ℕ) (script : ScriptValue)
    (places : ℕ) (before_it stage : Stage) (old mid new : ℕ → Pass) (was now : ℕ → List Note)
    (stood stands : ℕ → Stand) (some : 0 < places) (after_it : Follows script.ports before_it stage)
    (meeting : IsMeeting workers script places before_it old was stood)
    (ports : (p : ℕ) → is_port script p ≡ true →
    IsPort workers script places p (now p) (stands p) (mid p))
    (went : (p : ℕ) → is_port script p ≡ true →
    Went workers script stage p (was p) (now p) (old p).shares (mid p).shares)
    (others : (p : ℕ) → is_port script p ≡ false → now p ≡ [])
    (fed : WentFeeding script stage (old feeder_number).shares (mid feeder_number).shares)
    (met : AreMet script.ports mid new) where
  abbrev early : ℕ
  early = early_of script.ports stage

  abbrev late : ℕ
  late = late_of stage

  abbrev Plain : Entry → Type 0
  Plain e = IsPlain script.ports early late e

  ports_met : ArePorts workers script places new now stands
  ports_met = record {
    ports = λ p is. meets logs laws workers script places p (now p) (stands p) (mid p) (new p)
        (λ k. met.rest k p) (λ k. met.longer k p (port_passes script p is)) (met.dids p)
        (met.letters p) (ports p is);
    others = others;
    ours = λ p is k. subst (OursAre (IsOf p)) (sym (met.longer k p (port_passes script p is)))
        (ours_append (IsOf p) (seen_at mid k p) (all_theirs (met.rest k p))
        (grown_ours (IsOf p) (seen_at old k p) (seen_at mid k p) (meeting.are.ours p is k)
        (grows_as _ (IsOf p) (λ e both. both.0) (seen_at old k p) (seen_at mid k p)
        ((went p is).grows k)))
        (nothing_ours (IsOf p) (met.rest k p)));
    feeders = λ k. subst (OursAre IsFeeders) (sym (met.longer k feeder_number refl))
        (ours_append IsFeeders (seen_at mid k feeder_number)
        (all_theirs (met.rest k feeder_number))
        (grown_ours IsFeeders (seen_at old k feeder_number) (seen_at mid k feeder_number)
        (meeting.are.feeders k)
        (grows_as _ IsFeeders (λ e both. both.0) (seen_at old k feeder_number)
        (seen_at mid k feeder_number) (fed.grows k)))
        (nothing_ours IsFeeders (met.rest k feeder_number)));
  }

  grown : (k p : ℕ) → is_pass script.ports p ≡ true →
      Grows Plain (seen_at old k p) (seen_at mid k p)
  grown k p is = by (pass_cases script p is)
    where
      by : (p ≡ feeder_number) ⊎ (is_port script p ≡ true) →
          Grows Plain (seen_at old k p) (seen_at mid k p)
      by (inl same) = subst (λ q. Grows Plain (seen_at old k q) (seen_at mid k q)) (sym same)
          (grows_as _ Plain (λ e both. both.1) (seen_at old k feeder_number)
          (seen_at mid k feeder_number) (fed.grows k))
      by (inr i) = grows_as _ Plain (λ e both. both.1) (seen_at old k p) (seen_at mid k p)
          ((went p i).grows k)

  -- what is new of each pass
  record News (k p : ℕ) : Type 0 where
    pub more : List Seen
    pub is : seen_at new k p ≡ seen_at old k p ++ more
    pub ours : OursAre Plain more

  news : (k p : ℕ) → is_pass script.ports p ≡ true → News k p
  news k p is =
      let g = grown k p is in
      record {
        more = g.more ++ all_theirs (met.rest k p);
        is = met.longer k p is ∙ ap (λ xs. xs ++ all_theirs (met.rest k p)) g.is
            ∙ append_assoc (seen_at old k p) g.more (all_theirs (met.rest k p));
        ours = ours_append Plain g.more (all_theirs (met.rest k p)) g.ours
            (nothing_ours Plain (met.rest k p));
      }

  more_at : (c : Bool) (k p : ℕ) → (c ≡ true → News k p) → List Seen
  more_at true k p n = (n refl).more
  more_at false k p n = []

  abbrev more : ℕ → ℕ → List Seen
  more k p = more_at (is_pass script.ports p) k p (λ is. news k p is)

  more_is : (c : Bool) (k p : ℕ) (n : c ≡ true → News k p) → c ≡ true →
      (seen_at new k p ≡ seen_at old k p ++ more_at c k p n) × OursAre Plain (more_at c k p n)
  unfolding more_at
  more_is true k p n is = ((n refl).is, (n refl).ours)
  more_is false k p n is = absurd (cc)

  longer_so : (k p : ℕ) → is_pass script.ports p ≡ true →
      seen_at new k p ≡ seen_at old k p ++ more k p
  longer_so k p is = (more_is (is_pass script.ports p) k p (λ is. news k p is) is).0

  told : (p : ℕ) → Adds workers script early late p (was p) (now p)
  told p = by (cases_Bool (is_port script p))
    where
      by : (is_port script p ≡ true) ⊎ (is_port script p ≡ false) →
          Adds workers script early late p (was p) (now p)
      by (inl i) = (went p i).adds
      by (inr out) = subst (Adds workers script early late p (was p))
          (meeting.are.others p out ∙ sym (others p out))
          (adds_nothing workers script early late p (was p))

  pub stage_ends : IsMeeting workers script places stage new now stands
  stage_ends = following workers script places (early_of script.ports before_it)
      (late_of before_it) stage old new was now stood stands some after_it.0 after_it.1 meeting.are
      ports_met meeting.whole meeting.met meeting.order met.whole met.met more longer_so told
      (λ owned k below. segment_is (is_pass script.ports) (seen_at old k) (seen_at new k)
      (meeting.whole k) (entries (more k feeder_number))
      (segments workers script places (early_of script.ports before_it) (late_of before_it) stage
      old new was now stood stands some after_it.0 after_it.1 meeting.are ports_met meeting.whole
      meeting.met meeting.order met.whole met.met more longer_so k below) (owned k below) Plain
      (λ p is. (more_is (is_pass script.ports p) k p (λ is. news k p is) is).1))
