-- What a port does adds up to looks, and looks to a stage.
use Rattle.std.proofs.Common.{◌∷◌, ◌≡◌, ◌++◌, Bool, List, [], false, true, inl, refl, subst, ℕ}
use Rattle.std.specs.Prelude.{if◌then◌else◌}
use Rattle.packet_entry.specs.declared.letter.Letter.{Letter}
use Rattle.histories.specs.declared.log.AskWords.{AskWords}
use Rattle.histories.specs.declared.log.Did.{Did}
use Rattle.script_lines.specs.declared.ask.Ask.{Ask}
use Rattle.script_lines.specs.declared.ask.Ask.TheVariants.{Words}
use Rattle.inspector_script.specs.Scripts.{ScriptValue}
use Rattle.run_parts.specs.Log.{Due, Note, all_due, answer_to, is_pool}
use Rattle.nfqa_msgs.specs.NoticeTexts.{told_exactly}
use Rattle.run_parts.specs.Ports.{place_in}
use Rattle.live_runs.specs.Doing.{GoesOn, HasAsked, HasHeard, HasSent, IsAnswering, IsDoing}
use Rattle.live_runs.specs.Doing.{LeavesWaiting}
use Rattle.live_runs.specs.Passes.{Pass, Receives}
use Rattle.live_runs.specs.Ports.{IsPort}
use Rattle.live_runs.specs.Stages.{Ending, MaySpeak, Opening, Stage, Went, Working}
use Rattle.live_runs.specs.Stands.{Now, answering, idle, side}
use Rattle.live_runs.proofs.PortCalls.{begins_doing, doing_gets, doing_turns}
use Rattle.live_runs.proofs.LowerLaws.{ClosingLaws, Conserve, LogLaws}
use Rattle.live_runs.proofs.StageDids.{went_on}

module _ (workers : ℕ) (script : ScriptValue) (places port : ℕ) where
  may_answer : (stage : Stage) (groups : List (List Due)) (ends : List Due) →
      IsAnswering stage → MaySpeak script.ports port stage (Now groups ends)
  may_answer (Opening place) groups ends answers = absurd answers
  may_answer Working groups ends answers = tt
  may_answer (Ending place) groups ends answers = tt

  pub next_asked : (asks left : List Ask) (words : AskWords) (old mid new : Pass) →
      HasAsked workers script places port asks (Words words ∷ left) old mid →
      HasSent workers script places port words mid new →
      HasAsked workers script places port asks left old new
  next_asked asks left words old mid new one two = record {
    on = λ stage was start_at x may is.
        two.on stage was start_at x (all_due left) may (one.on stage was start_at x may is);
  }

  pub looks_again : (old mid new : Pass) → GoesOn workers script places port old mid →
      GoesOn workers script places port mid new → GoesOn workers script places port old new
  looks_again old mid new one two = record {
    on = λ stage was start_at ends answers is.
        two.on stage was start_at ends answers (one.on stage was start_at ends answers is);
  }

idle_heard : (stage : Stage) (ends : List Due) (dids : List Did) → IsAnswering stage →
    HasHeard stage (idle ends) dids
idle_heard (Opening place) ends dids answers = absurd answers
idle_heard Working ends dids answers = inl (refl, refl)
idle_heard (Ending place) ends dids answers = inl (refl, refl)

module _ (logs : LogLaws) (laws : ClosingLaws) (conserve : Conserve) (workers : ℕ)
    (script : ScriptValue) (places port : ℕ) where
  abbrev place : ℕ
  place = place_in port script.ports

  pub looks_once : (l : Letter) (old mid new : Pass) → Receives l old mid →
      HasAsked workers script places port
      (answer_to script place mid.dids (told_exactly l.bytes)) [] mid new →
      GoesOn workers script places port old new
  looks_once l old mid new r a = record {
    on = λ stage was start_at ends answers is.
        a.on stage was start_at (Now [] ends)
        (may_answer workers script places port stage [] ends answers)
        (owes stage was start_at ends
        (all_due (answer_to script place mid.dids (told_exactly l.bytes))) mid (is_pool workers)
        refl
        (doing_gets logs laws conserve workers script places stage port was start_at [] ends l old
        mid answers r is));
  }
    where
      owes : (stage : Stage) (was : List Note) (start_at : Pass) (ends due : List Due)
          (pass : Pass) (b : Bool) → is_pool workers ≡ b →
          IsDoing workers script places stage port was start_at (answering workers [] ends due)
          pass →
          IsDoing workers script places stage port was start_at (side (Now [] ends) due) pass
      owes stage was start_at ends due pass false alone is =
          subst (λ b. IsDoing workers script places stage port was start_at
          (if b then side (Now (due ∷ []) ends) [] else side (Now [] ends) due) pass) alone is
      owes stage was start_at ends due pass true pool is =
          doing_turns logs laws conserve workers script places stage port was start_at due [] ends
          pass pool
          (subst (λ b. IsDoing workers script places stage port was start_at
          (if b then side (Now (due ∷ []) ends) [] else side (Now [] ends) due) pass) pool is)

  -- ---- behind a pool

  pub hears_more : (l : Letter) (groups : List (List Due)) (old mid new : Pass) →
      is_pool workers ≡ true → LeavesWaiting workers script places port groups old mid →
      Receives l mid new →
      LeavesWaiting workers script places port
      (groups ++ all_due (answer_to script place new.dids (told_exactly l.bytes)) ∷ []) old new
  hears_more l groups old mid new pool w r = record {
    on = λ stage was start_at ends answers is.
        waits stage was start_at ends
        (all_due (answer_to script place new.dids (told_exactly l.bytes))) new
        (doing_gets logs laws conserve workers script places stage port was start_at groups ends l
        mid new answers r (w.on stage was start_at ends answers is));
  }
    where
      waits : (stage : Stage) (was : List Note) (start_at : Pass) (ends due : List Due)
          (pass : Pass) →
          IsDoing workers script places stage port was start_at
          (answering workers groups ends due) pass →
          IsDoing workers script places stage port was start_at
          (side (Now (groups ++ due ∷ []) ends) []) pass
      waits stage was start_at ends due pass is =
          subst (λ b. IsDoing workers script places stage port was start_at
          (if b then side (Now (groups ++ due ∷ []) ends) [] else side (Now groups ends) due)
          pass) pool is

  pub answers_first : (asks : List Ask) (groups : List (List Due)) (old mid new : Pass) →
      is_pool workers ≡ true →
      LeavesWaiting workers script places port (all_due asks ∷ groups) old mid →
      HasAsked workers script places port asks [] mid new →
      LeavesWaiting workers script places port groups old new
  answers_first asks groups old mid new pool w a = record {
    on = λ stage was start_at ends answers is.
        a.on stage was start_at (Now groups ends)
        (may_answer workers script places port stage groups ends answers)
        (doing_turns logs laws conserve workers script places stage port was start_at
        (all_due asks) groups ends mid pool (w.on stage was start_at ends answers is));
  }

  pub looked_through : (stage : Stage) (was : List Note) (ends : List Due) (old new : Pass) →
      IsAnswering stage → GoesOn workers script places port old new →
      IsPort workers script places port was (idle ends) old →
      (now : List Note) × IsPort workers script places port now (idle ends) new
      × Went workers script stage port was now old.shares new.shares
  looked_through stage was ends old new answers on is =
      let a = on.on stage was old ends answers
      (begins_doing logs laws conserve workers script places stage port was old (idle ends)
      (idle_heard stage ends old.dids answers) is) in
      (a.notes, a.is, went_on workers script places port stage was old (idle ends) new answers a)
