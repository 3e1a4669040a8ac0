-- A run passes its audit, and an audit's answer is the only one.
use Rattle.std.proofs.Common.{◌≡◌, ◌≤◌, ℕ, List, length, Option, Some, None, Ok, Err, refl}
use Rattle.std.proofs.Common.{◌⊎◌, inl, inr}
use Rattle.std.proofs.Common.{ap, arith, sym, subst}
use Rattle.std.specs.Prelude.{IfSome, IsSomeAnd, IsTrue}
use Rattle.hook_chain.specs.Rules.{RuleTables}
use Rattle.inspector_script.specs.Scripts.{ScriptValue}
use Rattle.pcap_io.specs.declared.capture.Capture.{Capture}
use Rattle.histories.specs.declared.histories.Histories.{Histories}
use Rattle.journals.specs.Journal.{journal}
use Rattle.journals.specs.WellFormed.{IsWellFormed}
use Rattle.command_line.specs.Arguments.{AuditFiles, Audits, Call, Generates, Lists, Lives}
use Rattle.command_line.specs.Arguments.{Migrates, PlayFiles, Plays, ToldRun, Tries}
use Rattle.run_files.specs.declared.stop.Stop.{Stop}
use Rattle.run_files.specs.declared.stop.Stop.TheVariants as stop
use Rattle.run_files.specs.Causes.{AreTaken, AreToldBy, IsUnread}
use Rattle.run_files.specs.Files.{Contents, Counts, IsPrinted}
use Rattle.run_files.specs.Inputs.{CaptureSays, RulesSay, Said, ScriptSays, TodaysJournalSays}
use Rattle.run_files.specs.Numbers.{journal_limit}
use Rattle.journal_audit.specs.declared.finding.Finding.{Finding}
use Rattle.run_files.specs.Statuses.{status_of}
use Rattle.journal_audit.specs.Printed.{line_of}
use Rattle.journal_audit.specs.Findings.{IsAnswer, IsFound, IsRunOf}
use Rattle.commands.specs.Account.{AreAccounted}
use Rattle.commands.specs.Headline.{Account, AreKept, audit_of_run, Finds, IsAudited, IsJudged}
use Rattle.commands.specs.Headline.{IsAmiss, IsAtEnd, IsFoundBy, IsOnlyJudged, IsWritten}
use Rattle.commands.specs.Headline.{status_at_end, with_feeders}
use Rattle.commands.specs.Ending.{IsEnded, Span}
use Rattle.commands.proofs.Endings.{some_is_no_none}

-- ---- runs

-- what was written is a journal
journal_says : (file : Option (List ℕ)) (h : Histories) → file ≡ Some (journal h) →
    IsSomeAnd file (λ text. length text ≤ journal_limit) → IsWellFormed h →
    Said TodaysJournalSays file (Ok h)
journal_says file h is short formed =
    subst (λ (f : Option (List ℕ)). Said TodaysJournalSays f (Ok h)) (sym is) (
      subst (λ (f : Option (List ℕ)). IsSomeAnd f (λ text. length text ≤ journal_limit)) is short,
      record { well_formed = formed; text_is = refl },
    )

-- a rules file says nothing of feeders
one_feeder : (file : Option (List ℕ)) (tables : RuleTables) → Said RulesSay file (Ok tables) →
    tables.feeders ≡ 1
one_feeder None tables said = absurd said
one_feeder (Some text) tables said = said.1.1

-- what is known of a run of one feeder without a pool is known over the tables of its rules
pub known_alone : (feeders workers : ℕ) (tables : RuleTables) (script : ScriptValue) (c : Capture)
    (h : Histories) → tables.feeders ≡ 1 → feeders ≡ 1 → workers ≡ 1 →
    AreAccounted workers feeders (with_feeders feeders tables) script c h →
    AreAccounted 1 1 tables script c h
known_alone feeders workers tables script c h is_one one none known =
    subst (λ (n : ℕ). AreAccounted 1 1 (with_feeders n tables) script c h) (sym is_one)
    (subst (λ (n : ℕ). AreAccounted n 1 (with_feeders 1 tables) script c h) none
    (subst (λ (n : ℕ). AreAccounted workers n (with_feeders n tables) script c h) one known))

pub passes : (Known : Account) (f : PlayFiles) (old new later : Contents) →
    ((tables : RuleTables) (script : ScriptValue) (c : Capture) (h : Histories) →
    tables.feeders ≡ 1 → Known tables script c h → AreAccounted 1 1 tables script c h) →
    IsWritten Known f old new → AreKept f old new later → IsAudited (audit_of_run f) later
passes Known f old new later known w kept =
    let run = known w.tables w.script w.capture w.histories
    (one_feeder (old f.inputs.rules) w.tables w.inputs.rules_say) w.account in
    record {
      tables = w.tables;
      script = w.script;
      capture = w.capture;
      histories = w.histories;
      told = record {
        inputs = record {
          rules_say = subst (λ (file : Option (List ℕ)). Said RulesSay file (Ok w.tables))
              (sym kept.rules) w.inputs.rules_say;
          script_says = subst (λ (file : Option (List ℕ)). Said ScriptSays file (Ok w.script))
              (sym kept.script) w.inputs.script_says;
          capture_says = subst (λ (file : Option (List ℕ)). Said CaptureSays file (Ok w.capture))
              (sym kept.capture) w.inputs.capture_says;
        };
        journal_says = subst (λ (file : Option (List ℕ)). Said TodaysJournalSays file
            (Ok w.histories)) (sym kept.journal)
            (journal_says (new f.journal) w.histories w.journal_is kept.short run.formed);
      };
      run = run.run;
    }

-- ---- answers

-- what is judged of the values that are read is judged of the files
pub judged : (a : AuditFiles) (old : Contents) (tables : RuleTables) (script : ScriptValue)
    (c : Capture) (h : Histories) (found : Option Finding) → AreToldBy a old tables script c h →
    IsAnswer tables script c h found → IsJudged a old found
judged a old tables script c h None told is = record {
  tables = tables;
  script = script;
  capture = c;
  histories = h;
  told = told;
  run = is;
}
judged a old tables script c h (Some f) told is = record {
  tables = tables;
  script = script;
  capture = c;
  histories = h;
  told = told;
  found = is;
}

module _ (tables : RuleTables) (script : ScriptValue) (c : Capture) (h : Histories) where
  -- the values that a file tells are those that were read
  abbrev pub AreThese : AuditFiles → Contents → Type 0
  AreThese a old = (t : RuleTables) (s : ScriptValue) (d : Capture) (g : Histories) →
      AreToldBy a old t s d g → (t ≡ tables) × (s ≡ script) × (d ≡ c) × (g ≡ h)

  -- so what is known of the files is known of these values
  run_here : (t : RuleTables) (s : ScriptValue) (d : Capture) (g : Histories) → t ≡ tables →
      s ≡ script → d ≡ c → g ≡ h → IsRunOf t s d g → IsRunOf tables script c h
  run_here t s d g is_t is_s is_d is_g run =
      subst (λ (x : Histories). IsRunOf tables script c x) is_g
      (subst (λ (x : Capture). IsRunOf tables script x g) is_d
      (subst (λ (x : ScriptValue). IsRunOf tables x d g) is_s
      (subst (λ (x : RuleTables). IsRunOf x s d g) is_t run)))

  found_here : (t : RuleTables) (s : ScriptValue) (d : Capture) (g : Histories) (f : Finding) →
      t ≡ tables → s ≡ script → d ≡ c → g ≡ h → IsFound t s d g f → IsFound tables script c h f
  found_here t s d g f is_t is_s is_d is_g found =
      subst (λ (x : Histories). IsFound tables script c x f) is_g
      (subst (λ (x : Capture). IsFound tables script x g f) is_d
      (subst (λ (x : ScriptValue). IsFound tables x d g f) is_s
      (subst (λ (x : RuleTables). IsFound x s d g f) is_t found)))

  abbrev pub NothingIsFound : Type 0
  NothingIsFound = (f : Finding) → IsRunOf tables script c h → IsFound tables script c h f → ⊥

  abbrev pub OneIsFound : Type 0
  OneIsFound = (f g : Finding) → IsFound tables script c h f → IsFound tables script c h g → f ≡ g

  no_other : (found : Option Finding) → NothingIsFound → IsAnswer tables script c h found →
      IsRunOf tables script c h → found ≡ None
  no_other None nothing is run = refl
  no_other (Some f) nothing is run = absurd (nothing f run is)

  this_one : (found : Option Finding) (f : Finding) → NothingIsFound → OneIsFound →
      IsAnswer tables script c h found → IsFound tables script c h f → found ≡ Some f
  this_one None f nothing one is that = absurd (nothing f is that)
  this_one (Some g) f nothing one is that = ap Some (one g f is that)

  pub only_judged : (a : AuditFiles) (old : Contents) (found : Option Finding) →
      AreThese a old → NothingIsFound → OneIsFound → IsAnswer tables script c h found →
      IsOnlyJudged a old found
  only_judged a old found these nothing one is = record {
    run = λ audited.
        let same = these audited.tables audited.script audited.capture audited.histories
        audited.told in
        no_other found nothing is
        (run_here audited.tables audited.script audited.capture audited.histories same.0 same.1
        same.2 same.3 audited.run);
    finding = λ f finds.
        let same = these finds.tables finds.script finds.capture finds.histories finds.told in
        this_one found f nothing one is
        (found_here finds.tables finds.script finds.capture finds.histories f same.0 same.1 same.2
        same.3 finds.found);
  }

-- ---- ends

-- a status of 0 is an end of any command
pub at_end : (c : Call) (status : ℕ) → status ≡ 0 → IsAtEnd c status
at_end (Plays f) status is = is
at_end (Lists f) status is = is
at_end (Generates g) status is = is
at_end (Tries s) status is = is
at_end (Migrates m) status is = is
at_end (Lives l) status is = is
at_end (Audits a) status is = inl is

pub at_end_or : (c : Call) (status : ℕ) (Other : Type 0) → (status ≡ 0) ⊎ Other →
    IsAtEnd c status ⊎ Other
at_end_or c status Other (inl is) = inl (at_end c status is)
at_end_or c status Other (inr other) = inr other

-- only an audit finds anything: its end is 11 then ..
pub found_at_end : (c : Call) (old : Contents) (f : Finding) → IsFoundBy c old (Some f) →
    IsAtEnd c 11
found_at_end (Plays p) old f found = absurd (some_is_no_none f found)
found_at_end (Lists l) old f found = absurd (some_is_no_none f found)
found_at_end (Generates g) old f found = absurd (some_is_no_none f found)
found_at_end (Tries s) old f found = absurd (some_is_no_none f found)
found_at_end (Migrates m) old f found = absurd (some_is_no_none f found)
found_at_end (Lives l) old f found = absurd (some_is_no_none f found)
found_at_end (Audits a) old f found = inr refl

-- .. and it was printed
pub amiss : (c : Call) (old_count new_count : Counts) (old new : Contents) (f : Finding) →
    IsFoundBy c old (Some f) → IsPrinted (line_of f) old_count new_count new →
    IsAmiss c old_count new_count old new
amiss (Plays p) old_count new_count old new f found printed = absurd (some_is_no_none f found)
amiss (Lists l) old_count new_count old new f found printed = absurd (some_is_no_none f found)
amiss (Generates g) old_count new_count old new f found printed = absurd (some_is_no_none f found)
amiss (Tries s) old_count new_count old new f found printed = absurd (some_is_no_none f found)
amiss (Migrates m) old_count new_count old new f found printed = absurd (some_is_no_none f found)
amiss (Lives l) old_count new_count old new f found printed = absurd (some_is_no_none f found)
amiss (Audits a) old_count new_count old new f found printed =
    record { finding = f; finds = found; printed = printed }

-- files that tell something are taken
pub taken : (a : AuditFiles) (old : Contents) (tables : RuleTables) (script : ScriptValue)
    (c : Capture) (h : Histories) → AreToldBy a old tables script c h → AreTaken (ToldRun a) old
taken a old tables script c h told = (
  record {
    rules = record { value = tables; said = told.inputs.rules_say };
    script = record { value = script; said = told.inputs.script_says };
    capture = record { value = c; said = told.inputs.capture_says };
  },
  record { value = h; said = told.journal_says },
)

-- where they are, an audit stops for want of memory or at a read fault alone
pub stops : (a : AuditFiles) (s : Span) (e : Stop) → IsTrue s.tells →
    AreTaken (ToldRun a) s.old → IsEnded {T = Option Finding} (Audits a) s (Err e) →
    (status_of e ≡ 8)
    ⊎ ((status_of e ≡ 2) × IsUnread (ToldRun a) s.old_read_faults s.new_read_faults s.old)
stops a s stop.ReadFault t taken ended = inr (refl, ended.unread refl t)
stops a s stop.WriteFault t taken ended = absurd (ended.write_fault refl)
stops a s (stop.Refused w) t taken ended = absurd (ended.only t taken)
stops a s stop.NoMemory t taken ended = inl refl

-- ---- the status at the end

pub one_of_two : (found : Option Finding) (status : ℕ) → status ≡ status_at_end found →
    (status ≡ 0) ⊎ (status ≡ 11)
one_of_two None status is = inl is
one_of_two (Some f) status is = inr is

pub audited_at_0 : (a : AuditFiles) (old : Contents) (found : Option Finding) (status : ℕ) →
    status ≡ status_at_end found → status ≡ 0 → IsJudged a old found → IsAudited a old
audited_at_0 a old None status is is_0 judged = judged
audited_at_0 a old (Some f) status is is_0 judged = absurd (omega (arith, is, is_0))

pub amiss_at_11 : (c : Call) (old_count new_count : Counts) (old new : Contents) (T : Type 0)
    (found : Option Finding) (status : ℕ) → status ≡ status_at_end found → status ≡ 11 →
    IsFoundBy c old found → IfSome found (λ f. T → IsPrinted (line_of f) old_count new_count new) →
    T → IsAmiss c old_count new_count old new
amiss_at_11 c old_count new_count old new T None status is is_11 by printed t =
    absurd (omega (arith, is, is_11))
amiss_at_11 c old_count new_count old new T (Some f) status is is_11 by printed t =
    amiss c old_count new_count old new f by (printed t)

pub passes_at_end : (a : AuditFiles) (old : Contents) (found : Option Finding) (status : ℕ) →
    status ≡ status_at_end found → IsOnlyJudged a old found → IsAudited a old → status ≡ 0
passes_at_end a old None status is only audited = is
passes_at_end a old (Some f) status is only audited =
    absurd (some_is_no_none f (only.run audited))

same_finding : (f g : Finding) → Some g ≡ Some f → g ≡ f
same_finding f g same = cc

pub finds_at_end : (a : AuditFiles) (old_count new_count : Counts) (old new : Contents)
    (T : Type 0) (found : Option Finding) (f : Finding) (status : ℕ) →
    status ≡ status_at_end found → IsOnlyJudged a old found →
    IfSome found (λ g. T → IsPrinted (line_of g) old_count new_count new) → T → Finds a old f →
    (status ≡ 11) × IsPrinted (line_of f) old_count new_count new
finds_at_end a old_count new_count old new T None f status is only printed t finds =
    absurd (some_is_no_none f (sym (only.finding f finds)))
finds_at_end a old_count new_count old new T (Some g) f status is only printed t finds = (
  is,
  subst (λ (x : Finding). IsPrinted (line_of x) old_count new_count new)
      (same_finding f g (only.finding f finds)) (printed t),
)

pub complete_at_end : (c : Call) (old : Contents) (found : Option Finding) (status : ℕ) →
    status ≡ status_at_end found → IsFoundBy c old found → IsAtEnd c status
complete_at_end c old None status is by = at_end c status is
complete_at_end c old (Some f) status is by =
    subst (IsAtEnd c) (sym is) (found_at_end c old f by)

pub none_at_0 : (found : Option Finding) (status : ℕ) → status ≡ status_at_end found →
    (status ≡ 0) ⊎ (status ≡ 3) → found ≡ None
none_at_0 None status is ends = refl
none_at_0 (Some f) status is (inl is_0) = absurd (omega (arith, is, is_0))
none_at_0 (Some f) status is (inr is_3) = absurd (omega (arith, is, is_3))

pub touched_at_11 : (P : Type 0) (found : Option Finding) (status : ℕ) →
    status ≡ status_at_end found → (status ≡ 0 → ⊥) → IfSome found (λ _. P) → P
touched_at_11 P None status is not_0 touched = absurd (not_0 is)
touched_at_11 P (Some f) status is not_0 touched = touched
